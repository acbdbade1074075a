use Rattle.std.proofs.Common.{Err, ap, sym, subst, ◌∙◌}
use Rattle.journal.specs.Contents.{contents_in}
use Rattle.journal.specs.Records.{Recovers}
use Rattle.kept_walk.specs.Refusals.{Denies, GivesStore}
use Rattle.kept_walk.specs.declared.error.KeptError.{KeptError}
use Rattle.kept_walk.proofs.Refusing.{by_records, none_left}
use Rattle.kept_walk.proofs.OneStore.{is_denied, is_kept, only_kept}
use Rattle.kept_walk.proofs.journal_state.Kept.read.Goals as goal

pub returns-in-Ok-clause-found : goal.returns-in-Ok-clause-found
returns-in-Ok-clause-found c =
    is_kept c.args.file.now (contents_in c.deref.result.now) c.read_contents.result
    (subst (λ vs. Recovers c.args.file.now (contents_in vs)) (sym c.deref.ensures.value)
    c.in-Ok.ensures.found) c.read_contents.ensures

pub returns-in-Ok-clause-only : goal.returns-in-Ok-clause-only
returns-in-Ok-clause-only c store kept =
    only_kept c.args.file.now (contents_in c.deref.result.now) c.read_contents.result store kept
    (ap contents_in c.deref.ensures.value ∙ c.in-Ok.ensures.only kept.contents kept.recovers)
    c.read_contents.ensures

pub returns-in-Ok-clause-refused : goal.returns-in-Ok-clause-refused
returns-in-Ok-clause-refused c =
    is_denied c.args.file.now (contents_in c.deref.result.now) c.read_contents.result
    (subst (λ vs. Recovers c.args.file.now (contents_in vs)) (sym c.deref.ensures.value)
    c.in-Ok.ensures.found) c.read_contents.ensures

pub returns-in-Err : goal.returns-in-Err
returns-in-Err c = record {
  found = tt;
  only =
      λ store kept. subst (λ (e : KeptError). GivesStore store (Err e)) (sym c.of_records.ensures)
      (none_left store c.in-Err.error (c.in-Err.ensures.only kept.contents kept.recovers));
  refused =
      subst (Denies c.args.file.now) (sym c.of_records.ensures)
      (by_records c.args.file.now c.recover.result c.in-Err.error c.in-Err.is
      c.recover.ensures.checksum c.recover.ensures.length c.recover.ensures.magic
      c.recover.ensures.version c.recover.ensures.reading);
}
