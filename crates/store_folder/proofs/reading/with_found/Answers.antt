use Rattle.std.proofs.Common.{ℕ, List, subst, sym}
use Rattle.data_folder.specs.Folders.{HasFile}
use Rattle.data_folder.specs.JournalFile.{journal_name}
use Rattle.store_folder.specs.Journals.{IsJournalOf}
use Rattle.store_folder.proofs.reading.with_found.Goals as goal

pub with_file-requires-clause-has : goal.with_file-requires-clause-has
with_file-requires-clause-has g c κs within =
    let f = g.F.Folder in
    subst (λ (bytes : List ℕ). HasFile f.shows f.kept journal_name bytes c.args.folder.now)
    (sym c.deref.ensures.value) c.requires.has

pub returns-in-Ok-clause-only : goal.returns-in-Ok-clause-only
returns-in-Ok-clause-only g c tells saved parts events is at =
    c.in-Ok.ensures.only tells saved parts events
    (subst (λ (bytes : List ℕ). IsJournalOf bytes saved events) (sym c.deref.ensures.value) is) at

pub returns-clause-only : goal.returns-clause-only
returns-clause-only g c tells saved parts events is at =
    c.in-Err.ensures.only tells saved parts events
    (subst (λ (bytes : List ℕ). IsJournalOf bytes saved events) (sym c.deref.ensures.value) is) at
