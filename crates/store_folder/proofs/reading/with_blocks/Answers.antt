use Rattle.std.proofs.Common.{List, map, refl, sym, subst}
use Rattle.data_folder.specs.JournalFile.{journal_name}
use Rattle.head.specs.Blocks.{part_in}
use Rattle.head_record.specs.Saved.{Place}
use Rattle.store_folder.specs.Holding.{AreAt}
use Rattle.store_folder.proofs.Files.{file_stays}
use Rattle.store_folder.specs.Faults.{DeniesOne}
use Rattle.store_folder.proofs.reading.with_blocks.Goals as goal

pub returns-in-Ok-clause-found : goal.returns-in-Ok-clause-found
returns-in-Ok-clause-found g c =
    let f = g.F.Folder in
    let new = c.read_blocks.new.folder in
    record {
      file = c.args.file.now;
      has = file_stays f.shows f.kept journal_name c.args.file.now c.args.folder.now new
          c.read_blocks.ensures.untouched.all c.requires.has;
      journal = c.requires.journal;
      blocks = subst (λ (ps : List Place).
          AreAt f.shows f.kept ps (map part_in c.in-Ok.blocks.items) new) c.places.ensures
          c.in-Ok.ensures.found;
    }

pub returns-in-Err-clause-refused : goal.returns-in-Err-clause-refused
returns-in-Err-clause-refused g c =
    let f = g.F.Folder in
    let new = c.read_blocks.new.folder in (
      c.args.file.now,
      c.args.journal.head,
      c.args.journal.events.items,
      file_stays f.shows f.kept journal_name c.args.file.now c.args.folder.now new
          c.read_blocks.ensures.untouched.all c.requires.has,
      c.requires.journal.is,
      subst (λ (ps : List Place). DeniesOne f.shows f.kept f.failed new ps c.in-Err.fault)
          c.places.ensures c.in-Err.ensures.refused,
    )

pub returns-in-Ok-clause-only : goal.returns-in-Ok-clause-only
returns-in-Ok-clause-only g c tells parts at =
    let f = g.F.Folder in
    record {
      head = refl;
      events = refl;
      blocks = c.in-Ok.ensures.only tells parts
          (subst (λ (ps : List Place). AreAt f.shows f.kept ps parts c.args.folder.now)
          (sym c.places.ensures) at);
    }

pub returns-in-Err-clause-only : goal.returns-in-Err-clause-only
returns-in-Err-clause-only g c tells parts at =
    let f = g.F.Folder in
    c.in-Err.ensures.only tells parts
    (subst (λ (ps : List Place). AreAt f.shows f.kept ps parts c.args.folder.now)
    (sym c.places.ensures) at)
