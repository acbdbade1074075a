use Rattle.data_folder.proofs.Moments.{untouched}
use Rattle.std.proofs.Common.{List, subst, sym}
use Rattle.head.specs.Worlds.{Event}
use Rattle.head_record.specs.Saved.{Saved}
use Rattle.store_folder.specs.Faults.{GivesFound}
use Rattle.store_folder.specs.Holding.{AreAt}
use Rattle.store_folder.proofs.reading.with_file.Goals as goal

pub with_blocks-requires-clause-journal : goal.with_blocks-requires-clause-journal
with_blocks-requires-clause-journal g c κs within = c.in-Ok.ensures.found

pub returns-in-Err-clause-untouched : goal.returns-in-Err-clause-untouched
returns-in-Err-clause-untouched g c =
    let f = g.F.Folder in
    untouched f.shows f.kept f.moment f.left_since c.args.folder.now

pub returns-in-Err-clause-refused : goal.returns-in-Err-clause-refused
returns-in-Err-clause-refused g c = (c.args.file.now, c.requires.has, c.in-Err.ensures.refused)

pub returns-in-Ok-clause-only : goal.returns-in-Ok-clause-only
returns-in-Ok-clause-only g c tells saved parts events is at =
    let f = g.F.Folder in
    let j = c.in-Ok.journal in
    let same = c.in-Ok.ensures.only saved events is in
    subst (λ (x : Saved). GivesFound (f.failed c.with_blocks.new.folder) x parts events
    c.with_blocks.result) same.0
    (subst (λ (x : List Event). GivesFound (f.failed c.with_blocks.new.folder) j.head parts x
    c.with_blocks.result) same.1
    (c.with_blocks.ensures.only tells parts
    (subst (λ (x : Saved). AreAt f.shows f.kept x.places parts c.args.folder.now) (sym same.0) at)))

pub returns-in-Err-clause-only : goal.returns-in-Err-clause-only
returns-in-Err-clause-only g c tells saved parts events is at =
    c.in-Err.ensures.only saved events is
