use Rattle.std.proofs.Common.{◌∙◌}
use Rattle.data_folder.specs.Sweeping.{names_in}
use Rattle.data_folder.proofs.Sweeps.{nothing_removed}
use Rattle.store_folder.specs.Blocks.{name_in}
use Rattle.store_folder.proofs.Causes.{apart_cause}
use Rattle.store_folder.proofs.Writes.{one_wrote}
use Rattle.store_folder.proofs.writing.write_in.Goals as goal

pub returns-in_default-clause-stays : goal.returns-in_default-clause-stays
returns-in_default-clause-stays g c =
    let f = g.F.Folder in
    nothing_removed f.shows f.kept f.sound f.moment f.left_since g.met.F.Folder.only_now
    (names_in c.args.kept.now.items) c.args.folder.now

pub returns-in-Ok-write_apart-clause-wrote : goal.returns-in-Ok-write_apart-clause-wrote
returns-in-Ok-write_apart-clause-wrote g c =
    let f = g.F.Folder in
    let name = name_in c.args.number c.args.name.now in
    one_wrote f.shows f.kept f.sound f.moment f.left_since g.met.F.Folder.only_now name
    c.as_str.result.now c.args.bytes.now (names_in c.args.kept.now.items)
    (names_in c.write_apart.new.kept.items) c.args.folder.now c.write_apart.new.folder
    (c.as_str.ensures.value ∙ c.in-Ok.ensures) c.in-Ok-write_apart.ensures.written
    c.in-Ok-write_apart.ensures.kept c.write_apart.ensures.stays

pub returns-clause-cause : goal.returns-clause-cause
returns-clause-cause g c =
    let f = g.F.Folder in
    apart_cause c.write_apart.result c.in-Err.error (f.failed c.write_apart.new.folder) c.in-Err.is
    c.write_apart.ensures.failed
