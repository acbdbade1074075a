use Rattle.data_folder.proofs.Sweeps.{nothing_removed}
use Rattle.store_folder.proofs.writing.make_folders.Goals as goal

pub returns-in_default-clause-stays : goal.returns-in_default-clause-stays
returns-in_default-clause-stays g c names =
    let f = g.F.Folder in
    nothing_removed f.shows f.kept f.sound f.moment f.left_since g.met.F.Folder.only_now names
    c.args.folder.now

pub returns-in_default-format-clause-stays : goal.returns-in_default-format-clause-stays
returns-in_default-format-clause-stays g c names =
    let f = g.F.Folder in
    nothing_removed f.shows f.kept f.sound f.moment f.left_since g.met.F.Folder.only_now names
    c.args.folder.now
