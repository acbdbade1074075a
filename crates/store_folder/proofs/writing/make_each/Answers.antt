use Rattle.data_folder.proofs.Sweeps.{then_kept}
use Rattle.store_folder.proofs.writing.make_each.Goals as goal

pub returns-in_default-add_folder-clause-stays : goal.returns-in_default-add_folder-clause-stays
returns-in_default-add_folder-clause-stays g c names =
    let f = g.F.Folder in
    then_kept f.shows f.kept f.sound f.moment f.left_since g.met.F.Folder.only_now names
    c.args.folder.now c.add_folder.new.folder c.add_folder-2.new.folder
    (c.add_folder.ensures.kept names) (c.add_folder-2.ensures.kept names)

pub returns-in_default-add_folder-2-clause-stays :
    goal.returns-in_default-add_folder-2-clause-stays
returns-in_default-add_folder-2-clause-stays g c names =
    let f = g.F.Folder in
    then_kept f.shows f.kept f.sound f.moment f.left_since g.met.F.Folder.only_now names
    c.args.folder.now c.add_folder-2.new.folder c.add_folder-3.new.folder
    (then_kept f.shows f.kept f.sound f.moment f.left_since g.met.F.Folder.only_now names
    c.args.folder.now c.add_folder.new.folder c.add_folder-2.new.folder
    (c.add_folder.ensures.kept names) (c.add_folder-2.ensures.kept names))
    (c.add_folder-3.ensures.kept names)

pub returns-clause-stays : goal.returns-clause-stays
returns-clause-stays g c names =
    let f = g.F.Folder in
    then_kept f.shows f.kept f.sound f.moment f.left_since g.met.F.Folder.only_now names
    c.args.folder.now c.add_folder-2.new.folder c.add_folder-3.new.folder
    (then_kept f.shows f.kept f.sound f.moment f.left_since g.met.F.Folder.only_now names
    c.args.folder.now c.add_folder.new.folder c.add_folder-2.new.folder
    (c.add_folder.ensures.kept names) (c.add_folder-2.ensures.kept names))
    (c.add_folder-3.ensures.kept names)
