use Rattle.data_folder.proofs.Sweeps.{none_changed}
use Rattle.data_folder.proofs.listing.list_names.Goals as goal

pub returns-clause-kept : goal.returns-clause-kept
returns-clause-kept g c names =
    let f = g.F.Folder in
    none_changed f.shows f.kept f.sound f.moment f.left_since g.met.F.Folder.only_now names
    c.args.folder.now c.names.new.self c.names.ensures.all c.names.ensures.sound c.names.ensures.time
