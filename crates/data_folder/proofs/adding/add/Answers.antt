use Rattle.data_folder.specs.Folders.{Left}
use Rattle.data_folder.proofs.Sweeps.{one_changed}
use Rattle.data_folder.proofs.adding.add.Goals as goal

pub returns-clause-kept : goal.returns-clause-kept
returns-clause-kept g c names apart =
    let f = g.F.Folder in
    one_changed f.shows f.kept f.sound f.moment f.left_since g.met.F.Folder.only_now
    c.args.name.now names c.args.folder.now c.write.new.self (λ (left : Left). Unit {0}) apart
    c.write.ensures.others c.write.ensures.sound c.write.ensures.time
