use Rattle.data_folder.specs.Folders.{Left}
use Rattle.store_backup.proofs.Targets.{begun_whole, stay_beside, written_whole}
use Rattle.store_backup.proofs.begun.begin_journal.Goals as goal

pub returns-in-Err-clause-any_moment : goal.returns-in-Err-clause-any_moment
returns-in-Err-clause-any_moment g c new files t apart there =
    let f = g.F.Folder in
    written_whole f.shows f.kept f.sound f.moment f.left_since g.met.F.Folder.only_now c.args.folder
    c.write.new.self files new (λ (left : Left). Unit {0}) c.write.ensures.time c.requires.none.0
    c.requires.none.1

pub returns-in-Err-replace-clause-any_moment : goal.returns-in-Err-replace-clause-any_moment
returns-in-Err-replace-clause-any_moment g c new files t apart there =
    let f = g.F.Folder in
    begun_whole f.shows f.kept f.sound f.moment f.left_since g.met.F.Folder.only_now c.args.folder
    c.write.new.self c.replace.new.self files new c.args.text.now (λ (left : Left). Unit {0})
    c.write.ensures.time c.write.ensures.others c.in-Ok.ensures.written c.replace.ensures.time
    c.requires.none.0 c.requires.none.1 t apart there

pub returns-in-Ok-replace-clause-any_moment : goal.returns-in-Ok-replace-clause-any_moment
returns-in-Ok-replace-clause-any_moment g c new files t apart there =
    let f = g.F.Folder in
    begun_whole f.shows f.kept f.sound f.moment f.left_since g.met.F.Folder.only_now c.args.folder
    c.write.new.self c.replace.new.self files new c.args.text.now (λ (left : Left). Unit {0})
    c.write.ensures.time c.write.ensures.others c.in-Ok.ensures.written c.replace.ensures.time
    c.requires.none.0 c.requires.none.1 t apart there

pub returns-in-Ok-replace-clause-files : goal.returns-in-Ok-replace-clause-files
returns-in-Ok-replace-clause-files g c files apart there =
    let f = g.F.Folder in
    stay_beside f.shows f.kept f.sound f.moment f.left_since g.met.F.Folder.only_now c.args.folder
    c.write.new.self c.replace.new.self c.write.ensures.others c.replace.ensures.others files apart
    there
