use Rattle.data_folder.proofs.Moments.{untouched_on}
use Rattle.commands.proofs.keeping.read_data.Goals as goal

pub returns-in-Err-check_nothing-clause-whole : goal.returns-in-Err-check_nothing-clause-whole
returns-in-Err-check_nothing-clause-whole g c tells x shown other =
    let f = g.H.Folder in
    untouched_on f.shows f.kept f.moment f.left_since g.met.H.Folder.earlier c.args.disk.now
    c.open_store.new.folder c.check_nothing.new.disk (c.open_store.ensures.whole tells x shown other)
    c.check_nothing.ensures.untouched
