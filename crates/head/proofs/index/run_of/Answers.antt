use Rattle.pages.specs.Sorted.{entries_of, place_of}
use Rattle.head.proofs.NameRuns.{run_between}
use Rattle.head.proofs.index.run_of.Goals as goal

pub returns-clause-run : goal.returns-clause-run
returns-clause-run c =
    run_between c.args.name.now (entries_of c.args.lists.now) (place_of c.args.lists.now c.first_of.result) (place_of c.args.lists.now c.first_after.result)
    c.first_of.ensures.place c.first_after.ensures.place
