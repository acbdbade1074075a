use Rattle.commands.proofs.Servings.{all_counted}
use Rattle.commands.proofs.keeping.serve_found.Goals as goal

pub returns-clause-served : goal.returns-clause-served
returns-clause-served g c =
    all_counted c.as_slice.result.now c.in_ok-counts.counts.items c.args.serving.requests
    c.in_ok-counts.ensures (rw c.as_slice.ensures.value c.in_ok-shifts.ensures.served)
