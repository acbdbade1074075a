use Rattle.std.proofs.Common.{◌≡◌, length, arith, ap, ◌∙◌, [], List}
use Rattle.kept_world.specs.States.{HeadSeries, rows_below}
use Rattle.kept_world.proofs.Apart.{sets_many}
use Rattle.kept_world.proofs.Gathering.{below_few}
use Rattle.kept_world.proofs.head.Head.leaving.Goals as goal

pub returns-clause-few : goal.returns-clause-few
returns-clause-few c =
    let head : List HeadSeries = c.self.inside.series.items in
    let rows : length c.in_ok-rows_below.field-0 ≡ length (rows_below c.args.time.now [] head) =
    ap length (c.in_ok-rows_below.ensures ∙ ap (rows_below c.args.time.now []) c.deref.ensures.value) in
    let few = below_few c.args.time.now [] head in
    let many = sets_many head in
    let all = c.self.invariant.few in
    omega (arith, rows, few, many, all)
