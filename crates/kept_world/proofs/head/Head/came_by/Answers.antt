use Rattle.std.proofs.Common.{◌≡◌, length, arith, sym, ap, subst, ◌∙◌, map, filter, List, nat_le}
use Rattle.labels.specs.Labels.{Labels}
use Rattle.labels.specs.Rows.{Row}
use Rattle.kept_world.specs.States.{HeadSeries}
use Rattle.kept_world.specs.Births.{came_by}
use Rattle.kept_world.specs.Sound.{AreApart}
use Rattle.kept_world.proofs.Apart.{apart-filter, sets_came, sets_many}
use Rattle.kept_world.proofs.Gathering.{came_few}
use Rattle.kept_world.proofs.head.Head.came_by.Goals as goal

pub into_table-requires-clause-few : goal.into_table-requires-clause-few
into_table-requires-clause-few c =
    let head : List HeadSeries = c.self.inside.series.items in
    let rows : length c.in_ok-rows.rows ≡ length (came_by c.args.number head) =
    ap length (c.in_ok-rows.ensures ∙ ap (came_by c.args.number) c.deref.ensures.value) in
    let few = came_few c.args.number head in
    let many = sets_many head in
    let all = c.self.invariant.few in
    omega (arith, rows, few, many, all)

pub into_table-requires-clause-apart : goal.into_table-requires-clause-apart
into_table-requires-clause-apart c =
    let head : List HeadSeries = c.self.inside.series.items in
    let p = λ (e : HeadSeries). nat_le e.born c.args.number in
    subst (λ (ls : List Labels). AreApart ls)
    (sym (ap (map (λ (r : Row). r.0)) (c.in_ok-rows.ensures ∙ ap (came_by c.args.number) c.deref.ensures.value) ∙ sets_came c.args.number (filter p head)))
    (apart-filter p head c.self.invariant.apart)
