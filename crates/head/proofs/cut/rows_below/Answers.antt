use Rattle.std.proofs.Common.{◌≡◌, ◌≤◌, length, ◌∙◌, ap, subst, rules, to_z, of_z, w64}
use Rattle.std.specs.Prelude.{pos, ◌-ℤ◌}
use Rattle.head.specs.Heads.{SnapshotParts}
use Rattle.head.specs.HeadRows.{rows_within}
use Rattle.head.specs.Cuts.{AreLeaving}
use Rattle.head.specs.Snapshots.{parts_in}
use Rattle.head.proofs.Leaving.{leaving_rows}
use Rattle.head.proofs.cut.rows_below.Goals as goal

pub returns : goal.returns
returns c =
    let s : SnapshotParts = parts_in c.at.inside in
    let floor_is : to_z w64 (of_z w64 c.at.inside.floor) ≡ c.at.inside.floor = search rules in
    let time_is : to_z w64 (of_z w64 c.args.time) ≡ c.args.time = search rules in
    let last_is : to_z w64 (of_z w64 (to_z w64 (of_z w64 c.args.time) -ℤ pos 1)) ≡ c.args.time -ℤ pos 1 = (search rules) ∙ ap (λ t. t -ℤ pos 1) time_is in
    let found : c.in_ok-rows.rows.items ≡ rows_within s.floor (c.args.time -ℤ pos 1) s.head =
    c.in_ok-rows.ensures ∙ (λ i. rows_within (floor_is i) (last_is i) (c.series.ensures i)) in
    let few : length s.head ≤ 1048576 = c.at.inside.head.few in
    subst (λ (v : SnapshotParts). AreLeaving c.args.time v c.sort_rows.new.rows.items) c.at.view_is
    (leaving_rows c.args.time s c.in_ok-rows.rows.items c.sort_rows.new.rows.items c.at.invariant few found c.in_ok-sort_rows.ensures.moved c.in_ok-sort_rows.ensures.sorted c.in_ok-sort_rows.ensures.stable)
