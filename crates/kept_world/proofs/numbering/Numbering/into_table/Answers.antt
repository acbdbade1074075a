use Rattle.std.proofs.Common.{◌≤◌, sym, subst, map, length, List, ℕ}
use Rattle.labels.specs.Parts.{IsPart}
use Rattle.labels.specs.Rows.{Row}
use Rattle.kept_world.specs.States.{max_series}
use Rattle.kept_world.specs.Sound.{AreApart}
use Rattle.kept_world.proofs.Parts.{part_numbered}
use Rattle.kept_world.proofs.numbering.Numbering.into_table.Goals as goal

pub of_series-requires : goal.of_series-requires
of_series-requires c =
    let rows : List Row = map (λ (r : ℕ × Row). r.1) c.self.inside.rows.items in
    subst IsPart (sym c.self.invariant.0)
    (part_numbered rows
    (subst (λ (rs : List Row). length rs ≤ max_series) (sym c.self.view_is) c.requires.few)
    (subst (λ (rs : List Row). AreApart (map (λ (r : Row). r.0) rs)) (sym c.self.view_is) c.requires.apart)
    c.self.invariant.1)
