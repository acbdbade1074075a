-- A head that has grown, as a part.
use Rattle.std.specs.Prelude.{ℕ, ◌+◌, List, [], ◌∷◌, refl}
use Rattle.labels.specs.Rows.{Row}
use Rattle.whole_audit.specs.Growing.{GrowsTo}
use Rattle.kept_world.specs.Births.{IsPartOf}
use Rattle.kept_world.specs.States.{numbered}

pub grows : (n : ℕ) (p q : List Row) → IsPartOf p q → GrowsTo (numbered n p) (numbered n q)
grows n [] q h = tt
grows n (x ∷ p) [] h = absurd h
grows n (x ∷ p) (y ∷ q) h = (refl, h.0, h.1, grows (n + 1) p q h.2)
