-- Values that versions share, by pointers.
use Rattle.std.specs.Prelude.{List, map}
use Rattle.std.specs.Arc.{arc_value}
use Rattle.std.specs.declared.sync.Arc.{Arc}

-- the values that a list of pointers leads to
abbrev pub values_in : {X Z : Type 0} → List (Arc X Z) → List X
values_in pointers = map (λ p. arc_value p) pointers
