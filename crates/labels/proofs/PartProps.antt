-- That a list of rows is a part is one fact.
use Rattle.std.specs.Prelude.{[], ◌∷◌}
use Rattle.std.specs.Coded.{×_prop, Π_prop, →_prop, Unit-prop, le_prop, Coded-set, coded_bool}
use Rattle.std.proofs.Math.Dec.{T_prop}
use Rattle.labels.specs.Parts.{Part, AreDistinct, IsPart}

pub AreDistinct-prop : (part : Part) → IsProp (AreDistinct part)
AreDistinct-prop [] = Unit-prop
AreDistinct-prop (row ∷ rows) = ×_prop (Π_prop (λ other. →_prop (Coded-set coded_bool _ _))) (AreDistinct-prop rows)

pub IsPart-prop : (part : Part) → IsProp (IsPart part)
IsPart-prop part a b = λ i. record {
  ascending = Π_prop (λ k. →_prop le_prop) a.ascending b.ascending i;
  in_range = Π_prop (λ k. →_prop le_prop) a.in_range b.in_range i;
  distinct = AreDistinct-prop part a.distinct b.distinct i;
  times = Π_prop (λ row. →_prop (T_prop _)) a.times b.times i;
}
