-- The pairs that a part's series carry.
use Rattle.std.specs.Prelude.{◌≡◌, ℕ, ◌+◌, ◌<◌, List, [], length, get_or}
use Rattle.std.specs.List.{Contains}
use Rattle.std.specs.declared.cmp.Ordering.TheVariants.{Less}
use Rattle.labels.specs.Labels.{pair_cmp}
use Rattle.labels.specs.Parts.{Part, references_where, carries}

-- a name and a value
abbrev pub Pair : Type 0
Pair = List ℕ × List ℕ

-- pairs strictly in their order
abbrev pub ArePairsInOrder : List Pair → Type 0
ArePairsInOrder pairs =
    (k : ℕ) → k + 1 < length pairs
    → pair_cmp (get_or pairs k ([], [])) (get_or pairs (k + 1) ([], [])) ≡ Less

-- the pairs, in their order, are exactly those that series of the part carry
pub record AreCarriedPairs (part : Part) (pairs : List Pair) : Type 0 where
  pub in_order : ArePairsInOrder pairs
  pub carried : (name value : List ℕ) → Contains pairs (name, value)
      → references_where (carries name value) part ≡ [] → ⊥
  pub absent : (name value : List ℕ) → (Contains pairs (name, value) → ⊥)
      → references_where (carries name value) part ≡ []
