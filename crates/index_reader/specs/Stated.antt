-- What an index states of its series and its postings, and whether both say the same.
use Rattle.std.specs.Prelude.{◌≡◌, ℕ, ◌≤◌, List, [], ◌∷◌, length}
use Rattle.std.specs.List.{AllByRecursion, Contains}
use Rattle.index_reader.specs.Indexes.{Series, references, references_with}
use Rattle.index_reader.specs.Spelled.{lists_for}

-- the series of the entries, the pairs of the offset table, and the references that each pair lists
pub record Stated : Type 0 where
  pub series : List Series
  pub pairs : List (List ℕ × List ℕ)
  pub lists : List (List ℕ)

-- the pairs are the empty one and after it exactly those that series carry; the empty pair lists
-- all series, and each other pair the series that carry it
pub record Agrees (stated : Stated) : Type 0 where
  pub others : List (List ℕ × List ℕ)
  pub pairs : stated.pairs ≡ ([], []) ∷ others
  pub lists : stated.lists ≡ references stated.series ∷ lists_for others stated.series
  pub carried : (name value : List ℕ) → Contains others (name, value)
      → references_with name value stated.series ≡ [] → ⊥
  pub listed : (name value : List ℕ) → (references_with name value stated.series ≡ [] → ⊥)
      → Contains others (name, value)

-- at most 1,048,576 series, none of more than 64 labels
pub record AreFew (series : List Series) : Type 0 where
  pub few : length series ≤ 1048576
  pub few_labels : AllByRecursion (λ s. length s.labels ≤ 64) series
