-- Pairs by the places where they stand.
use Rattle.std.specs.Prelude.{ℕ, ◌≤◌, List, map, slice_range}
use Rattle.std.specs.List.{All}
use Rattle.std.specs.Str.{IsCharBoundary}
use Rattle.labels.specs.declared.text.Place.{Place}

-- what stands at a place: from its start to its middle, and from there to its end
abbrev pub pair_at : List ℕ → Place → List ℕ × List ℕ
pair_at text p = (slice_range text p.start p.middle, slice_range text p.middle p.end)

-- what stands at each of the places
abbrev pub pairs_at : List ℕ → List Place → List (List ℕ × List ℕ)
pairs_at text ps = map (pair_at text) ps

-- the places are in the text, where it may be cut
pub record IsPlaced (text : List ℕ) (p : Place) : Type 0 where
  pub named : p.start ≤ p.middle
  pub valued : p.middle ≤ p.end
  pub start_boundary : IsCharBoundary text p.start
  pub middle_boundary : IsCharBoundary text p.middle
  pub end_boundary : IsCharBoundary text p.end

-- each of the places is in the text
abbrev pub AllPlaced : List ℕ → List Place → Type 0
AllPlaced text ps = All (IsPlaced text) ps
