-- Lists that are kept as bytes.
use Rattle.std.specs.List.{All}
use Rattle.std.specs.List.Sorted.{IsStrictlyIncreasing}
use Rattle.std.specs.Prelude.{◌≡◌, ℕ, ◌≤◌, List, length, map, ◌-◌, ◌%◌, slice_range}
use Rattle.index_reader.specs.declared.lists.ListSpan.{ListSpan}
use Rattle.index_reader.specs.References.{references_in}

-- the references at a place
abbrev pub kept_list_at : List ℕ → ListSpan → List ℕ
kept_list_at bytes p = references_in (slice_range bytes p.start p.end)

-- the references at each of the places
abbrev pub kept_lists_at : List ℕ → List ListSpan → List (List ℕ)
kept_lists_at bytes ps = map (kept_list_at bytes) ps

-- a list stands here
pub record IsListAt (bytes : List ℕ) (p : ListSpan) : Type 0 where
  pub ordered : p.start ≤ p.end
  pub inside : p.end ≤ length bytes
  pub whole : (p.end - p.start) % 4 ≡ 0
  pub increasing : IsStrictlyIncreasing (kept_list_at bytes p)

-- a list stands at each of the places
abbrev pub AreListsAt : List ℕ → List ListSpan → Type 0
AreListsAt bytes ps = All (IsListAt bytes) ps
