-- Lists in pages, and in pages of pages.
use Rattle.std.specs.Prelude.{◌≡◌, ℕ, ◌*◌, ◌^◌, ◌≤◌, List, [], ◌∷◌, ◌++◌, map, length, slice_set}
use Rattle.std.specs.Prelude.{slice_index_or, Vec, All}
use Rattle.std.specs.Arc.{arc_value}
use Rattle.std.specs.declared.sync.Arc.{Arc}
use Rattle.std.proofs.Common.{Global}
use Rattle.pages.specs.declared.page.TheConstants.{FAN}

-- the lists, one after another
abbrev pub flattened : {X : Type 0} → List (List X) → List X
flattened [] = []
flattened (part ∷ parts) = part ++ flattened parts

-- each part but the last has this many items, and the last has at most as many
abbrev pub IsPaged : {X : Type 0} → ℕ → List (List X) → Type 0
IsPaged n [] = Unit {0}
IsPaged n (part ∷ []) = length part ≤ n
IsPaged n (part ∷ next ∷ parts) = (length part ≡ n) × IsPaged n (next ∷ parts)

-- the list starts with these items
abbrev pub IsPrefix : {X : Type 0} → List X → List X → Type 0
IsPrefix {X} front xs = (rest : List X) × (xs ≡ front ++ rest)

-- the list with what stands at a place changed
abbrev pub IsChanged : {X : Type 0} → (X → X) → List X → ℕ → List X → Type 0
IsChanged {X} after old at new = (d : X) → new ≡ slice_set old at (after (slice_index_or old at d))

-- the same list, but for what stands at a place
abbrev pub IsSetAt : {X : Type 0} → List X → ℕ → List X → Type 0
IsSetAt {X} old at new = (x : X) × (new ≡ slice_set old at x)

-- a leaf may have this many entries
abbrev pub IsLeafSize : ℕ → Type 0
IsLeafSize n = (8 ≤ n) × (n ≤ 2 ^ 16)

-- a page, which versions share
abbrev pub Page : Type 0 → Type 0
Page E = Arc (Vec E Global) Global

module _ {E X : Type 0} (item : E → X) where
  -- the list of a leaf
  abbrev pub leaf_list : Page E → List X
  leaf_list leaf = map item (arc_value leaf).items

  abbrev pub leaf_lists : List (Page E) → List (List X)
  leaf_lists leaves = map leaf_list leaves

  -- the entries of leaves
  abbrev pub leaves_list : List (Page E) → List X
  leaves_list leaves = flattened (leaf_lists leaves)

  -- the lists of the leaves of a branch
  abbrev pub branch_parts : Page (Page E) → List (List X)
  branch_parts branch = leaf_lists (arc_value branch).items

  abbrev pub branch_list : Page (Page E) → List X
  branch_list branch = flattened (branch_parts branch)

  -- the lists of the branches
  abbrev pub branch_lists : List (Page (Page E)) → List (List X)
  branch_lists branches = map branch_list branches

  -- the entries of branches
  abbrev pub branches_list : List (Page (Page E)) → List X
  branches_list branches = flattened (branch_lists branches)

  abbrev pub top_list : Page (Page (Page E)) → List X
  top_list top = flattened (branch_lists (arc_value top).items)

  -- the lists of the pages of each group
  abbrev pub groups_of : List (Page (Page E)) → List (List (List X))
  groups_of groups = map branch_parts groups

  abbrev pub top_groups : Page (Page (Page E)) → List (List (List X))
  top_groups top = groups_of (arc_value top).items

  module _ (size : ℕ) where
    abbrev pub IsBranch : Page (Page E) → Type 0
    IsBranch branch = IsPaged size (branch_parts branch)

    -- branches of leaves of this size
    pub record AreBranches (branches : List (Page (Page E))) : Type 0 where
      pub paged : IsPaged (size * FAN) (branch_lists branches)
      pub each : All IsBranch branches

    abbrev pub IsTop : Page (Page (Page E)) → Type 0
    IsTop top = AreBranches (arc_value top).items
