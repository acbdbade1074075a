-- A list in pages, and pages in groups, with an order that a search knows.
use Rattle.std.specs.Prelude.{◌≡◌, ◌≢◌, ℕ, ◌+◌, ◌<◌, ◌≤◌, Bool, true, false, List, [], ◌∷◌, length}
use Rattle.std.specs.Prelude.{map, take, slice_index_or, slice_set, All}
use Rattle.std.specs.List.{insert}
use Rattle.std.specs.List.Sorted.{IsNonDecreasingBy}
use Rattle.std.specs.Ordering.{is_le, ordering_index}
use Rattle.std.specs.declared.cmp.Ordering.{Ordering}
use Rattle.std.specs.declared.cmp.Ordering.TheVariants.{Less, Equal, Greater}
use Rattle.pages.specs.declared.probe.Spot.{Spot}
use Rattle.pages.specs.declared.page.TheConstants.{FULL}
use Rattle.pages.specs.Pages.{Page, flattened, leaf_lists, groups_of, top_groups, IsChanged}

module _ {X : Type 0} where
  -- the place at which a part starts
  abbrev pub start_of : List (List X) → ℕ → ℕ
  start_of parts k = length (flattened (take k parts))

  -- a list makes a page: it has an entry, and no more than a page may
  abbrev pub MakesPage : List X → Type 0
  MakesPage page = (0 < length page) × (length page ≤ FULL)

  abbrev pub EachMakesPage : List (List X) → Type 0
  EachMakesPage pages = All MakesPage pages

  -- a group has a page
  abbrev pub IsGroup : List (List X) → Type 0
  IsGroup pages = (0 < length pages) × EachMakesPage pages

  abbrev pub AreGroups : List (List (List X)) → Type 0
  AreGroups groups = All IsGroup groups

  -- all entries, in order
  abbrev pub entries_of : List (List (List X)) → List X
  entries_of groups = flattened (map flattened groups)

  -- the place of a spot among the entries of its group
  abbrev pub place_in : List (List X) → Spot → ℕ
  place_in pages spot = start_of pages spot.page + spot.at

  -- the place of a spot among all entries
  abbrev pub place_of : List (List (List X)) → Spot → ℕ
  place_of groups spot =
      start_of (map flattened groups) spot.group
      + place_in (slice_index_or groups spot.group []) spot

  -- an entry more, or another one, at a spot of a group, and at a spot of all groups
  abbrev pub put_in : List (List X) → Spot → X → List X
  put_in pages spot x = insert (flattened pages) (place_in pages spot) x

  abbrev pub set_in : List (List X) → Spot → X → List X
  set_in pages spot x = slice_set (flattened pages) (place_in pages spot) x

  abbrev pub put_at : List (List (List X)) → Spot → X → List X
  put_at groups spot x = insert (entries_of groups) (place_of groups spot) x

  abbrev pub set_at : List (List (List X)) → Spot → X → List X
  set_at groups spot x = slice_set (entries_of groups) (place_of groups spot) x

  -- the entry at a spot of a group changed, and at a spot of all groups
  abbrev pub IsChangedIn : (X → X) → List (List X) → Spot → List (List X) → Type 0
  IsChangedIn after old spot new =
      IsChanged after (flattened old) (place_in old spot) (flattened new)

  abbrev pub IsChangedAt :
      (X → X) → List (List (List X)) → Spot → List (List (List X)) → Type 0
  IsChangedAt after old spot new =
      IsChanged after (entries_of old) (place_of old spot) (entries_of new)

  -- the page of a spot
  abbrev pub page_of_spot : List (List (List X)) → Spot → List X
  page_of_spot groups spot = slice_index_or (slice_index_or groups spot.group []) spot.page []

  -- a spot in a page of the group
  pub record IsSpotIn (pages : List (List X)) (spot : Spot) : Type 0 where
    pub page_in : 0 < length pages → spot.page < length pages
    pub at_in : spot.at ≤ length (slice_index_or pages spot.page [])

  -- a spot in one of the groups, or the only one where there are none
  pub record IsSpot (groups : List (List (List X))) (spot : Spot) : Type 0 where
    pub group_in : 0 < length groups → spot.group < length groups
    pub spot_in : IsSpotIn (slice_index_or groups spot.group []) spot

  -- an entry stands at the spot
  abbrev pub HasEntryIn : List (List X) → Spot → Type 0
  HasEntryIn pages spot = spot.at < length (slice_index_or pages spot.page [])

  abbrev pub HasEntry : List (List (List X)) → Spot → Type 0
  HasEntry groups spot = HasEntryIn (slice_index_or groups spot.group []) spot

  module _ (order : X → Ordering) where
    -- at most one item is `Equal`; those before it are `Less`, and those after it `Greater`
    pub record IsSplit (xs : List X) : Type 0 where
      pub below : (i j : ℕ) (d : X) → i < j → j < length xs
          → order (slice_index_or xs j d) ≢ Greater → order (slice_index_or xs i d) ≡ Less
      pub above : (i j : ℕ) (d : X) → i < j → j < length xs
          → order (slice_index_or xs i d) ≢ Less → order (slice_index_or xs j d) ≡ Greater

    -- first the items that are `Less`, then the `Equal` ones, then the `Greater` ones
    abbrev pub IsRising : List X → Type 0
    IsRising xs = IsNonDecreasingBy (λ y. ordering_index (order y)) xs

    -- the item at this place is `Equal`
    pub record IsHit (xs : List X) (at : ℕ) : Type 0 where
      pub inside : at < length xs
      pub same : (d : X) → order (slice_index_or xs at d) ≡ Equal

    -- the items before this place are `Less`, and those from it on `Greater`
    pub record IsGap (xs : List X) (at : ℕ) : Type 0 where
      pub inside : at ≤ length xs
      pub below : (i : ℕ) (d : X) → i < at → order (slice_index_or xs i d) ≡ Less
      pub above : (i : ℕ) (d : X) → at ≤ i → i < length xs → order (slice_index_or xs i d) ≡ Greater

    -- whether a list starts by an item that is not `Greater`
    abbrev pub starts_low : List X → Bool
    starts_low [] = true
    starts_low (x ∷ xs) = is_le (order x)

    -- the first n lists start so, and the others do not
    pub record StartLowUpTo (n : ℕ) (parts : List (List X)) : Type 0 where
      pub low : (j : ℕ) → j < n → starts_low (slice_index_or parts j []) ≡ true
      pub high : (j : ℕ) → n ≤ j → j < length parts
          → starts_low (slice_index_or parts j []) ≡ false

    -- the entry at a spot of a group is `Equal`, and the one at a spot of all groups
    abbrev pub IsHitIn : List (List X) → Spot → Type 0
    IsHitIn pages spot = IsHit (flattened pages) (place_in pages spot)

    abbrev pub IsHitAt : List (List (List X)) → Spot → Type 0
    IsHitAt groups spot = IsHit (entries_of groups) (place_of groups spot)

    -- what is sought is to stand at a spot of a group, and at a spot of all groups
    abbrev pub IsGapIn : List (List X) → Spot → Type 0
    IsGapIn pages spot = IsGap (flattened pages) (place_in pages spot)

    abbrev pub IsGapAt : List (List (List X)) → Spot → Type 0
    IsGapAt groups spot = IsGap (entries_of groups) (place_of groups spot)

module _ {E X : Type 0} (item : E → X) where
  -- the entries of groups, and those of the page that holds all groups
  abbrev pub groups_list : List (Page (Page E)) → List X
  groups_list groups = entries_of (groups_of item groups)

  abbrev pub top_entries : Page (Page (Page E)) → List X
  top_entries top = entries_of (top_groups item top)

  -- the place of a spot among the entries of pages, and among those of groups
  abbrev pub place_in_pages : List (Page E) → Spot → ℕ
  place_in_pages pages spot = place_in (leaf_lists item pages) spot

  abbrev pub place_in_groups : List (Page (Page E)) → Spot → ℕ
  place_in_groups groups spot = place_of (groups_of item groups) spot
