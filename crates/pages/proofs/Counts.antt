-- How many entries stand before a page, and after a spot.
use Rattle.std.proofs.Common.{◌≡◌, ℕ, zero, suc, ◌+◌, ◌<◌, ◌≤◌, List, [], ◌∷◌, map, length, get_or, drop, slice_get, refl, sym, ap, ◌∙◌, arith, zero-add}
use Rattle.std.proofs.lemmas.List.{length-map}
use Rattle.pages.specs.Pages.{flattened, IsPrefix}
use Rattle.pages.specs.declared.probe.Spot.{Spot}
use Rattle.pages.specs.Sorted.{start_of, place_of, IsGroup, IsSpotIn, HasEntry, entries_of}
use Rattle.pages.proofs.Pieces.{part_at}
use Rattle.pages.proofs.Spots.{start_next, start_fits, got_left}
use Rattle.pages.proofs.Groups.{group_at, entry_group, entry_place}

module _ {P X : Type 0} (shown : P → List X) (pages : List P) (k : ℕ) (page : P) (n : ℕ) (within : k < length pages) (is : page ≡ get_or pages k page) (len : n ≡ length (shown page)) where
  among : k < length (map shown pages)
  among = omega (arith, length-map pages shown)

  part : length (get_or (map shown pages) k []) ≡ n
  part = ap length (part_at shown pages k page within is) ∙ sym len

  -- one page more
  pub count_next : start_of (map shown pages) k + n ≡ start_of (map shown pages) (k + 1)
  count_next =
      let one : suc k ≡ k + 1 = omega arith in
      omega (arith, start_next (map shown pages) k among, part, ap (start_of (map shown pages)) one)

  pub count_fits : start_of (map shown pages) k + n ≤ length (flattened (map shown pages))
  count_fits = omega (arith, start_fits (map shown pages) k among, part)

-- the entries of a group are some of all
pub group_fits : {X : Type 0} (groups : List (List (List X))) (g : ℕ) (pages : List (List X)) → g < length groups → get_or groups g [] ≡ pages → start_of (map flattened groups) g + length (flattened pages) ≤ length (entries_of groups)
group_fits groups g pages within is =
    omega (arith, start_fits (map flattened groups) g (omega (arith, within, length-map groups flattened)), ap length (group_at groups g), ap (λ l. length (flattened l)) is)

-- one group more
pub group_next : {X : Type 0} (groups : List (List (List X))) (g : ℕ) (pages : List (List X)) → g < length groups → get_or groups g [] ≡ pages → start_of (map flattened groups) g + length (flattened pages) ≡ start_of (map flattened groups) (g + 1)
group_next groups g pages within is =
    let one : suc g ≡ g + 1 = omega arith in
    omega (arith, start_next (map flattened groups) g (omega (arith, within, length-map groups flattened)), ap length (group_at groups g), ap (λ l. length (flattened l)) is, ap (start_of (map flattened groups)) one)

-- a place of a group lies in it
pub spot_fits : {X : Type 0} (pages : List (List X)) (spot : Spot) → IsGroup pages → IsSpotIn pages spot → start_of pages spot.page + spot.at ≤ length (flattened pages)
spot_fits pages spot h s = omega (arith, start_fits pages spot.page (s.page_in h.0), s.at_in)

abbrev the_empty : (X : Type 0) → List X
the_empty X = []

got_none : (X : Type 0) (i j : ℕ) → slice_get (the_empty X) i ≡ slice_get (the_empty X) j
got_none X zero zero = refl
got_none X zero (suc j) = refl
got_none X (suc i) zero = refl
got_none X (suc i) (suc j) = refl

got_dropped : {X : Type 0} (xs : List X) (p i : ℕ) → slice_get (drop p xs) i ≡ slice_get xs (p + i)
got_dropped xs zero i = rw (zero-add i) refl
got_dropped {X} [] (suc p) i = got_none X i (suc p + i)
got_dropped (x ∷ xs) (suc p) i =
    let e : suc (p + i) ≡ suc p + i = omega arith in
    got_dropped xs p i ∙ ap (slice_get (x ∷ xs)) e

-- an entry of a prefix of what stands from a place on
pub got_in_prefix : {X : Type 0} (all front : List X) (p i : ℕ) → IsPrefix front (drop p all) → i < length front → slice_get all (p + i) ≡ slice_get front i
got_in_prefix all front p i b h =
    sym (got_dropped all p i) ∙ ap (λ l. slice_get l i) b.1 ∙ got_left front b.0 i h

-- an entry's place is one of all
pub entry_within : {X : Type 0} (groups : List (List (List X))) (spot : Spot) → HasEntry groups spot → place_of groups spot < length (entries_of groups)
entry_within groups spot h =
    omega (arith, entry_place (get_or groups spot.group []) spot h, group_fits groups spot.group (get_or groups spot.group []) (entry_group groups spot h) refl)
