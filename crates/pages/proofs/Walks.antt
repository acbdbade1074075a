-- Steps of a walk over groups of pages.
use Rattle.std.proofs.Common.{Bool, false, nat_eq, ◌≡◌, ℕ, zero, suc, ◌+◌, ◌<◌, ◌≤◌, List, [], ◌∷◌, ◌++◌, map, length, get_or, drop, sym, ap, ◌∙◌, subst, arith, zero-add, length-append, append_assoc}
use Rattle.std.proofs.lemmas.List.{drop-append-le, length-map}
use Rattle.std.proofs.Math.Seq.{drop-append-add}
use Rattle.std.proofs.Common.{take}
use Rattle.pages.specs.Pages.{flattened, IsPrefix}
use Rattle.pages.specs.declared.probe.Spot.{Spot}
use Rattle.pages.specs.Sorted.{start_of, place_in, place_of, IsGroup, AreGroups, IsSpotIn, IsSpot, HasEntryIn, HasEntry, entries_of}
use Rattle.pages.proofs.Spots.{start_next, start_end, start_fits, part_in}
use Rattle.pages.proofs.Groups.{group_at, entry_group, entry_place}

drop_at : {X : Type 0} (parts : List (List X)) (k p : ℕ) → p < length (get_or parts k []) → drop (start_of parts k + p) (flattened parts) ≡ drop p (get_or parts k []) ++ flattened (drop (suc k) parts)
drop_at [] k p l = absurd (omega arith)
drop_at (q ∷ qs) zero p l = rw (zero-add p) (drop-append-le p q (flattened qs) (omega arith))
drop_at (q ∷ qs) (suc k) p l =
    let t : List _ = flattened (take k qs) in
    let e : length (q ++ t) + p ≡ length q + (length t + p) = omega (arith, length-append q t) in
    ap (λ n. drop n (q ++ flattened qs)) e ∙ (drop-append-add q (flattened qs) (length t + p) ∙ drop_at qs k p l)

prefix_at : {X : Type 0} (parts : List (List X)) (k p : ℕ) (front : List X) → p < length (get_or parts k []) → IsPrefix front (drop p (get_or parts k [])) → IsPrefix front (drop (start_of parts k + p) (flattened parts))
prefix_at parts k p front l b = (
  b.0 ++ flattened (drop (suc k) parts),
  drop_at parts k p l ∙ (ap (λ s. s ++ flattened (drop (suc k) parts)) b.1 ∙ append_assoc front b.0 (flattened (drop (suc k) parts))),
)

-- the rest of a page stands in front of what is left
pub page_prefix : {X : Type 0} (groups : List (List (List X))) (spot : Spot) (front : List X) → HasEntry groups spot → IsPrefix front (drop spot.at (get_or (get_or groups spot.group []) spot.page [])) → IsPrefix front (drop (place_of groups spot) (entries_of groups))
page_prefix groups spot front h b =
    let pages : List (List _) = get_or groups spot.group [] in
    prefix_at (map flattened groups) spot.group (place_in pages spot) front
    (subst (λ l. place_in pages spot < length l) (sym (group_at groups spot.group)) (entry_place pages spot h))
    (subst (λ l. IsPrefix front (drop (place_in pages spot) l)) (sym (group_at groups spot.group)) (prefix_at pages spot.page spot.at front h b))

-- the spot at the end of a page that has an entry
pub end_spot : {X : Type 0} (groups : List (List (List X))) (spot : Spot) (n : ℕ) → HasEntry groups spot → n ≡ length (get_or (get_or groups spot.group []) spot.page []) → IsSpot groups (record { group = spot.group; page = spot.page; at = n })
end_spot groups spot n h e = record {
  group_in = λ some. entry_group groups spot h;
  spot_in = record { page_in = λ some. part_in (get_or groups spot.group []) spot.page spot.at h; at_in = omega (arith, e) };
}

-- in one group
module _ {X : Type 0} (pages : List (List X)) (spot : Spot) (h : IsGroup pages) (s : IsSpotIn pages spot) (n : ℕ) (e : n ≡ length (get_or pages spot.page [])) (end : n ≤ spot.at) where
  pub turned_page : spot.page + 1 < length pages → (g : ℕ) → HasEntryIn pages (record { group = g; page = spot.page + 1; at = 0 }) × (place_in pages (record { group = g; page = spot.page + 1; at = 0 }) ≡ place_in pages spot)
  turned_page l g =
      let next : start_of pages (suc spot.page) ≡ start_of pages spot.page + length (get_or pages spot.page []) = start_next pages spot.page (s.page_in h.0) in
      let one : spot.page + 1 ≡ suc spot.page = omega arith in
      let at : spot.at ≡ n = omega (arith, s.at_in, e) in (
        (h.1 (spot.page + 1) [] l).0,
        (omega (arith, ap (start_of pages) one, next, at, e)),
      )

  pub last_page : length pages ≤ spot.page + 1 → length (flattened pages) ≤ place_in pages spot
  last_page l =
      let next : start_of pages (suc spot.page) ≡ start_of pages spot.page + length (get_or pages spot.page []) = start_next pages spot.page (s.page_in h.0) in
      omega (arith, next, start_end pages (suc spot.page) (omega (arith, l)), s.at_in, e)

-- where a group has no entry more
module _ {X : Type 0} (groups : List (List (List X))) (spot : Spot) (within : spot.group < length groups) (are : AreGroups groups) (s : IsSpotIn (get_or groups spot.group []) spot) (done : length (flattened (get_or groups spot.group [])) ≤ place_in (get_or groups spot.group []) spot) where
  among : spot.group < length (map flattened groups)
  among = omega (arith, length-map groups flattened)

  at_end : place_of groups spot ≡ start_of (map flattened groups) (suc spot.group)
  at_end =
      let h : IsGroup (get_or groups spot.group []) = are spot.group [] within in
      let fits : start_of (get_or groups spot.group []) spot.page + length (get_or (get_or groups spot.group []) spot.page []) ≤ length (flattened (get_or groups spot.group [])) = start_fits (get_or groups spot.group []) spot.page (s.page_in h.0) in
      let next : start_of (map flattened groups) (suc spot.group) ≡ start_of (map flattened groups) spot.group + length (get_or (map flattened groups) spot.group []) = start_next (map flattened groups) spot.group among in
      omega (arith, done, fits, s.at_in, next, ap length (group_at groups spot.group))

  pub turned_group : spot.group + 1 < length groups → HasEntry groups (record { group = spot.group + 1; page = 0; at = 0 }) × (place_of groups (record { group = spot.group + 1; page = 0; at = 0 }) ≡ place_of groups spot)
  turned_group l =
      let h : IsGroup (get_or groups (spot.group + 1) []) = are (spot.group + 1) [] l in
      let one : spot.group + 1 ≡ suc spot.group = omega arith in (
        (h.1 0 [] h.0).0,
        omega (arith, at_end, ap (start_of (map flattened groups)) one),
      )

  pub last_group : length groups ≤ spot.group + 1 → length (entries_of groups) ≤ place_of groups spot
  last_group l =
      omega (arith, at_end, start_end (map flattened groups) (suc spot.group) (omega (arith, length-map groups flattened, l)))

some_in : (n : ℕ) → nat_eq n 0 ≡ false → 0 < n
some_in zero e = (cc)
some_in (suc n) e = omega arith

-- the group of a spot, where there are groups
pub slice_within : {P X : Type 0} (shown : P → List (List X)) (gs : List P) (spot : Spot) (r : Bool) → r ≡ nat_eq (length gs) 0 → r ≡ false → IsSpot (map shown gs) spot → spot.group < length gs
slice_within shown gs spot r e f s =
    let some : 0 < length gs = some_in (length gs) (sym e ∙ f) in
    let among : spot.group < length (map shown gs) = s.group_in (omega (arith, length-map gs shown)) in
    omega (arith, length-map gs shown)
