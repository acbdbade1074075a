-- Writes to a group, seen from the whole.
use Rattle.std.proofs.Common.{◌≡◌, ℕ, zero, suc, ◌+◌, ◌<◌, ◌≤◌, List, [], ◌∷◌, ◌++◌, map, length, get_or, set, take, drop, Vec, Global, vec_len, Bool, false, nat_eq, refl, sym, ap, ◌∙◌, subst, arith, length-take-le, length-drop, append_assoc}
use Rattle.std.specs.List.{insert}
use Rattle.std.proofs.lemmas.List.{map-set, take-map, drop-map, length-map, get_or_default}
use Rattle.std.proofs.lemmas.List.Elements.{All-set, All-append, All-cons, All-take, All-drop}
use Rattle.pages.specs.Pages.{flattened, IsChanged}
use Rattle.pages.specs.declared.probe.Spot.{Spot}
use Rattle.pages.specs.Sorted.{start_of, place_in, place_of, MakesPage, EachMakesPage, IsGroup, AreGroups, IsSpotIn, IsSpot, HasEntryIn, entries_of}
use Rattle.pages.proofs.Pieces.{part_at}
use Rattle.pages.proofs.Spots.{item_at, start_fits}
use Rattle.pages.proofs.Inserts.{map_insert, whole_halves, page_insert, pages_insert, page_set_spot}
use Rattle.pages.proofs.Groups.{entry_place, group_at}

some_in : (n : ℕ) → nat_eq n 0 ≡ false → 0 < n
some_in zero e = (cc)
some_in (suc n) e = omega arith

-- the group of a spot, where there are groups
pub group_within : {P X : Type 0} (shown : P → List (List X)) (v : Vec P Global) (spot : Spot) (r : Bool) → r ≡ nat_eq (vec_len v) 0 → r ≡ false → IsSpot (map shown v.items) spot → spot.group < length v.items
group_within shown v spot r e f s =
    let some : 0 < vec_len v = some_in (vec_len v) (sym e ∙ f) in
    let among : spot.group < length (map shown v.items) = s.group_in (omega (arith, v.ok.0, length-map v.items shown)) in
    omega (arith, length-map v.items shown)

flattened_append : {X : Type 0} (xs ys : List (List X)) → flattened (xs ++ ys) ≡ flattened xs ++ flattened ys
flattened_append [] ys = refl
flattened_append (x ∷ xs) ys = ap (λ l. x ++ l) (flattened_append xs ys) ∙ sym (append_assoc x (flattened xs) (flattened ys))

module _ {P X : Type 0} (shown : P → List X) where
  pub flattened_halves : (long left right : List P) (n : ℕ) → left ≡ take n long → right ≡ drop n long → flattened (map shown left) ++ flattened (map shown right) ≡ flattened (map shown long)
  flattened_halves long left right n l r =
      sym (flattened_append (map shown left) (map shown right)) ∙ ap flattened (whole_halves shown long left right n l r)

  pub group_halves : (long : List P) → 128 ≤ length long → EachMakesPage (map shown long) → IsGroup (map shown (take 64 long)) × IsGroup (map shown (drop 64 long))
  group_halves long h kept = (
    (omega (arith, length-map (take 64 long) shown, length-take-le 64 long (omega arith)), subst EachMakesPage (take-map shown 64 long) (All-take MakesPage 64 (map shown long) kept)),
    (omega (arith, length-map (drop 64 long) shown, length-drop 64 long), subst EachMakesPage (drop-map shown 64 long) (All-drop MakesPage 64 (map shown long) kept)),
  )

place_fits : {X : Type 0} (pages : List (List X)) (spot : Spot) → IsGroup pages → IsSpotIn pages spot → place_in pages spot ≤ length (flattened pages)
place_fits pages spot h s = omega (arith, start_fits pages spot.page (s.page_in h.0), s.at_in)

module _ {X : Type 0} (groups : List (List (List X))) (spot : Spot) (pages : List (List X)) (within : spot.group < length groups) (is : get_or groups spot.group [] ≡ pages) where
  as_read : pages ≡ get_or groups spot.group pages
  as_read = sym is ∙ get_or_default groups spot.group [] pages within

  pub one_insert : (new : List (List X)) (x : X) → IsGroup pages → IsSpotIn pages spot → flattened new ≡ insert (flattened pages) (place_in pages spot) x → entries_of (set groups spot.group new) ≡ insert (entries_of groups) (place_of groups spot) x
  one_insert new x h s e =
      page_insert flattened groups spot.group pages within as_read new (place_in pages spot) x (place_fits pages spot h s) e
      ∙ ap (λ l. insert (entries_of groups) (start_of (map flattened groups) spot.group + place_in l spot) x) (sym is)

  pub two_insert : (left right : List (List X)) (x : X) → IsGroup pages → IsSpotIn pages spot → flattened left ++ flattened right ≡ insert (flattened pages) (place_in pages spot) x → entries_of (set (insert groups (spot.group + 1) right) spot.group left) ≡ insert (entries_of groups) (place_of groups spot) x
  two_insert left right x h s e =
      pages_insert flattened groups spot.group pages within as_read left right (place_in pages spot) x (place_fits pages spot h s) e
      ∙ ap (λ l. insert (entries_of groups) (start_of (map flattened groups) spot.group + place_in l spot) x) (sym is)

  pub one_set : (new : List (List X)) (x : X) → HasEntryIn pages spot → flattened new ≡ set (flattened pages) (place_in pages spot) x → entries_of (set groups spot.group new) ≡ set (entries_of groups) (place_of groups spot) x
  one_set new x h e =
      page_set_spot flattened groups spot.group pages new (place_in pages spot) x within as_read (entry_place pages spot h) e
      ∙ ap (λ l. set (entries_of groups) (start_of (map flattened groups) spot.group + place_in l spot) x) (sym is)

groups_insert : {X : Type 0} (groups : List (List (List X))) (k : ℕ) (right : List (List X)) → AreGroups groups → IsGroup right → AreGroups (insert groups k right)
groups_insert groups k right are ok =
    All-append IsGroup (take k groups) (right ∷ drop k groups) (All-take IsGroup k groups are) (All-cons IsGroup right (drop k groups) ok (All-drop IsGroup k groups are))

-- the groups that are read from their pages
module _ {P X : Type 0} (shown : P → List (List X)) (gs : List P) where
  pub groups_set : (g : ℕ) (new : P) → AreGroups (map shown gs) → IsGroup (shown new) → AreGroups (map shown (set gs g new))
  groups_set g new are ok = subst AreGroups (sym (map-set shown gs g new)) (All-set IsGroup (map shown gs) g (shown new) ok are)

  pub shown_two : (g : ℕ) (left right : P) → map shown (set (insert gs (g + 1) right) g left) ≡ set (insert (map shown gs) (g + 1) (shown right)) g (shown left)
  shown_two g left right =
      map-set shown (insert gs (g + 1) right) g left ∙ ap (λ s. set s g (shown left)) (map_insert shown gs (g + 1) right)

  pub groups_two : (g : ℕ) (left right : P) → AreGroups (map shown gs) → IsGroup (shown left) → IsGroup (shown right) → AreGroups (map shown (set (insert gs (g + 1) right) g left))
  groups_two g left right are l r =
      subst AreGroups (sym (shown_two g left right)) (All-set IsGroup (insert (map shown gs) (g + 1) (shown right)) g (shown left) l (groups_insert (map shown gs) (g + 1) (shown right) are r))

  module _ (spot : Spot) (group : P) (within : spot.group < length gs) (is : group ≡ get_or gs spot.group group) where
    among : spot.group < length (map shown gs)
    among = omega (arith, length-map gs shown)

    pub at_group : get_or (map shown gs) spot.group [] ≡ shown group
    at_group = part_at shown gs spot.group group within is

    pub group_is : AreGroups (map shown gs) → IsGroup (shown group)
    group_is are = subst IsGroup at_group (are spot.group [] among)

    pub spot_is : IsSpotIn (get_or (map shown gs) spot.group []) spot → IsSpotIn (shown group) spot
    spot_is s = subst (λ l. IsSpotIn l spot) at_group s

    pub written : (new : P) (x : X) → AreGroups (map shown gs) → IsSpotIn (get_or (map shown gs) spot.group []) spot → flattened (shown new) ≡ insert (flattened (shown group)) (place_in (shown group) spot) x → entries_of (map shown (set gs spot.group new)) ≡ insert (entries_of (map shown gs)) (place_of (map shown gs) spot) x
    written new x are s e =
        ap entries_of (map-set shown gs spot.group new) ∙ one_insert (map shown gs) spot (shown group) among at_group (shown new) x (group_is are) (spot_is s) e

    pub written_two : (left right : P) (x : X) → AreGroups (map shown gs) → IsSpotIn (get_or (map shown gs) spot.group []) spot → flattened (shown left) ++ flattened (shown right) ≡ insert (flattened (shown group)) (place_in (shown group) spot) x → entries_of (map shown (set (insert gs (spot.group + 1) right) spot.group left)) ≡ insert (entries_of (map shown gs)) (place_of (map shown gs) spot) x
    written_two left right x are s e =
        ap entries_of (shown_two spot.group left right) ∙ two_insert (map shown gs) spot (shown group) among at_group (shown left) (shown right) x (group_is are) (spot_is s) e

    pub replaced : (new : P) (x : X) → HasEntryIn (get_or (map shown gs) spot.group []) spot → flattened (shown new) ≡ set (flattened (shown group)) (place_in (shown group) spot) x → entries_of (map shown (set gs spot.group new)) ≡ set (entries_of (map shown gs)) (place_of (map shown gs) spot) x
    replaced new x h e =
        ap entries_of (map-set shown gs spot.group new) ∙ one_set (map shown gs) spot (shown group) among at_group (shown new) x (subst (λ l. HasEntryIn l spot) at_group h) e

    pub spot_changed : (new : P) (after : X → X) → HasEntryIn (get_or (map shown gs) spot.group []) spot → IsChanged after (flattened (shown group)) (place_in (shown group) spot) (flattened (shown new)) → IsChanged after (entries_of (map shown gs)) (place_of (map shown gs) spot) (entries_of (map shown (set gs spot.group new)))
    spot_changed new after h changed d =
        let pages : List (List _) = get_or (map shown gs) spot.group [] in
        let inside : place_in pages spot < length (get_or (map flattened (map shown gs)) spot.group []) = subst (λ l. place_in pages spot < length l) (sym (group_at (map shown gs) spot.group)) (entry_place pages spot h) in
        replaced new (after (get_or (flattened (shown group)) (place_in (shown group) spot) d)) h (changed d)
        ∙ ap (λ x. set (entries_of (map shown gs)) (place_of (map shown gs) spot) (after x))
        (sym (item_at (map flattened (map shown gs)) spot.group (place_in pages spot) d (omega (arith, among, length-map (map shown gs) flattened)) inside
        ∙ ap (λ l. get_or l (place_in pages spot) d) (group_at (map shown gs) spot.group)
        ∙ ap (λ l. get_or (flattened l) (place_in l spot) d) at_group))
