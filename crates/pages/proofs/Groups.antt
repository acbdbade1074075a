-- Groups of pages: what holds of a group holds of the whole.
use Rattle.std.proofs.Common.{Result, Ok, Err, MatchResult, IfOk, IfErr, ◌≡◌, ℕ, zero, suc, ◌+◌, ◌<◌, ◌≤◌, true, false, List, [], ◌∷◌, map, length, get_or, slice_get, refl, sym, ap, ◌∙◌, subst, arith}
use Rattle.std.proofs.lemmas.List.{get_or-map, length-map, get_or_default}
use Rattle.std.specs.List.{AllWithin}
use Rattle.std.specs.List.Sorted.{IsPartitionedBy}
use Rattle.std.specs.declared.cmp.Ordering.{Ordering}
use Rattle.pages.specs.Pages.{flattened}
use Rattle.pages.specs.declared.probe.Spot.{Spot}
use Rattle.pages.specs.Sorted.{start_of, place_in, place_of, HasEntryIn, IsGroup, AreGroups, entries_of, IsSplit, IsHit, IsGap, starts_low}
use Rattle.pages.proofs.Spots.{AreSome, low_before, split_in, got_at, start_fits, part_in}
use Rattle.pages.proofs.Searched.{found_in, absent_in}

module _ {X : Type 0} where
  -- the list of a group
  pub group_at : (groups : List (List (List X))) (g : ℕ) → get_or (map flattened groups) g [] ≡ flattened (get_or groups g [])
  group_at [] g = refl
  group_at (p ∷ ps) zero = refl
  group_at (p ∷ ps) (suc g) = group_at ps g

  some_flattened : (pages : List (List X)) → IsGroup pages → 0 < length (flattened pages)
  some_flattened [] h = absurd (omega (arith, h.0))
  some_flattened ([] ∷ pages) h = absurd (omega (arith, (h.1 0 [] (omega arith)).0))
  some_flattened ((x ∷ xs) ∷ pages) h = omega arith

  -- no group is empty
  pub some_groups : (groups : List (List (List X))) → AreGroups groups → AreSome (map flattened groups)
  some_groups groups are k d h =
      let within : k < length groups = omega (arith, length-map groups flattened) in
      subst (λ l. 0 < length l) (sym (get_or-map flattened groups k [] d within)) (some_flattened (get_or groups k []) (are k [] within))

  -- the place of a spot in its group lies in the group
  pub entry_place : (pages : List (List X)) (spot : Spot) → HasEntryIn pages spot → place_in pages spot < length (flattened pages)
  entry_place pages spot h = omega (arith, start_fits pages spot.page (part_in pages spot.page spot.at h))

  module _ (order : X → Ordering) where
    starts_first : (pages : List (List X)) → IsGroup pages → starts_low order (get_or pages 0 []) ≡ starts_low order (flattened pages)
    starts_first [] h = absurd (omega (arith, h.0))
    starts_first ([] ∷ pages) h = absurd (omega (arith, (h.1 0 [] (omega arith)).0))
    starts_first ((x ∷ xs) ∷ pages) h = refl

    module _ {P : Type 0} (shown : P → List (List X)) (gs : List P) (are : AreGroups (map shown gs)) where
      starts_same : (j : ℕ) (d : P) → j < length gs → starts_low order (get_or (shown (get_or gs j d)) 0 []) ≡ starts_low order (get_or (map flattened (map shown gs)) j [])
      starts_same j d h =
          let at : get_or (map shown gs) j [] ≡ shown (get_or gs j d) = get_or-map shown gs j d [] h in
          let is : IsGroup (shown (get_or gs j d)) = subst IsGroup at (are j [] (omega (arith, length-map gs shown))) in
          starts_first (shown (get_or gs j d)) is ∙ ap (starts_low order) (sym (group_at (map shown gs) j ∙ ap flattened at))

      pub groups_parted : IsSplit order (entries_of (map shown gs)) → IsPartitionedBy (λ b. starts_low order (get_or (shown b) 0 [])) gs
      groups_parted split i j d l h e =
          starts_same i d (omega arith)
          ∙ low_before order (map flattened (map shown gs)) i j (some_groups (map shown gs) are) split l (omega (arith, length-map gs shown, length-map (map shown gs) flattened))
          (sym (starts_same j d h) ∙ e)

      low_with : (n : ℕ) → n ≤ length gs → AllWithin (λ b. starts_low order (get_or (shown b) 0 []) ≡ true) gs 0 n → (d : P) (j : ℕ) → j < n → starts_low order (get_or (map flattened (map shown gs)) j []) ≡ true
      low_with n b h d j l = sym (starts_same j d (omega arith)) ∙ h j d (omega arith) l

      high_with : (n : ℕ) → AllWithin (λ b. starts_low order (get_or (shown b) 0 []) ≡ false) gs n (length gs) → (d : P) (j : ℕ) → n ≤ j → j < length (map flattened (map shown gs)) → starts_low order (get_or (map flattened (map shown gs)) j []) ≡ false
      high_with n h d j l b =
          let c : j < length gs = omega (arith, length-map gs shown, length-map (map shown gs) flattened) in
          sym (starts_same j d c) ∙ h j d l c

    module _ {P : Type 0} (shown : P → List (List X)) where
      pub low_groups : (gs : List P) → AreGroups (map shown gs) → (n : ℕ) → n ≤ length gs → AllWithin (λ b. starts_low order (get_or (shown b) 0 []) ≡ true) gs 0 n → (j : ℕ) → j < n → starts_low order (get_or (map flattened (map shown gs)) j []) ≡ true
      low_groups [] are n b h j l = absurd (omega arith)
      low_groups (x ∷ gs) are n b h j l = low_with shown (x ∷ gs) are n b h x j l

      pub high_groups : (gs : List P) → AreGroups (map shown gs) → (n : ℕ) → AllWithin (λ b. starts_low order (get_or (shown b) 0 []) ≡ false) gs n (length gs) → (j : ℕ) → n ≤ j → j < length (map flattened (map shown gs)) → starts_low order (get_or (map flattened (map shown gs)) j []) ≡ false
      high_groups [] are n h j l b = absurd (omega arith)
      high_groups (x ∷ gs) are n h j l b = high_with shown (x ∷ gs) are n h x j l b

-- one of the groups
module _ {X : Type 0} (groups : List (List (List X))) (g : ℕ) (pages : List (List X)) (within : g < length groups) (is : get_or groups g [] ≡ pages) where
  as_read : pages ≡ get_or groups g pages
  as_read = sym is ∙ get_or_default groups g [] pages within

  pub group_of : AreGroups groups → IsGroup pages
  group_of are = subst IsGroup is (are g [] within)

  pub group_split : (order : X → Ordering) → IsSplit order (entries_of groups) → IsSplit order (flattened pages)
  group_split order split =
      subst (IsSplit order) (group_at groups g ∙ ap flattened is) (split_in order (map flattened groups) g split (omega (arith, length-map groups flattened)))

  module _ (order : X → Ordering) where
    pub hits : (r : Result Spot Spot) → MatchResult r (λ s. s.group ≡ g) (λ s. s.group ≡ g) → IfOk r (λ s. IsHit order (flattened pages) (place_in pages s)) → IfOk r (λ s. IsHit order (entries_of groups) (place_of groups s))
    hits (Err s) e h = tt
    hits (Ok s) e h =
        subst (λ n. IsHit order (entries_of groups) (start_of (map flattened groups) n + place_in (get_or groups n []) s)) (sym e)
        (subst (λ l. IsHit order (entries_of groups) (start_of (map flattened groups) g + place_in l s)) (sym is)
        (found_in flattened order groups g pages within as_read (place_in pages s) h))

    pub gaps : (r : Result Spot Spot) → AreGroups groups → IsSplit order (entries_of groups) → starts_low order (get_or (map flattened groups) g []) ≡ true → ((j : ℕ) → suc g ≤ j → j < length (map flattened groups) → starts_low order (get_or (map flattened groups) j []) ≡ false) → MatchResult r (λ s. s.group ≡ g) (λ s. s.group ≡ g) → IfErr r (λ s. IsGap order (flattened pages) (place_in pages s)) → IfErr r (λ s. IsGap order (entries_of groups) (place_of groups s))
    gaps (Ok s) are split low high e h = tt
    gaps (Err s) are split low high e h =
        subst (λ n. IsGap order (entries_of groups) (start_of (map flattened groups) n + place_in (get_or groups n []) s)) (sym e)
        (subst (λ l. IsGap order (entries_of groups) (start_of (map flattened groups) g + place_in l s)) (sym is)
        (absent_in flattened order groups g pages within as_read (place_in pages s) (some_groups groups are) split low high h))

pub entry_at : {X : Type 0} (groups : List (List (List X))) (spot : Spot) (pages : List (List X)) → get_or groups spot.group [] ≡ pages → HasEntryIn pages spot → slice_get (entries_of groups) (place_of groups spot) ≡ slice_get (flattened pages) (place_in pages spot)
entry_at groups spot pages is h =
    let own : HasEntryIn (get_or groups spot.group []) spot = subst (λ l. HasEntryIn l spot) (sym is) h in
    let p : ℕ = place_in (get_or groups spot.group []) spot in
    let inside : p < length (get_or (map flattened groups) spot.group []) = subst (λ l. p < length l) (sym (group_at groups spot.group)) (entry_place (get_or groups spot.group []) spot own) in
    got_at (map flattened groups) spot.group p inside
    ∙ (ap (λ l. slice_get l p) (group_at groups spot.group) ∙ ap (λ ps. slice_get (flattened ps) (place_in ps spot)) is)

-- a group that has an entry is one of the groups
held_by_group : {X : Type 0} (groups : List (List (List X))) (g : ℕ) (spot : Spot) → HasEntryIn (get_or groups g []) spot → g < length groups
held_by_group {X} [] g s l = absurd (omega (arith, part_in {X = X} [] s.page s.at l))
held_by_group (q ∷ qs) zero s l = omega arith
held_by_group (q ∷ qs) (suc k) s l = let h : k < length qs = held_by_group qs k s l in omega arith

pub entry_group : {X : Type 0} (groups : List (List (List X))) (spot : Spot) → HasEntryIn (get_or groups spot.group []) spot → spot.group < length groups
entry_group groups spot h = held_by_group groups spot.group spot h
