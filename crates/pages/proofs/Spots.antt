-- Places in pages, and a search among them.
use Rattle.std.proofs.Common.{All, slice_get, ◌≡◌, ◌≢◌, ◌⊎◌, inl, inr, ℕ, zero, suc, ◌+◌, ◌<◌, ◌≤◌, true, false, List, [], ◌∷◌, ◌++◌, length, get_or, take, refl, sym, ap, ◌∙◌, subst, arith, zero-add, length-append, get_or-append-add}
use Rattle.std.proofs.lemmas.List.{get_or_append_left}
use Rattle.std.specs.Ordering.{is_le, ordering_index}
use Rattle.std.specs.List.Sorted.{IsNonDecreasingBy}
use Rattle.std.specs.declared.cmp.Ordering.{Ordering}
use Rattle.std.specs.declared.cmp.Ordering.TheVariants.{Less, Equal, Greater}
use Rattle.pages.specs.Pages.{flattened}
use Rattle.pages.specs.Sorted.{start_of, EachMakesPage, IsSplit, IsHit, IsGap, starts_low}

-- each part has an item
abbrev pub AreSome : {X : Type 0} → List (List X) → Type 0
AreSome parts = All (λ part. 0 < length part) parts

pub some_kept : {X : Type 0} (parts : List (List X)) → EachMakesPage parts → AreSome parts
some_kept parts kept k d h = (kept k d h).0

greater_is : (o : Ordering) → is_le o ≡ false → o ≡ Greater
greater_is Less e = (cc)
greater_is Equal e = (cc)
greater_is Greater e = refl

low_is : (o : Ordering) → is_le o ≡ true → o ≢ Greater
low_is o e h = (let u : is_le o ≡ false = ap is_le h in cc)

index_le : (o : Ordering) → ordering_index o ≤ 2
index_le Less = omega arith
index_le Equal = omega arith
index_le Greater = omega arith

at_or_before : (i j : ℕ) → i ≤ j → (i ≡ j) ⊎ (i < j)
at_or_before zero zero l = inl refl
at_or_before zero (suc j) l = inr (omega arith)
at_or_before (suc i) zero l = absurd (omega (arith, l))
at_or_before (suc i) (suc j) l = elim (at_or_before i j (omega (arith, l))) [ inl e ↦ inl (ap suc e) | inr b ↦ inr (omega (arith, b)) ]

pub got_left : {X : Type 0} (xs ys : List X) (p : ℕ) → p < length xs → slice_get (xs ++ ys) p ≡ slice_get xs p
got_left [] ys p l = absurd (omega arith)
got_left (x ∷ xs) ys zero l = refl
got_left (x ∷ xs) ys (suc p) l = got_left xs ys p (omega arith)

got_right : {X : Type 0} (xs ys : List X) (p : ℕ) → slice_get (xs ++ ys) (length xs + p) ≡ slice_get ys p
got_right [] ys p = rw (zero-add p) refl
got_right (x ∷ xs) ys p =
    let e : length (x ∷ xs) + p ≡ suc (length xs + p) = omega arith in
    ap (slice_get ((x ∷ xs) ++ ys)) e ∙ got_right xs ys p

module _ {X : Type 0} where
  -- an item of a page stands after the pages before it
  pub item_at : (parts : List (List X)) (k p : ℕ) (d : X) → k < length parts → p < length (get_or parts k []) → get_or (flattened parts) (start_of parts k + p) d ≡ get_or (get_or parts k []) p d
  item_at [] k p d h l = absurd (omega arith)
  item_at (q ∷ qs) zero p d h l = rw (zero-add p) (get_or_append_left q (flattened qs) d p l)
  item_at (q ∷ qs) (suc k) p d h l =
      let t : List X = flattened (take k qs) in
      let e : length (q ++ t) + p ≡ length q + (length t + p) = omega (arith, length-append q t) in
      ap (λ n. get_or (q ++ flattened qs) n d) e ∙ (get_or-append-add q (flattened qs) (length t + p) d ∙ item_at qs k p d (omega arith) l)

  -- a page that has an entry is one of the pages
  pub part_in : (parts : List (List X)) (k p : ℕ) → p < length (get_or parts k []) → k < length parts
  part_in [] k p l = absurd (omega arith)
  part_in (q ∷ qs) zero p l = omega arith
  part_in (q ∷ qs) (suc k) p l = let h : k < length qs = part_in qs k p l in omega arith

  -- the same, as `get` answers it
  pub got_at : (parts : List (List X)) (k p : ℕ) → p < length (get_or parts k []) → slice_get (flattened parts) (start_of parts k + p) ≡ slice_get (get_or parts k []) p
  got_at [] k p l = absurd (omega arith)
  got_at (q ∷ qs) zero p l = rw (zero-add p) (got_left q (flattened qs) p l)
  got_at (q ∷ qs) (suc k) p l =
      let t : List X = flattened (take k qs) in
      let e : length (q ++ t) + p ≡ length q + (length t + p) = omega (arith, length-append q t) in
      ap (slice_get (q ++ flattened qs)) e ∙ (got_right q (flattened qs) (length t + p) ∙ got_at qs k p l)

  pub start_next : (parts : List (List X)) (k : ℕ) → k < length parts → start_of parts (suc k) ≡ start_of parts k + length (get_or parts k [])
  start_next [] k h = absurd (omega arith)
  start_next (q ∷ qs) zero h = omega (arith, length-append q [])
  start_next (q ∷ qs) (suc k) h =
      omega (arith, length-append q (flattened (take (suc k) qs)), length-append q (flattened (take k qs)), start_next qs k (omega arith))

  pub start_end : (parts : List (List X)) (k : ℕ) → length parts ≤ k → start_of parts k ≡ length (flattened parts)
  start_end [] zero h = refl
  start_end [] (suc k) h = refl
  start_end (q ∷ qs) zero h = absurd (omega arith)
  start_end (q ∷ qs) (suc k) h = omega (arith, length-append q (flattened (take k qs)), length-append q (flattened qs), start_end qs k (omega arith))

  pub start_fits : (parts : List (List X)) (k : ℕ) → k < length parts → start_of parts k + length (get_or parts k []) ≤ length (flattened parts)
  start_fits [] k h = absurd (omega arith)
  start_fits (q ∷ qs) zero h = omega (arith, length-append q (flattened qs))
  start_fits (q ∷ qs) (suc k) h = omega (arith, length-append q (flattened (take k qs)), length-append q (flattened qs), start_fits qs k (omega arith))

  pub start_later : (parts : List (List X)) (j k : ℕ) → j < k → k < length parts → start_of parts j + length (get_or parts j []) ≤ start_of parts k
  start_later [] j k l h = absurd (omega arith)
  start_later (q ∷ qs) j zero l h = absurd (omega arith)
  start_later (q ∷ qs) zero (suc k) l h = omega (arith, length-append q (flattened (take k qs)))
  start_later (q ∷ qs) (suc j) (suc k) l h = omega (arith, length-append q (flattened (take j qs)), length-append q (flattened (take k qs)), start_later qs j k (omega arith) (omega arith))

  module _ (order : X → Ordering) where
    less_before : (xs : List X) (a i : ℕ) (d : X) → IsSplit order xs → a < length xs → order (get_or xs a d) ≡ Less → i ≤ a → order (get_or xs i d) ≡ Less
    less_before xs a i d s h e l =
        elim (at_or_before i a l) [ inl w ↦ subst (λ n. order (get_or xs n d) ≡ Less) (sym w) e | inr b ↦ s.below i a d b h (λ g. (cc)) ]

    greater_after : (xs : List X) (a i : ℕ) (d : X) → IsSplit order xs → order (get_or xs a d) ≡ Greater → a ≤ i → i < length xs → order (get_or xs i d) ≡ Greater
    greater_after xs a i d s e l h =
        elim (at_or_before a i l) [ inl w ↦ subst (λ n. order (get_or xs n d) ≡ Greater) w e | inr b ↦ s.above a i d b h (λ g. (cc)) ]

    first_low : (part : List X) (d : X) → 0 < length part → starts_low order part ≡ true → order (get_or part 0 d) ≢ Greater
    first_low [] d h e = absurd (omega arith)
    first_low (x ∷ xs) d h e = low_is (order x) e

    first_high : (part : List X) (d : X) → starts_low order part ≡ false → order (get_or part 0 d) ≡ Greater
    first_high [] d e = (cc)
    first_high (x ∷ xs) d e = greater_is (order x) e

    low_from : (part : List X) → ((d : X) → 0 < length part → order (get_or part 0 d) ≡ Less) → starts_low order part ≡ true
    low_from [] h = refl
    low_from (x ∷ xs) h = ap is_le (h x (omega arith))

    -- a page before one that starts low starts low
    pub low_before : (parts : List (List X)) (i j : ℕ) → AreSome parts → IsSplit order (flattened parts) → i ≤ j → j < length parts → starts_low order (get_or parts j []) ≡ true → starts_low order (get_or parts i []) ≡ true
    low_before parts i j kept s l h e = elim (at_or_before i j l) [
      | inl w ↦ subst (λ n. starts_low order (get_or parts n []) ≡ true) (sym w) e
      | inr b ↦ low_from (get_or parts i []) (λ d some.
          let some_j : 0 < length (get_or parts j []) = kept j [] h in
          let here : get_or (flattened parts) (start_of parts i + 0) d ≡ get_or (get_or parts i []) 0 d = item_at parts i 0 d (omega arith) some in
          let there : get_or (flattened parts) (start_of parts j + 0) d ≡ get_or (get_or parts j []) 0 d = item_at parts j 0 d h some_j in
          subst (λ y. order y ≡ Less) here
          (s.below (start_of parts i + 0) (start_of parts j + 0) d (omega (arith, start_later parts i j b h)) (omega (arith, start_fits parts j h))
          (subst (λ y. order y ≢ Greater) (sym there) (first_low (get_or parts j []) d some_j e))))
    ]

    less_in : (parts : List (List X)) (k : ℕ) → IsSplit order (flattened parts) → k < length parts → (i j : ℕ) (d : X) → i < j → j < length (get_or parts k []) → order (get_or (get_or parts k []) j d) ≢ Greater → order (get_or (get_or parts k []) i d) ≡ Less
    less_in parts k s h i j d c b low =
        subst (λ y. order y ≡ Less) (item_at parts k i d h (omega arith))
        (s.below (start_of parts k + i) (start_of parts k + j) d (omega arith) (omega (arith, start_fits parts k h))
        (subst (λ y. order y ≢ Greater) (sym (item_at parts k j d h b)) low))

    index_step : (parts : List (List X)) (k : ℕ) → IsSplit order (flattened parts) → k < length parts → (i j : ℕ) (d : X) → i < j → j < length (get_or parts k []) → (o : Ordering) → order (get_or (get_or parts k []) j d) ≡ o → ordering_index (order (get_or (get_or parts k []) i d)) ≤ ordering_index o
    index_step parts k s h i j d c b Greater e = index_le (order (get_or (get_or parts k []) i d))
    index_step parts k s h i j d c b Equal e =
        let z : ordering_index (order (get_or (get_or parts k []) i d)) ≡ 0 = ap ordering_index (less_in parts k s h i j d c b (λ g. (cc))) in omega arith
    index_step parts k s h i j d c b Less e =
        let z : ordering_index (order (get_or (get_or parts k []) i d)) ≡ 0 = ap ordering_index (less_in parts k s h i j d c b (λ g. (cc))) in omega arith

    -- the items of a page rise
    pub rises_in : (parts : List (List X)) (k : ℕ) → IsSplit order (flattened parts) → k < length parts → IsNonDecreasingBy (λ y. ordering_index (order y)) (get_or parts k [])
    rises_in parts k s h i j d l b = elim (at_or_before i j l) [
      | inl w ↦ subst (λ n. ordering_index (order (get_or (get_or parts k []) i d)) ≤ ordering_index (order (get_or (get_or parts k []) n d))) w (omega arith)
      | inr c ↦ index_step parts k s h i j d c b (order (get_or (get_or parts k []) j d)) refl
    ]

    -- an item that was found in a page
    pub hit_in : (parts : List (List X)) (k p : ℕ) → k < length parts → p < length (get_or parts k []) → ((d : X) → order (get_or (get_or parts k []) p d) ≡ Equal) → IsHit order (flattened parts) (start_of parts k + p)
    hit_in parts k p h l e = record {
      inside = omega (arith, start_fits parts k h);
      same = λ d. subst (λ y. order y ≡ Equal) (sym (item_at parts k p d h l)) (e d);
    }

    gap_below : (parts : List (List X)) (k p : ℕ) → AreSome parts → IsSplit order (flattened parts) → k < length parts → p ≤ length (get_or parts k []) → IsGap order (get_or parts k []) p → starts_low order (get_or parts k []) ≡ true → (i : ℕ) (d : X) → i < start_of parts k + p → order (get_or (flattened parts) i d) ≡ Less
    gap_below parts k zero kept s h l gap low i d b =
        let some : 0 < length (get_or parts k []) = kept k [] h in
        absurd (first_low (get_or parts k []) d some low (gap.above 0 d (omega arith) some))
    gap_below parts k (suc p) kept s h l gap low i d b =
        less_before (flattened parts) (start_of parts k + p) i d s (omega (arith, start_fits parts k h))
        (subst (λ y. order y ≡ Less) (sym (item_at parts k p d h (omega arith))) (gap.below p d (omega arith))) (omega arith)

    -- from the start of a page that starts high
    high_from : (parts : List (List X)) (k i : ℕ) (d : X) → AreSome parts → IsSplit order (flattened parts) → k < length parts → starts_low order (get_or parts k []) ≡ false → start_of parts k ≤ i → i < length (flattened parts) → order (get_or (flattened parts) i d) ≡ Greater
    high_from parts k i d kept s h high l b =
        let here : get_or (flattened parts) (start_of parts k + 0) d ≡ get_or (get_or parts k []) 0 d = item_at parts k 0 d h (kept k [] h) in
        greater_after (flattened parts) (start_of parts k + 0) i d s (subst (λ y. order y ≡ Greater) (sym here) (first_high (get_or parts k []) d high)) (omega arith) b

    behind : (parts : List (List X)) (k i : ℕ) (d : X) → AreSome parts → IsSplit order (flattened parts) → ((j : ℕ) → k ≤ j → j < length parts → starts_low order (get_or parts j []) ≡ false) → start_of parts k ≤ i → i < length (flattened parts) → (k < length parts) ⊎ (length parts ≤ k) → order (get_or (flattened parts) i d) ≡ Greater
    behind parts k i d kept s high l b (inl h) = high_from parts k i d kept s h (high k (omega arith) h) l b
    behind parts k i d kept s high l b (inr h) = absurd (omega (arith, start_end parts k h))

    below_or_not : (a b : ℕ) → (a < b) ⊎ (b ≤ a)
    below_or_not a zero = inr (omega arith)
    below_or_not zero (suc b) = inl (omega arith)
    below_or_not (suc a) (suc b) = elim (below_or_not a b) [ inl h ↦ inl (omega arith) | inr h ↦ inr (omega arith) ]

    gap_above : (parts : List (List X)) (k p : ℕ) → AreSome parts → IsSplit order (flattened parts) → k < length parts → p ≤ length (get_or parts k []) → IsGap order (get_or parts k []) p → ((j : ℕ) → suc k ≤ j → j < length parts → starts_low order (get_or parts j []) ≡ false) → (i : ℕ) (d : X) → start_of parts k + p ≤ i → i < length (flattened parts) → order (get_or (flattened parts) i d) ≡ Greater
    gap_above parts k p kept s h l gap high i d a b = elim (below_or_not p (length (get_or parts k []))) [
      | inl c ↦ greater_after (flattened parts) (start_of parts k + p) i d s
          (subst (λ y. order y ≡ Greater) (sym (item_at parts k p d h c)) (gap.above p d (omega arith) c)) a b
      | inr c ↦ behind parts (suc k) i d kept s high (omega (arith, start_next parts k h)) b (below_or_not (suc k) (length parts))
    ]

    -- a gap of the last page that starts low is a gap of the whole
    pub gap_in : (parts : List (List X)) (k p : ℕ) → AreSome parts → IsSplit order (flattened parts) → k < length parts → IsGap order (get_or parts k []) p → starts_low order (get_or parts k []) ≡ true → ((j : ℕ) → suc k ≤ j → j < length parts → starts_low order (get_or parts j []) ≡ false) → IsGap order (flattened parts) (start_of parts k + p)
    gap_in parts k p kept s h gap low high = record {
      inside = omega (arith, start_fits parts k h, gap.inside);
      below = gap_below parts k p kept s h gap.inside gap low;
      above = gap_above parts k p kept s h gap.inside gap high;
    }

    -- where no page starts low
    pub gap_first : (parts : List (List X)) → AreSome parts → IsSplit order (flattened parts) → ((j : ℕ) → 0 ≤ j → j < length parts → starts_low order (get_or parts j []) ≡ false) → IsGap order (flattened parts) 0
    gap_first parts kept s high = record {
      inside = omega arith;
      below = λ i d b. absurd (omega arith);
      above = λ i d a b. behind parts 0 i d kept s high (omega arith) b (below_or_not 0 (length parts));
    }

    greater_in : (parts : List (List X)) (k : ℕ) → IsSplit order (flattened parts) → k < length parts → (i j : ℕ) (d : X) → i < j → j < length (get_or parts k []) → order (get_or (get_or parts k []) i d) ≢ Less → order (get_or (get_or parts k []) j d) ≡ Greater
    greater_in parts k s h i j d c b high =
        subst (λ y. order y ≡ Greater) (item_at parts k j d h b)
        (s.above (start_of parts k + i) (start_of parts k + j) d (omega arith) (omega (arith, start_fits parts k h))
        (subst (λ y. order y ≢ Less) (sym (item_at parts k i d h (omega arith))) high))

    -- a part is split as the whole is
    pub split_in : (parts : List (List X)) (k : ℕ) → IsSplit order (flattened parts) → k < length parts → IsSplit order (get_or parts k [])
    split_in parts k s h = record { below = less_in parts k s h; above = greater_in parts k s h }
