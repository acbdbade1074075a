-- What a list in order has, and that it ascends.
use Rattle.std.proofs.Common.{◌≡◌, ◌⊎◌, ℕ, List, [], ◌∷◌, true, refl, sym, ap, ap₂, ◌∙◌, subst, inl, inr, rules}
use Rattle.std.specs.Prelude.{fold}
use Rattle.std.specs.BTreeSet.{insert_key}
use Rattle.std.specs.Cmp.{IsTotalOrder}
use Rattle.std.specs.List.{AllByRecursion, Contains}
use Rattle.std.specs.List.Sorted.{IsStrictlySortedBy}
use Rattle.std.specs.Cmp.Lexicographic.{slice_cmp}
use Rattle.std.specs.Ordering.{is_eq, match_ordering, ordering_reverse, ordering_then}
use Rattle.std.specs.Str.{bytes_eq}
use Rattle.std.proofs.lemmas.Map.Text.{is_eq-slice_cmp}
use Rattle.std.proofs.lemmas.Slice.Eq.{bytes_eq-Decides}
use Rattle.std.specs.declared.cmp.Ordering.{Ordering}
use Rattle.std.specs.declared.cmp.Ordering.TheVariants.{Less, Equal, Greater}
use Rattle.labels.specs.Labels.{Labels, labels_cmp, pair_cmp, text_cmp}
use Rattle.labels.proofs.Lists.{Contains-cases, here, none_in_nil, there}
use Rattle.remote_listings.specs.Listed.{in_order}

module _ {K : Type 0} {cmp : K → K → Ordering} (o : IsTotalOrder cmp) where
  below : (x k : K) (ks : List K) → cmp x k ≡ Less → AllByRecursion (λ y. cmp x y ≡ Less) ks
      → AllByRecursion (λ y. cmp x y ≡ Less) (insert_key cmp ks k)
  below x k [] l a = (l, tt)
  below x k (y ∷ ks) l a = go (cmp k y) (below x k ks l a.1)
    where
      go : (r : Ordering) → AllByRecursion (λ y. cmp x y ≡ Less) (insert_key cmp ks k)
          → AllByRecursion (λ y. cmp x y ≡ Less)
          (match_ordering r (k ∷ y ∷ ks) (y ∷ ks) (y ∷ insert_key cmp ks k))
      go Less more = (l, a)
      go Equal more = a
      go Greater more = (a.0, more)

  above : (k x : K) (ks : List K) → cmp k x ≡ Less → AllByRecursion (λ y. cmp x y ≡ Less) ks
      → AllByRecursion (λ y. cmp k y ≡ Less) ks
  above k x [] l a = tt
  above k x (y ∷ ks) l a = (o.trans k x y l a.0, above k x ks l a.1)

  one_rises : (ks : List K) (k : K) → IsStrictlySortedBy cmp ks
      → IsStrictlySortedBy cmp (insert_key cmp ks k)
  unfolding IsStrictlySortedBy
  one_rises [] k s = (tt, tt)
  one_rises (x ∷ ks) k s = go (cmp k x) refl (one_rises ks k s.1)
    where
      go : (r : Ordering) → cmp k x ≡ r → IsStrictlySortedBy cmp (insert_key cmp ks k)
          → IsStrictlySortedBy cmp
          (match_ordering r (k ∷ x ∷ ks) (x ∷ ks) (x ∷ insert_key cmp ks k))
      go Less e more = ((e, above k x ks e s.0), s)
      go Equal e more = s
      go Greater e more = (below x k ks (o.antisymm x k ∙ ap ordering_reverse e) s.0, more)

  all_rise : (xs ks : List K) → IsStrictlySortedBy cmp ks
      → IsStrictlySortedBy cmp (fold (insert_key cmp) ks xs)
  all_rise [] ks s = s
  all_rise (x ∷ xs) ks s = all_rise xs (insert_key cmp ks x) (one_rises ks x s)

  -- a list in order ascends, so nothing stands in it twice
  pub rises : (xs : List K) → IsStrictlySortedBy cmp (in_order cmp xs)
  unfolding IsStrictlySortedBy
  rises xs = all_rise xs [] tt

module _ {K : Type 0} {cmp : K → K → Ordering} (same : (a b : K) → cmp a b ≡ Equal → a ≡ b) where
  one_of : (ks : List K) (k y : K) → Contains (insert_key cmp ks k) y
      → (k ≡ y) ⊎ Contains ks y
  one_of [] k y h = Contains-cases k [] y h
  one_of (x ∷ ks) k y h = go (cmp k x) h (one_of ks k y)
    where
      go : (r : Ordering)
          → Contains (match_ordering r (k ∷ x ∷ ks) (x ∷ ks) (x ∷ insert_key cmp ks k)) y
          → (Contains (insert_key cmp ks k) y → (k ≡ y) ⊎ Contains ks y)
          → (k ≡ y) ⊎ Contains (x ∷ ks) y
      go Less h more = Contains-cases k (x ∷ ks) y h
      go Equal h more = inr h
      go Greater h more = elim (Contains-cases x (insert_key cmp ks k) y h) [
        | inl e ↦ inr (subst (λ (z : K). Contains (x ∷ ks) z) e (here x ks))
        | inr later ↦ elim (more later) [
          | inl e ↦ inl e
          | inr found ↦ inr (there x y ks found)
        ]
      ]

  stays : (ks : List K) (k y : K) → Contains ks y → Contains (insert_key cmp ks k) y
  stays [] k y h = absurd (none_in_nil y h)
  stays (x ∷ ks) k y h = go (cmp k x) (stays ks k y)
    where
      go : (r : Ordering) → (Contains ks y → Contains (insert_key cmp ks k) y)
          → Contains (match_ordering r (k ∷ x ∷ ks) (x ∷ ks) (x ∷ insert_key cmp ks k)) y
      go Less more = there k y (x ∷ ks) h
      go Equal more = h
      go Greater more = elim (Contains-cases x ks y h) [
        | inl e ↦ subst (λ (z : K). Contains (x ∷ insert_key cmp ks k) z) e
            (here x (insert_key cmp ks k))
        | inr later ↦ there x y (insert_key cmp ks k) (more later)
      ]

  comes : (ks : List K) (k : K) → Contains (insert_key cmp ks k) k
  comes [] k = here k []
  comes (x ∷ ks) k = go (cmp k x) refl (comes ks k)
    where
      go : (r : Ordering) → cmp k x ≡ r → Contains (insert_key cmp ks k) k
          → Contains (match_ordering r (k ∷ x ∷ ks) (x ∷ ks) (x ∷ insert_key cmp ks k)) k
      go Less e more = here k (x ∷ ks)
      go Equal e more =
          subst (λ (z : K). Contains (x ∷ ks) z) (sym (same k x e)) (here x ks)
      go Greater e more = there x k (insert_key cmp ks k) more

  all_of : (xs ks : List K) (y : K) → Contains (fold (insert_key cmp) ks xs) y
      → Contains ks y ⊎ Contains xs y
  all_of [] ks y h = inl h
  all_of (x ∷ xs) ks y h = elim (all_of xs (insert_key cmp ks x) y h) [
    | inl before ↦ elim (one_of ks x y before) [
      | inl e ↦ inr (subst (λ (z : K). Contains (x ∷ xs) z) e (here x xs))
      | inr found ↦ inl found
    ]
    | inr later ↦ inr (there x y xs later)
  ]

  all_stay : (xs ks : List K) (y : K) → Contains ks y
      → Contains (fold (insert_key cmp) ks xs) y
  all_stay [] ks y h = h
  all_stay (x ∷ xs) ks y h = all_stay xs (insert_key cmp ks x) y (stays ks x y h)

  all_come : (xs ks : List K) (y : K) → Contains xs y
      → Contains (fold (insert_key cmp) ks xs) y
  all_come [] ks y h = absurd (none_in_nil y h)
  all_come (x ∷ xs) ks y h = elim (Contains-cases x xs y h) [
    | inl e ↦ all_stay xs (insert_key cmp ks x) y
        (subst (λ (z : K). Contains (insert_key cmp ks x) z) e (comes ks x))
    | inr later ↦ all_come xs (insert_key cmp ks x) y later
  ]

  -- a list in order has just what the list has
  pub has_all : (xs : List K) (y : K)
      → (Contains (in_order cmp xs) y → Contains xs y) × (Contains xs y → Contains (in_order cmp xs) y)
  has_all xs y = (
    λ h. elim (all_of xs [] y h) [ inl none ↦ absurd (none_in_nil y none) | inr found ↦ found ],
    all_come xs [] y,
  )

-- texts and label sets that are equal in their order are the same
lists_same : {A : Type 0} (R : A → A → Ordering) → ((x y : A) → R x y ≡ Equal → x ≡ y)
    → (xs ys : List A) → slice_cmp R xs ys ≡ Equal → xs ≡ ys
lists_same R same [] [] e = refl
lists_same R same [] (y ∷ ys) e = absurd (cc)
lists_same R same (x ∷ xs) [] e = absurd (cc)
lists_same R same (x ∷ xs) (y ∷ ys) e = go (R x y) refl e (lists_same R same xs ys)
  where
    go : (r : Ordering) → R x y ≡ r → ordering_then r (slice_cmp R xs ys) ≡ Equal
        → (slice_cmp R xs ys ≡ Equal → xs ≡ ys) → x ∷ xs ≡ y ∷ ys
    go Less is e more = absurd (cc)
    go Equal is e more = ap₂ (λ (z : _) (zs : List _). z ∷ zs) (same x y is) (more e)
    go Greater is e more = absurd (cc)

pub text_same : (xs ys : List ℕ) → text_cmp xs ys ≡ Equal → xs ≡ ys
text_same xs ys e =
    let told : bytes_eq xs ys ≡ true = sym (is_eq-slice_cmp xs ys) ∙ ap is_eq e in
    search (rules, bytes_eq-Decides, told)

pair_same : (x y : List ℕ × List ℕ) → pair_cmp x y ≡ Equal → x ≡ y
pair_same x y e = go (text_cmp x.0 y.0) refl e
  where
    go : (r : Ordering) → text_cmp x.0 y.0 ≡ r → ordering_then r (text_cmp x.1 y.1) ≡ Equal
        → x ≡ y
    go Less is e = absurd (cc)
    go Equal is e = ap₂ (λ (a b : List ℕ). (a, b)) (text_same x.0 y.0 is) (text_same x.1 y.1 e)
    go Greater is e = absurd (cc)

pub labels_same : (a b : Labels) → labels_cmp a b ≡ Equal → a ≡ b
unfolding labels_cmp
labels_same a b e = lists_same pair_cmp pair_same a b e
