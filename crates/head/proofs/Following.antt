-- The value after one of a name.
use Rattle.std.proofs.Common.{◌≡◌, ℕ, zero, suc, ◌+◌, ◌-◌, ◌<◌, ◌≤◌, ◌⊎◌, inl, inr, Bool, true, false, cond, List, [], ◌∷◌, length, map, get_or, None, Some, Option, unwrap_or, slice_get, refl, sym, ap, ◌∙◌, subst, arith}
use Rattle.std.specs.Prelude.{T, filter}
use Rattle.std.specs.Str.{bytes_eq}
use Rattle.std.specs.Ordering.{is_eq, is_lt, is_le}
use Rattle.std.specs.declared.cmp.Ordering.{Ordering}
use Rattle.std.specs.declared.cmp.Ordering.TheVariants.{Less, Equal, Greater}
use Rattle.std.specs.Cmp.{tied_itself}
use Rattle.std.specs.Cmp.Lexicographic.{texts_ties}
use Rattle.std.specs.FinMap.Entries.{is_sorted}
use Rattle.labels.specs.Labels.{text_cmp, pair_cmp}
use Rattle.labels.proofs.Texts.{text_self, pair_total, pair_exact, bytes_exact}
use Rattle.labels.proofs.Times.{second_T, true_not_false}
use Rattle.pages.specs.Sorted.{IsHit, IsGap}
use Rattle.head.specs.Index.{Pair, PairLists, values_under}
use Rattle.head.proofs.Keyed.{keys_ascend}
use Rattle.head.proofs.NameRuns.{names_below, names_up_to}

abbrev none : Pair × List ℕ
none = (([], []), [])

no_value : (value : List ℕ) → None ≡ Some value → ⊥
no_value value e = cc

same_value : (a b : List ℕ) → Some a ≡ Some b → a ≡ b
same_value a b e = ap (λ (o : Option (List ℕ)). unwrap_or o a) e

-- the values of a name in pairs, where it is told whether the first has the name
abbrev values_by : List ℕ → Bool → Pair × List ℕ → PairLists → List (List ℕ)
values_by name b x xs =
    map (λ (y : Pair × List ℕ). y.0.1)
    (cond b (x ∷ filter (λ (y : Pair × List ℕ). bytes_eq y.0.0 name) xs)
    (filter (λ (y : Pair × List ℕ). bytes_eq y.0.0 name) xs))

less_tied : (o : Ordering) → is_le o ≡ true → is_eq o ≡ false → is_lt o ≡ true
less_tied Less le e = refl
less_tied Equal le e = absurd (true_not_false e)
less_tied Greater le e = absurd (true_not_false (sym le))

above_untied : (o : Ordering) → is_le o ≡ false → is_eq o ≡ false
above_untied Less le = absurd (true_not_false le)
above_untied Equal le = absurd (true_not_false le)
above_untied Greater le = refl

next_less : (x y : Pair × List ℕ) (ys : PairLists) → T (is_sorted pair_cmp (x ∷ y ∷ ys))
    → pair_cmp x.0 y.0 ≡ Less
next_less x y ys h = keys_ascend pair_total (x ∷ y ∷ ys) h 0 1 x (omega arith) (omega arith)

module _ (name : List ℕ) where
  -- after a pair of a greater name no pair has the name
  none_above : (y : Pair × List ℕ) (ys : PairLists) → T (is_sorted pair_cmp (y ∷ ys))
      → is_le (text_cmp y.0.0 name) ≡ false → values_under name (y ∷ ys) ≡ []
  none_above y [] h le =
      ap (λ b. values_by name b y []) (texts_ties y.0.0 name ∙ above_untied (text_cmp y.0.0 name) le)
  none_above y (z ∷ zs) h le =
      ap (λ b. values_by name b y (z ∷ zs))
      (texts_ties y.0.0 name ∙ above_untied (text_cmp y.0.0 name) le)
      ∙ none_above z zs (second_T _ _ h) (go (is_le (text_cmp z.0.0 name)) refl)
    where
      go : (b : Bool) → is_le (text_cmp z.0.0 name) ≡ b → b ≡ false
      go true e = absurd (true_not_false
          (sym (names_up_to name y.0 z.0 (next_less y z zs h) e) ∙ le))
      go false e = refl

  -- after a pair of the name its next value is that of the next pair
  next_first : (x : Pair × List ℕ) (xs : PairLists) → T (is_sorted pair_cmp (x ∷ xs))
      → x.0.0 ≡ name → 0 < length (values_under name xs)
      → (0 < length xs) × (slice_get (values_under name xs) 0 ≡ Some (get_or xs 0 none).0.1)
  next_first x [] h same more = absurd (omega (arith, more))
  next_first x (y ∷ ys) h same more =
      (omega arith, go (bytes_eq y.0.0 name) refl (is_le (text_cmp y.0.0 name)) refl)
    where
      go : (b : Bool) → bytes_eq y.0.0 name ≡ b
          → (c : Bool) → is_le (text_cmp y.0.0 name) ≡ c
          → slice_get (values_by name b y ys) 0 ≡ Some y.0.1
      go true q c le = refl
      go false q true le =
          let less : is_lt (text_cmp y.0.0 name) ≡ true =
          less_tied (text_cmp y.0.0 name) le (sym (texts_ties y.0.0 name) ∙ q) in
          let below : is_lt (text_cmp x.0.0 name) ≡ true =
          names_below name x.0 y.0 (next_less x y ys h) less in
          absurd (true_not_false (sym below
          ∙ ap (λ (n : List ℕ). is_lt (text_cmp n name)) same ∙ ap is_lt (text_self name)))
      go false q false le =
          let empty : values_under name (y ∷ ys) ≡ [] = none_above y ys (second_T _ _ h) le in
          absurd (omega (arith, more, ap length empty))

module _ (name value : List ℕ) where
  -- a pair of the name and the value stands somewhere
  abbrev Stands : PairLists → Type 0
  Stands lists =
      (k : ℕ) × (k < length lists)
      × ((d : Pair × List ℕ) → (get_or lists k d).0 ≡ (name, value))

  stands : (lists : PairLists) (i : ℕ) → slice_get (values_under name lists) i ≡ Some value
      → Stands lists
  stands [] i e = absurd (no_value value e)
  stands (x ∷ xs) i e = go (bytes_eq x.0.0 name) refl i e (stands xs)
    where
      later : Stands xs → Stands (x ∷ xs)
      later s = (suc s.0, omega (arith, s.1), s.2)

      go : (b : Bool) → bytes_eq x.0.0 name ≡ b → (i : ℕ)
          → slice_get (values_by name b x xs) i ≡ Some value
          → ((i : ℕ) → slice_get (values_under name xs) i ≡ Some value → Stands xs)
          → Stands (x ∷ xs)
      go true q zero e rest =
          (0, omega arith, λ d j. (bytes_exact x.0.0 name q j, same_value x.0.1 value e j))
      go true q (suc i) e rest = later (rest i e)
      go false q i e rest = later (rest i e)

  -- and at one place only
  one_place : (lists : PairLists) (i j : ℕ) → T (is_sorted pair_cmp lists) → i < j
      → j < length lists → ((d : Pair × List ℕ) → (get_or lists i d).0 ≡ (name, value))
      → ((d : Pair × List ℕ) → (get_or lists j d).0 ≡ (name, value)) → ⊥
  one_place lists i j h less inside a b =
      let lower : pair_cmp (get_or lists i none).0 (get_or lists j none).0 ≡ Less =
      keys_ascend pair_total lists h i j none less inside in
      let tied : pair_cmp (name, value) (name, value) ≡ Equal =
      tied_itself pair_total (name, value) in
      let both : pair_cmp (name, value) (name, value) ≡ Less =
      (λ k. pair_cmp (sym (a none) k) (sym (b none) k)) ∙ lower in
      no_both (sym both ∙ tied)
    where
      no_both : Less ≡ Equal → ⊥
      no_both e = cc

  -- the next value of the name is that of the next pair
  abbrev Follows : PairLists → ℕ → ℕ → Type 0
  Follows lists p i =
      (suc p < length lists)
      × (slice_get (values_under name lists) (suc i) ≡ Some (get_or lists (suc p) none).0.1)

  follows : (lists : PairLists) (p i : ℕ) → T (is_sorted pair_cmp lists) → p < length lists
      → ((d : Pair × List ℕ) → (get_or lists p d).0 ≡ (name, value))
      → slice_get (values_under name lists) i ≡ Some value
      → suc i < length (values_under name lists) → Follows lists p i
  follows [] p i h inside at e more = absurd (omega (arith, inside))
  follows (x ∷ xs) zero i h inside at e more =
      let named : bytes_eq x.0.0 name ≡ true =
      subst (λ (n : List ℕ). bytes_eq n name ≡ true) (sym (ap (λ (p : Pair). p.0) (at x)))
      (texts_ties name name ∙ ap is_eq (text_self name)) in
      go i (subst (λ b. slice_get (values_by name b x xs) i ≡ Some value) named e)
      (subst (λ b. suc i < length (values_by name b x xs)) named more) named
    where
      go : (i : ℕ) → slice_get (x.0.1 ∷ values_under name xs) i ≡ Some value
          → suc i < suc (length (values_under name xs)) → bytes_eq x.0.0 name ≡ true
          → Follows (x ∷ xs) zero i
      go zero e more named =
          let next = next_first name x xs h (ap (λ (p : Pair). p.0) (at x)) (omega (arith, more)) in
          (omega (arith, next.0), ap (λ b. slice_get (values_by name b x xs) 1) named ∙ next.1)
      go (suc i) e more named =
          let s = stands xs i e in
          absurd (one_place (x ∷ xs) zero (suc s.0) h (omega arith) (omega (arith, s.1)) at s.2)
  follows (x ∷ xs) (suc p) i h inside at e more =
      go (bytes_eq x.0.0 name) refl i e more
      (λ i e more. follows xs p i (second_T _ _ h) (omega (arith, inside)) at e more)
    where
      go : (b : Bool) → bytes_eq x.0.0 name ≡ b → (i : ℕ)
          → slice_get (values_by name b x xs) i ≡ Some value
          → suc i < length (values_by name b x xs)
          → ((i : ℕ) → slice_get (values_under name xs) i ≡ Some value
          → suc i < length (values_under name xs) → Follows xs p i)
          → Follows (x ∷ xs) (suc p) i
      go true q zero e more rest =
          absurd (one_place (x ∷ xs) zero (suc p) h (omega arith) inside
          (λ d j. (bytes_exact x.0.0 name q j, same_value x.0.1 value e j)) at)
      go true q (suc i) e more rest =
          let next = rest i e (omega (arith, more)) in
          (omega (arith, next.0), ap (λ b. slice_get (values_by name b x xs) (suc (suc i))) q ∙ next.1)
      go false q i e more rest =
          let next = rest i e more in
          (omega (arith, next.0), ap (λ b. slice_get (values_by name b x xs) (suc i)) q ∙ next.1)

  -- a search for the pair of a value that the name has hits it, and the next value stands next
  pub value_follows : (lists whole : PairLists) (p i : ℕ) → T (is_sorted pair_cmp lists)
      → lists ≡ whole → IsHit (λ (e : Pair × List ℕ). pair_cmp e.0 (name, value)) lists p
      → slice_get (values_under name whole) (i - 1) ≡ Some value → 0 < i
      → i < length (values_under name whole)
      → (p + 1 < length lists)
      × (slice_get (values_under name whole) i ≡ Some (get_or lists (p + 1) (([], []), [])).0.1)
  value_follows lists whole p i h same hit e later within =
      let here = subst (λ (ls : PairLists). slice_get (values_under name ls) (i - 1) ≡ Some value)
      (sym same) e in
      let ahead = subst (λ (ls : PairLists). i < length (values_under name ls)) (sym same) within in
      let next = follows lists p (i - 1) h hit.inside
      (λ d. pair_exact (get_or lists p d).0 (name, value) (hit.same d)) here
      (omega (arith, ahead, later)) in
      let a : suc p ≡ p + 1 = omega arith in
      let b : i ≡ suc (i - 1) = omega (arith, later) in (
        omega (arith, next.0),
        (λ k. slice_get (values_under name (sym same k)) (b k)) ∙ next.1
            ∙ ap (λ n. Some (get_or lists n none).0.1) a,
      )

  -- and never misses it
  pub value_found : {Y : Type 0} (lists whole : PairLists) (p i : ℕ) → lists ≡ whole
      → IsGap (λ (e : Pair × List ℕ). pair_cmp e.0 (name, value)) lists p
      → slice_get (values_under name whole) i ≡ Some value → Y
  value_found lists whole p i same gap e =
      let s = stands lists i (subst (λ (ls : PairLists). slice_get (values_under name ls) i
      ≡ Some value) (sym same) e) in
      absurd (elim (sides s.0 p) [
        | inl before ↦ not_less (sym (tied s) ∙ gap.below s.0 none before)
        | inr after ↦ not_greater (sym (tied s) ∙ gap.above s.0 none after s.1)
      ])
    where
      sides : (a b : ℕ) → (a < b) ⊎ (b ≤ a)
      sides a zero = inr (omega arith)
      sides zero (suc b) = inl (omega arith)
      sides (suc a) (suc b) = elim (sides a b) [
        | inl l ↦ inl (omega (arith, l))
        | inr l ↦ inr (omega (arith, l))
      ]

      tied : (s : Stands lists) → pair_cmp (get_or lists s.0 none).0 (name, value) ≡ Equal
      tied s = ap (λ (q : Pair). pair_cmp q (name, value)) (s.2 none)
          ∙ tied_itself pair_total (name, value)

      not_less : Equal ≡ Less → ⊥
      not_less e = cc

      not_greater : Equal ≡ Greater → ⊥
      not_greater e = cc
