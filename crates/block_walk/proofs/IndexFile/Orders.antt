-- Symbols ascend, so label sets compare by the numbers of their symbols as by their texts.
use Rattle.std.proofs.Common.{◌≡◌, ℕ, zero, suc, ◌<◌, Bool, true, false, ◌&&◌, eqb, List, [], ◌∷◌, length, get_or, refl, sym, ap, ◌∙◌, inl, inr, arith}
use Rattle.std.specs.Prelude.{map}
use Rattle.std.specs.List.{AllByRecursion}
use Rattle.std.specs.Ordering.{nat_cmp, is_lt, ordering_then, ordering_reverse}
use Rattle.std.specs.declared.cmp.Ordering.{Ordering}
use Rattle.std.specs.declared.cmp.Ordering.TheVariants.{Less, Equal, Greater}
use Rattle.std.specs.Cmp.Lexicographic.{slice_cmp}
use Rattle.std.proofs.lemmas.Bool.{cases_lt, cases_eq, lt-ltb, le-ltb, eqb-true, eqb-false, false_from_ne_true, true_from_ne_false}
use Rattle.std.proofs.lemmas.Cmp.{nat_list_cmp_total}
use Rattle.labels.specs.Labels.{text_cmp, pair_cmp}
use Rattle.block_walk.specs.IndexFile.Layout.{is_less, ascending}
use Rattle.block_walk.specs.IndexFile.Series.{pair_of}

both : (p q : Bool) → (p && q) ≡ true → (p ≡ true) × (q ≡ true)
both true q h = (refl, h)
both false q h = absurd cc

less_is : (o : Ordering) → is_lt o ≡ true → o ≡ Less
less_is Less h = refl
less_is Equal h = absurd cc
less_is Greater h = absurd cc

equal_is : (o : Ordering) → o ≡ ordering_reverse o → o ≡ Equal
equal_is Less h = absurd cc
equal_is Equal h = refl
equal_is Greater h = absurd cc

head_less : (a : List ℕ) (rest : List (List ℕ)) (k : ℕ) → ascending (a ∷ rest) ≡ true
    → k < length rest → text_cmp a (get_or rest k []) ≡ Less
unfolding ascending
head_less a [] k h lt = absurd (omega arith)
head_less a (b ∷ rest) zero h lt =
    less_is (text_cmp a b) (both (is_less a b) (ascending (b ∷ rest)) h).0
head_less a (b ∷ rest) (suc k) h lt =
    let p = both (is_less a b) (ascending (b ∷ rest)) h in
    nat_list_cmp_total.trans a b (get_or rest k []) (less_is (text_cmp a b) p.0)
    (head_less b rest k p.1 (omega arith))

tail_ascends : (a : List ℕ) (rest : List (List ℕ)) → ascending (a ∷ rest) ≡ true
    → ascending rest ≡ true
unfolding ascending
tail_ascends a [] h = refl
tail_ascends a (b ∷ rest) h = (both (is_less a b) (ascending (b ∷ rest)) h).1

pub symbols_less : (xs : List (List ℕ)) (i j : ℕ) → ascending xs ≡ true → i < j → j < length xs
    → text_cmp (get_or xs i []) (get_or xs j []) ≡ Less
symbols_less [] i j h lt inside = absurd (omega arith)
symbols_less (a ∷ rest) i zero h lt inside = absurd (omega arith)
symbols_less (a ∷ rest) zero (suc j) h lt inside = head_less a rest j h (omega arith)
symbols_less (a ∷ rest) (suc i) (suc j) h lt inside =
    symbols_less rest i j (tail_ascends a rest h) (omega arith) (omega arith)

pub number_less : (i j : ℕ) → i < j → nat_cmp i j ≡ Less
number_less i j lt = rw (lt-ltb i j lt) refl

number_equal : (i : ℕ) → nat_cmp i i ≡ Equal
number_equal i =
    let same : eqb i i ≡ true = true_from_ne_false (eqb i i) (λ h. eqb-false i i h refl) in
    rw (le-ltb i i (omega arith), same) refl

pub number_greater : (i j : ℕ) → j < i → nat_cmp i j ≡ Greater
number_greater i j lt =
    let no : eqb i j ≡ false =
    false_from_ne_true (eqb i j) (λ h. absurd (omega (arith, eqb-true i j h))) in
    rw (le-ltb i j (omega arith), no) refl

-- two symbols compare as their numbers
pub symbols_cmp : (xs : List (List ℕ)) (i j : ℕ) → ascending xs ≡ true → i < length xs
    → j < length xs → text_cmp (get_or xs i []) (get_or xs j []) ≡ nat_cmp i j
symbols_cmp xs i j h a b =
    elim (cases_lt i j) [
      | inl lt ↦ symbols_less xs i j h lt b ∙ sym (number_less i j lt)
      | inr le ↦
          elim (cases_eq i j) [
            | inl e ↦
                let same : text_cmp (get_or xs i []) (get_or xs i []) ≡ Equal =
                equal_is (text_cmp (get_or xs i []) (get_or xs i []))
                (nat_list_cmp_total.antisymm (get_or xs i []) (get_or xs i [])) in
                rw (← e) (same ∙ sym (number_equal i))
            | inr n ↦
                let lt : j < i = omega arith in
                nat_list_cmp_total.antisymm (get_or xs i []) (get_or xs j [])
                ∙ ap ordering_reverse (symbols_less xs j i h lt a)
                ∙ sym (number_greater i j lt)
          ]
    ]

abbrev pub number_pair_cmp : (ℕ × ℕ) → (ℕ × ℕ) → Ordering
number_pair_cmp a b = ordering_then (nat_cmp a.0 b.0) (nat_cmp a.1 b.1)

abbrev pub InTable : List (List ℕ) → List (ℕ × ℕ) → Type 0
InTable xs ps = AllByRecursion (λ p. (p.0 < length xs) × (p.1 < length xs)) ps

pub pairs_cmp : (xs : List (List ℕ)) (a b : ℕ × ℕ) → ascending xs ≡ true
    → (a.0 < length xs) × (a.1 < length xs) → (b.0 < length xs) × (b.1 < length xs)
    → pair_cmp (pair_of xs a) (pair_of xs b) ≡ number_pair_cmp a b
pairs_cmp xs a b h p q =
    rw (symbols_cmp xs a.0 b.0 h p.0 q.0, symbols_cmp xs a.1 b.1 h p.1 q.1) refl

-- label sets compare as the lists of the numbers of their symbols
pub label_sets_cmp : (xs : List (List ℕ)) (ps qs : List (ℕ × ℕ)) → ascending xs ≡ true
    → InTable xs ps → InTable xs qs → slice_cmp pair_cmp (map (pair_of xs) ps) (map (pair_of xs) qs)
    ≡ slice_cmp number_pair_cmp ps qs
label_sets_cmp xs [] [] h p q = refl
label_sets_cmp xs [] (b ∷ qs) h p q = refl
label_sets_cmp xs (a ∷ ps) [] h p q = refl
label_sets_cmp xs (a ∷ ps) (b ∷ qs) h p q =
    rw (pairs_cmp xs a b h p.0 q.0, label_sets_cmp xs ps qs h p.1 q.1) refl
