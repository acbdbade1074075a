-- Pairs that pass the tests are a label set, and those of a label set pass them.
use Rattle.std.proofs.Common.{◌≡◌, ℕ, zero, suc, ◌+◌, ◌-◌, ◌<◌, ◌≤◌, Bool, true, false, List, []}
use Rattle.std.proofs.Common.{◌∷◌, length, drop, get_or, eqb, Bor, refl, sym, subst, arith}
use Rattle.std.specs.Prelude.{◌&&◌, nat_le}
use Rattle.std.specs.List.{list_all}
use Rattle.std.specs.Ordering.{is_lt}
use Rattle.std.specs.declared.cmp.Ordering.{Ordering}
use Rattle.std.specs.declared.cmp.Ordering.TheVariants.{Less, Equal, Greater}
use Rattle.std.proofs.lemmas.Bool.{le-leb, eqb-true, false_from_ne_true}
use Rattle.std.proofs.lemmas.Bool.Decides.{nat_tests}
use Rattle.std.proofs.lemmas.List.{get_or-map, length-map}
use Rattle.labels.specs.Labels.{Labels, text_cmp, IsByName}
use Rattle.labels.specs.LabelSets.{IsLabelSet, are_named, has_value}
use Rattle.labels.specs.Names.{is_name}
use Rattle.labels.specs.Pairs.{texts_of}
use Rattle.event_text.specs.Neighbours.{neighbours}
use Rattle.event_text.specs.Reading.{are_labels, rises}
use Rattle.event_text.proofs.Neighbours.{goes_on, stops, ends}

abbrev Pair : Type 0
Pair = List ℕ × List ℕ

and_left : (x y : Bool) → (x && y) ≡ true → x ≡ true
and_left true y h = refl
and_left false y h = absurd cc

and_right : (x y : Bool) → (x && y) ≡ true → y ≡ true
and_right true y h = h
and_right false y h = absurd cc

less_when : (o : Ordering) → is_lt o ≡ true → o ≡ Less
less_when Less h = refl
less_when Equal h = absurd cc
less_when Greater h = absurd cc

by_name : (ps : Labels) → neighbours rises ps ≡ true → IsByName ps
by_name [] h k d lt = absurd (omega arith)
by_name (p ∷ []) h k d lt = absurd (omega arith)
by_name (p ∷ q ∷ ps) h zero d lt =
    less_when (text_cmp p.0 q.0) (and_left (rises p q) (neighbours rises (q ∷ ps)) h)
by_name (p ∷ q ∷ ps) h (suc k) d lt =
    let e : suc k + 1 ≡ suc (k + 1) = omega arith in
    rw e (by_name (q ∷ ps) (and_right (rises p q) (neighbours rises (q ∷ ps)) h) k d (omega arith))

each_true : {X : Type 0} (p : X → Bool) (xs : List X) → list_all p xs ≡ true → (k : ℕ) (d : X)
    → k < length xs → p (get_or xs k d) ≡ true
each_true p [] h k d lt = absurd (omega arith)
each_true p (x ∷ xs) h zero d lt = and_left (p x) (list_all p xs) h
each_true p (x ∷ xs) h (suc k) d lt =
    each_true p xs (and_right (p x) (list_all p xs) h) k d (omega arith)

not_empty : (p : Pair) → has_value p ≡ true → p.1 ≡ [] → ⊥
not_empty p h e = let f : has_value p ≡ false = rw e refl in cc

few_when : (n : ℕ) → nat_le n 64 ≡ true → n ≤ 64
few_when n h = grind (arith, nat_tests)

pub is_label_set : (ps : Labels) → are_labels ps ≡ true → IsLabelSet ps
is_label_set ps h =
    let up = neighbours rises ps in
    let named = are_named ps in
    let valued = list_all has_value ps in
    let few = nat_le (length ps) 64 in
    let three : (up && named && valued) ≡ true = and_left (up && named && valued) few h in
    let two : (up && named) ≡ true = and_left (up && named) valued three in
    record {
      by_name = by_name ps (and_left up named two);
      named = each_true (λ pair. is_name pair.0) ps (and_right up named two);
      valued =
          λ k d lt. not_empty (get_or ps k d)
          (each_true has_value ps (and_right (up && named) valued three) k d lt);
      few = few_when (length ps) (and_right (up && named && valued) few h);
    }

-- and those of a label set pass them

rise_when : (ps : Labels) → IsByName ps → neighbours rises ps ≡ true
rise_when [] h = refl
rise_when (p ∷ []) h = refl
rise_when (p ∷ q ∷ ps) h =
    let first : text_cmp p.0 q.0 ≡ Less = h zero p (omega arith) in
    let later = λ (k : ℕ) (d : Pair) (lt : k + 1 < length (q ∷ ps)).
    let e : suc k + 1 ≡ suc (k + 1) = omega arith in
    subst (λ (m : ℕ). text_cmp (get_or (q ∷ ps) k d).0 (get_or (p ∷ q ∷ ps) m d).0 ≡ Less) e
    (h (suc k) d (omega arith)) in
    let rest = rise_when (q ∷ ps) later in
    rw (first, rest) refl

all_when : {X : Type 0} (p : X → Bool) (xs : List X)
    → ((k : ℕ) (d : X) → k < length xs → p (get_or xs k d) ≡ true) → list_all p xs ≡ true
all_when p [] h = refl
all_when p (x ∷ xs) h =
    let first : p x ≡ true = h zero x (omega arith) in
    let rest = all_when p xs (λ k d lt. h (suc k) d (omega arith)) in
    rw (first, rest) refl

nonzero : (n : ℕ) → 0 < n → eqb n 0 ≡ false
nonzero n lt = false_from_ne_true (eqb n 0) (λ t. let e = eqb-true n 0 t in absurd (omega (arith, e)))

valued_when : (p : Pair) → (p.1 ≡ [] → ⊥) → has_value p ≡ true
valued_when p h = by_value p.1 h
  where
    by_value : (v : List ℕ) → (v ≡ [] → ⊥) → has_value (p.0, v) ≡ true
    by_value [] g = absurd (g refl)
    by_value (b ∷ v) g = rw (nonzero (suc (length v)) (omega arith)) refl

pub are_labels_when : (ps : Labels) → IsLabelSet ps → are_labels ps ≡ true
are_labels_when ps h =
    let up = rise_when ps h.by_name in
    let named : are_named ps ≡ true = all_when (λ pair. is_name pair.0) ps h.named in
    let valued : list_all has_value ps ≡ true =
    all_when has_value ps (λ k d lt. valued_when (get_or ps k d) (h.valued k d lt)) in
    let few : nat_le (length ps) 64 ≡ true = le-leb (length ps) 64 h.few in
    rw (up, named, valued, few) refl

-- the loop that looks at each name and the next

abbrev pair_now : Bor (List ℕ) × Bor (List ℕ) → Pair
pair_now p = (p.0.now, p.1.now)

text_at : (ps : List (Bor (List ℕ) × Bor (List ℕ))) (i : ℕ) (d : Bor (List ℕ) × Bor (List ℕ))
    → i < length ps → pair_now (get_or ps i d) ≡ get_or (texts_of ps) i (pair_now (get_or ps i d))
text_at ps i d lt = sym (get_or-map pair_now ps i d (pair_now (get_or ps i d)) lt)

pub names_go_on : (ps : List (Bor (List ℕ) × Bor (List ℕ))) (i : ℕ)
    (d e : Bor (List ℕ) × Bor (List ℕ)) (whole : Bool) → 0 < i → i < length ps
    → true ≡ is_lt (text_cmp (get_or ps (i - 1) d).0.now (get_or ps i e).0.now)
    → neighbours rises (drop (i - 1) (texts_of ps)) ≡ whole
    → neighbours rises (drop (i + 1 - 1) (texts_of ps)) ≡ whole
names_go_on ps i d e whole some lt less so_far =
    goes_on rises (texts_of ps) i (pair_now (get_or ps (i - 1) d))
    (pair_now (get_or ps i e)) whole some (omega (arith, length-map ps pair_now))
    (text_at ps (i - 1) d (omega arith)) (text_at ps i e lt) (sym less) so_far

pub names_stop : (ps : List (Bor (List ℕ) × Bor (List ℕ))) (i : ℕ)
    (d e : Bor (List ℕ) × Bor (List ℕ)) (whole : Bool) → 0 < i → i < length ps
    → false ≡ is_lt (text_cmp (get_or ps (i - 1) d).0.now (get_or ps i e).0.now)
    → neighbours rises (drop (i - 1) (texts_of ps)) ≡ whole → false ≡ whole
names_stop ps i d e whole some lt less so_far =
    stops rises (texts_of ps) i (pair_now (get_or ps (i - 1) d))
    (pair_now (get_or ps i e)) whole some (omega (arith, length-map ps pair_now))
    (text_at ps (i - 1) d (omega arith)) (text_at ps i e lt) (sym less) so_far

pub names_end : (ps : List (Bor (List ℕ) × Bor (List ℕ))) (i : ℕ) (whole : Bool) → length ps ≤ i
    → neighbours rises (drop (i - 1) (texts_of ps)) ≡ whole → true ≡ whole
names_end ps i whole past so_far =
    ends rises (texts_of ps) i whole (omega (arith, length-map ps pair_now)) so_far
