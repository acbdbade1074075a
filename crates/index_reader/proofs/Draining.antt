-- The test of the lists is what it is meant to be.
use Rattle.std.proofs.Common.{◌≡◌, ℕ, zero, suc, ◌+◌, ◌<◌, ◌≤◌, Bool, true, false, ◌&&◌, eqb, List}
use Rattle.std.proofs.Common.{[], ◌∷◌, length, get_or, set, drop, refl, sym, ap, ◌∙◌, inl, inr}
use Rattle.std.proofs.Common.{arith}
use Rattle.std.specs.List.{AllByRecursion}
use Rattle.std.proofs.lemmas.Bool.{cases_eq, eqb-true, eqb-false, true_from_ne_false}
use Rattle.std.proofs.lemmas.Bool.{false_from_ne_true}
use Rattle.std.proofs.lemmas.List.{get_or-set_same, get_or-set_other, length-set, drop_all}
use Rattle.std.proofs.lemmas.List.{get_or-map}
use Rattle.std.specs.Borrow.{Bor}
use Rattle.std.proofs.Math.Seq.{drop-cons}
use Rattle.index_reader.specs.References.{references_in}
use Rattle.index_reader.specs.Reading.Carried.{Carried, references_carrying, ListsAgree, is_first}
use Rattle.index_reader.specs.Reading.Carried.{all_empty, are_used_up}
use Rattle.index_reader.specs.Seen.{references_in_each}

abbrev pub InRange : ℕ → List Carried → Type 0
InRange n cs = AllByRecursion (λ c. c.0 < n) cs

both : (p q : Bool) → (p && q) ≡ true → (p ≡ true) × (q ≡ true)
both true q h = (refl, h)
both false q h = absurd cc

eqb_same : (n : ℕ) → eqb n n ≡ true
eqb_same n = true_from_ne_false (eqb n n) (λ h. eqb-false n n h refl)

first_is : (r : ℕ) (xs : List ℕ) → is_first r xs ≡ true → xs ≡ r ∷ drop 1 xs
first_is r [] h = absurd cc
first_is r (x ∷ xs) h = ap (λ (y : ℕ). y ∷ xs) (eqb-true x r h)

empty_takes : (xs : List (List ℕ)) → all_empty xs ≡ true → (k : ℕ) → get_or xs k [] ≡ []
unfolding all_empty
empty_takes [] h k = refl
empty_takes ([] ∷ xs) h zero = refl
empty_takes ([] ∷ xs) h (suc k) = empty_takes xs h k
empty_takes ((x ∷ ys) ∷ xs) h k = absurd cc

empty_again : (xs : List (List ℕ)) → ((k : ℕ) → k < length xs → get_or xs k [] ≡ [])
    → all_empty xs ≡ true
unfolding all_empty
empty_again [] h = refl
empty_again ([] ∷ xs) h = empty_again xs (λ k lt. h (suc k) (omega arith))
empty_again ((x ∷ ys) ∷ xs) h = absurd (let e : x ∷ ys ≡ [] = h 0 (omega arith) in cc)

pub with_same : (k r : ℕ) (cs : List Carried)
    → references_carrying k ((k, r) ∷ cs) ≡ r ∷ references_carrying k cs
unfolding references_carrying
with_same k r cs = rw (eqb_same k) refl

pub with_other : (k : ℕ) (c : Carried) (cs : List Carried) → (c.0 ≡ k → ⊥)
    → references_carrying k (c ∷ cs) ≡ references_carrying k cs
unfolding references_carrying
with_other k c cs ne =
    let no : eqb c.0 k ≡ false = false_from_ne_true (eqb c.0 k) (λ h. ne (eqb-true c.0 k h)) in
    rw no refl

range_set : (n m : ℕ) (cs : List Carried) → n ≡ m → InRange n cs → InRange m cs
range_set n m cs e h = rw (← e) h

pub drained_takes : (cs : List Carried) (rests : List (List ℕ)) → InRange (length rests) cs
    → are_used_up rests cs ≡ true → ListsAgree rests cs
unfolding are_used_up references_carrying
drained_takes [] rests fits h k lt = empty_takes rests h k
drained_takes (c ∷ cs) rests fits h k lt =
    let xs = get_or rests c.0 [] in
    let p = both (is_first c.1 xs) _ h in
    let rests' = set rests c.0 (drop 1 xs) in
    let len : length rests ≡ length rests' = sym (length-set rests c.0 (drop 1 xs)) in
    let others = drained_takes cs rests' (range_set _ _ cs len fits.1) p.1 k (omega (arith, len)) in
    elim (cases_eq c.0 k) [
      | inl e ↦
          let here : drop 1 xs ≡ references_carrying k cs =
          sym (get_or-set_same rests c.0 (drop 1 xs) [] fits.0)
          ∙ ap (λ (j : ℕ). get_or rests' j []) e
          ∙ others in
          ap (λ (j : ℕ). get_or rests j []) (sym e)
          ∙ first_is c.1 xs p.0
          ∙ ap (λ (ys : List ℕ). c.1 ∷ ys) here
          ∙ rw (e, eqb_same k) refl
      | inr n ↦
          sym (get_or-set_other rests c.0 k (drop 1 xs) [] (λ e. n (sym e)))
          ∙ others
          ∙ sym (with_other k c cs n)
    ]

pub drained_again : (cs : List Carried) (rests : List (List ℕ)) → InRange (length rests) cs
    → ListsAgree rests cs → are_used_up rests cs ≡ true
unfolding are_used_up references_carrying
drained_again [] rests fits a = empty_again rests a
drained_again (c ∷ cs) rests fits a =
    let xs = get_or rests c.0 [] in
    let here : xs ≡ c.1 ∷ references_carrying c.0 cs = a c.0 fits.0 ∙ with_same c.0 c.1 cs in
    let first : is_first c.1 xs ≡ true = rw here (eqb_same c.1) in
    let rests' = set rests c.0 (drop 1 xs) in
    let len : length rests ≡ length rests' = sym (length-set rests c.0 (drop 1 xs)) in
    let others = drained_again cs rests' (range_set _ _ cs len fits.1) (λ k lt.
    elim (cases_eq c.0 k) [
      | inl e ↦
          ap (λ (j : ℕ). get_or rests' j []) (sym e)
          ∙ get_or-set_same rests c.0 (drop 1 xs) [] fits.0
          ∙ ap (drop 1) here
          ∙ ap (λ (j : ℕ). references_carrying j cs) e
      | inr n ↦
          get_or-set_other rests c.0 k (drop 1 xs) [] (λ e. n (sym e))
          ∙ a k (omega (arith, len))
          ∙ with_other k c cs n
    ]) in
    rw (first, others) refl

pub drained_step : (rests : List (List ℕ)) (cs : List Carried) (i : ℕ) (c : Carried) → i < length cs
    → get_or cs i (0, 0) ≡ c
    → are_used_up rests (drop i cs) ≡ (is_first c.1 (get_or rests c.0 [])
    && are_used_up (set rests c.0 (drop 1 (get_or rests c.0 []))) (drop (i + 1) cs))
unfolding are_used_up
drained_step rests cs i c lt e =
    let s : suc i ≡ i + 1 = omega arith in
    ap (are_used_up rests) (drop-cons cs i (0, 0) lt
    ∙ ap (λ (n : ℕ). get_or cs i (0, 0) ∷ drop n cs) s
    ∙ ap (λ (d : Carried). d ∷ drop (i + 1) cs) e)

-- a list that is used up, or begins with another reference
pub stops_empty : (rests : List (List ℕ)) (cs : List Carried) (i : ℕ) (c : Carried) (whole : Bool)
    → i < length cs → get_or cs i (0, 0) ≡ c → get_or rests c.0 [] ≡ []
    → are_used_up rests (drop i cs) ≡ whole → false ≡ whole
stops_empty rests cs i c whole lt e empty h = sym (rw empty at (drained_step rests cs i c lt e)) ∙ h

pub stops_other : (rests : List (List ℕ)) (cs : List Carried) (i : ℕ) (c : Carried) (x : ℕ)
    (xs : List ℕ) (whole : Bool) → i < length cs → get_or cs i (0, 0) ≡ c
    → get_or rests c.0 [] ≡ x ∷ xs → (x ≡ c.1 → ⊥) → are_used_up rests (drop i cs) ≡ whole
    → false ≡ whole
stops_other rests cs i c x xs whole lt e text ne h =
    let no : eqb x c.1 ≡ false = false_from_ne_true (eqb x c.1) (λ t. ne (eqb-true x c.1 t)) in
    sym (rw no at (rw text at (drained_step rests cs i c lt e))) ∙ h

pub goes_on : (rests : List (List ℕ)) (cs : List Carried) (i : ℕ) (c : Carried) (x : ℕ)
    (xs : List ℕ) (whole : Bool) → i < length cs → get_or cs i (0, 0) ≡ c
    → get_or rests c.0 [] ≡ x ∷ xs → x ≡ c.1 → are_used_up rests (drop i cs) ≡ whole
    → are_used_up (set rests c.0 xs) (drop (i + 1) cs) ≡ whole
goes_on rests cs i c x xs whole lt e text same h =
    let step = drained_step rests cs i c lt e in
    let first : is_first c.1 (get_or rests c.0 []) ≡ true = rw text (rw same (eqb_same c.1)) in
    let rest : drop 1 (get_or rests c.0 []) ≡ xs = ap (drop 1) text in
    sym (step
    ∙ ap (λ (b : Bool). b
    && are_used_up (set rests c.0 (drop 1 (get_or rests c.0 []))) (drop (i + 1) cs)) first
    ∙ ap (λ (ys : List ℕ). are_used_up (set rests c.0 ys) (drop (i + 1) cs)) rest)
    ∙ h

pub is_done : (rests : List (List ℕ)) (cs : List Carried) (i : ℕ) (whole : Bool) → length cs ≤ i
    → are_used_up rests (drop i cs) ≡ whole → all_empty rests ≡ whole
unfolding are_used_up
is_done rests cs i whole le h = sym (ap (are_used_up rests) (drop_all i cs le)) ∙ h

pub empty_step : (xs : List (List ℕ)) (i : ℕ) (whole : Bool) → i < length xs → get_or xs i [] ≡ []
    → all_empty (drop i xs) ≡ whole → all_empty (drop (i + 1) xs) ≡ whole
unfolding all_empty
empty_step xs i whole lt e h =
    let s : suc i ≡ i + 1 = omega arith in
    sym (ap all_empty (drop-cons xs i [] lt
    ∙ ap (λ (n : ℕ). get_or xs i [] ∷ drop n xs) s
    ∙ ap (λ (y : List ℕ). y ∷ drop (i + 1) xs) e))
    ∙ h

pub empty_stops : (xs : List (List ℕ)) (i : ℕ) (y : ℕ) (ys : List ℕ) (whole : Bool) → i < length xs
    → get_or xs i [] ≡ y ∷ ys → all_empty (drop i xs) ≡ whole → false ≡ whole
unfolding all_empty
empty_stops xs i y ys whole lt e h =
    let s : suc i ≡ i + 1 = omega arith in
    sym (ap all_empty (drop-cons xs i [] lt
    ∙ ap (λ (n : ℕ). get_or xs i [] ∷ drop n xs) s
    ∙ ap (λ (z : List ℕ). z ∷ drop (i + 1) xs) e))
    ∙ h

pub empty_done : (xs : List (List ℕ)) (i : ℕ) (whole : Bool) → length xs ≤ i
    → all_empty (drop i xs) ≡ whole → true ≡ whole
unfolding all_empty
empty_done xs i whole le h = sym (ap all_empty (drop_all i xs le)) ∙ h

pub list_at : (xs : List (Bor (List ℕ))) (i : ℕ) (d : Bor (List ℕ)) → i < length xs
    → get_or (references_in_each xs) i [] ≡ references_in (get_or xs i d).now
list_at xs i d lt = get_or-map (λ (x : Bor (List ℕ)). references_in x.now) xs i d [] lt

pub is_cons : (xs : List ℕ) → 0 < length xs → (y : ℕ) × (ys : List ℕ) × (xs ≡ y ∷ ys)
is_cons [] h = absurd (omega arith)
is_cons (x ∷ xs) h = (x, xs, refl)

pub rest_at : (xs : List (Bor (List ℕ))) (i : ℕ) (d : Bor (List ℕ)) → i < length xs
    → d ≡ get_or xs i d → get_or (references_in_each xs) i [] ≡ references_in d.now
rest_at xs i d lt e = list_at xs i d lt ∙ ap (λ (x : Bor (List ℕ)). references_in x.now) (sym e)
