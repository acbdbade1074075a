-- Numbers of label sets.
use Rattle.std.proofs.Common.{◌≡◌, ℕ, ◌<◌, ◌≤◌, zero, suc, true, false, Bool, eqb, cond, List, []}
use Rattle.std.proofs.Common.{◌∷◌, ◌++◌, length, get_or, take, drop, refl, sym, ap, ◌∙◌, ◌⊎◌, inl}
use Rattle.std.proofs.Common.{inr, append_assoc, arith}
use Rattle.std.specs.Str.{bytes_eq}
use Rattle.std.proofs.lemmas.Bool.{eqb-true, false_from_ne_true}
use Rattle.std.proofs.lemmas.Bool.Decides.{nat_tests}
use Rattle.std.proofs.lemmas.List.{take-append-drop, take_all, take_at}
use Rattle.std.proofs.lemmas.Slice.Eq.{bytes_eq-Decides}
use Rattle.name_table.specs.Names.{Label, number_of, is_new, BeginWith}

pub either : (b : Bool) → (b ≡ true) ⊎ (b ≡ false)
either true = inl refl
either false = inr refl

same_text : (m l : Label) → bytes_eq m l ≡ true → m ≡ l
same_text m l e = (bytes_eq-Decides m l).0 e

hit : (l m : Label) (ms : List Label) → bytes_eq m l ≡ true → number_of l (m ∷ ms) ≡ zero
hit l m ms e = ap (λ (b : Bool). cond b zero (suc (number_of l ms))) e

miss : (l m : Label) (ms : List Label) → bytes_eq m l ≡ false
    → number_of l (m ∷ ms) ≡ suc (number_of l ms)
miss l m ms e = ap (λ (b : Bool). cond b zero (suc (number_of l ms))) e

pub number_le : (l : Label) (names : List Label) → number_of l names ≤ length names
number_le l [] = omega arith
number_le l (m ∷ ms) =
    elim (either (bytes_eq m l)) [
      | inl t ↦ omega (arith, hit l m ms t)
      | inr f ↦ omega (arith, miss l m ms f, number_le l ms)
    ]

-- the label set of a number
pub label_there : (l : Label) (names : List Label) → number_of l names < length names
    → get_or names (number_of l names) [] ≡ l
label_there l [] lt = absurd (omega arith)
label_there l (m ∷ ms) lt =
    elim (either (bytes_eq m l)) [
      | inl t ↦ ap (λ (n : ℕ). get_or (m ∷ ms) n []) (hit l m ms t) ∙ same_text m l t
      | inr f ↦
          let e = miss l m ms f in
          ap (λ (n : ℕ). get_or (m ∷ ms) n []) e ∙ label_there l ms (omega (arith, e))
    ]

self : (n : ℕ) → eqb n n ≡ true
self n = grind (arith, nat_tests)

pub is_new_when : (l : Label) (names : List Label) → length names ≤ number_of l names
    → is_new l names ≡ true
is_new_when l names ge =
    let same : number_of l names ≡ length names = omega (arith, number_le l names) in
    ap (λ (n : ℕ). eqb n (length names)) same ∙ self (length names)

pub when_new : (l : Label) (names : List Label) → is_new l names ≡ true
    → number_of l names ≡ length names
when_new l names e = eqb-true (number_of l names) (length names) e

pub not_new : (l : Label) (names : List Label) → number_of l names < length names
    → is_new l names ≡ false
not_new l names lt =
    false_from_ne_true (is_new l names)
    (λ t. let e = when_new l names t in absurd (omega (arith, e)))

-- names only grow

pub begin_here : (names : List Label) → BeginWith names names
begin_here names = take_all (length names) names (omega arith)

pub begin_on : (a b c : List Label) → BeginWith a b → BeginWith b c → BeginWith a c
begin_on a b c h i =
    let d = drop (length b) c in
    let e = drop (length a) b in
    let whole : c ≡ b ++ d =
    sym (take-append-drop (length b) c) ∙ ap (λ (y : List Label). y ++ d) i in
    let first : b ≡ a ++ e =
    sym (take-append-drop (length a) b) ∙ ap (λ (y : List Label). y ++ e) h in
    ap (take (length a))
    (whole ∙ (ap (λ (y : List Label). y ++ d) first ∙ append_assoc a e d))
    ∙ take_at a (e ++ d) (length a) refl

pub begin_more : (names : List Label) (l : Label) → BeginWith names (names ++ l ∷ [])
begin_more names l = take_at names (l ∷ []) (length names) refl
