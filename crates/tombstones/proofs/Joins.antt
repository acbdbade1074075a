-- Deletions with further ones behind them.
use Rattle.std.proofs.Common.{◌≡◌, ℕ, ◌+◌, ◌<◌, Bool, true, false, ◌&&◌, ◌||◌, eqb, List, [], ◌∷◌}
use Rattle.std.proofs.Common.{◌++◌, length, take, get_or, refl, sym, ap, subst, ◌∙◌, append_assoc}
use Rattle.std.specs.Prelude.{ℤ, map, int_le}
use Rattle.std.specs.List.{list_any}
use Rattle.std.specs.List.Sorted.{IsPermutation}
use Rattle.std.proofs.lemmas.List.{get_or_default, map_more}
use Rattle.tombstones.specs.declared.deletion.Deletion.{Deletion}
use Rattle.tombstones.specs.Covering.{are_covered, covered, deletes, interval}
use Rattle.tombstones.proofs.Covers.{covered_all}

or_assoc : (a b c : Bool) → (a || (b || c)) ≡ ((a || b) || c)
or_assoc true b c = refl
or_assoc false b c = refl

or_swap : (a b : Bool) → (a || b) ≡ (b || a)
or_swap true true = refl
or_swap true false = refl
or_swap false true = refl
or_swap false false = refl

any_append : {X : Type 0} (test : X → Bool) (xs ys : List X)
    → list_any test (xs ++ ys) ≡ (list_any test xs || list_any test ys)
any_append test [] ys = refl
any_append test (x ∷ xs) ys =
    ap (λ b. test x || b) (any_append test xs ys)
    ∙ or_assoc (test x) (list_any test xs) (list_any test ys)

and_or : (a b c : Bool) → ((a && c) || (b && c)) ≡ ((a || b) && c)
and_or true true true = refl
and_or true true false = refl
and_or true false true = refl
and_or true false false = refl
and_or false b c = refl

-- the deletions of one interval
any_interval : (rs : List ℕ) (from to : ℤ) (r : ℕ) (t : ℤ)
    → list_any (deletes r t) (map (interval from to) rs) ≡ are_covered rs from to r t
any_interval [] from to r t = refl
any_interval (x ∷ rs) from to r t =
    ap (λ b. (eqb x r && (int_le from t && int_le t to)) || b) (any_interval rs from to r t)
    ∙ and_or (eqb x r) (list_any (λ (y : ℕ). eqb y r) rs) (int_le from t && int_le t to)

pub covered_joined : (ds all held : List Deletion) (rs : List ℕ) (from to : ℤ) (r : ℕ) (t : ℤ)
    → all ≡ ds ++ map (interval from to) rs → IsPermutation all held
    → covered held r t ≡ (are_covered rs from to r t || covered ds r t)
covered_joined ds all held rs from to r t e p =
    covered_all all held r t p
    ∙ ap (λ (xs : List Deletion). covered xs r t) e
    ∙ any_append (deletes r t) ds (map (interval from to) rs)
    ∙ ap (λ b. covered ds r t || b) (any_interval rs from to r t)
    ∙ or_swap (covered ds r t) (are_covered rs from to r t)

pub joined_next : (ds all : List Deletion) (rs : List ℕ) (from to : ℤ) (i r : ℕ) (d : Deletion)
    → i < length rs → r ≡ get_or rs i r → d ≡ interval from to r
    → all ≡ ds ++ map (interval from to) (take i rs)
    → all ++ d ∷ [] ≡ ds ++ map (interval from to) (take (i + 1) rs)
joined_next ds all rs from to i r d lt at e so_far =
    ap (λ (x : Deletion). all ++ x ∷ []) (e
    ∙ ap (interval from to) (at ∙ get_or_default rs i r 0 lt))
    ∙ ap (λ (xs : List Deletion). xs ++ interval from to (get_or rs i 0) ∷ []) so_far
    ∙ append_assoc ds (map (interval from to) (take i rs)) (interval from to (get_or rs i 0) ∷ [])
    ∙ ap (λ (xs : List Deletion). ds ++ xs) (sym (map_more (interval from to) rs i 0 lt))

-- the same, of times as they were handed over
pub joined_at : (ds all held : List Deletion) (rs : List ℕ) (a b from to : ℤ) (r : ℕ) (t : ℤ)
    → a ≡ from → b ≡ to → all ≡ ds ++ map (interval a b) rs → IsPermutation all held
    → covered held r t ≡ (are_covered rs from to r t || covered ds r t)
joined_at ds all held rs a b from to r t one two e p =
    covered_joined ds all held rs a b r t e p
    ∙ ap (λ (z : ℤ). are_covered rs z b r t || covered ds r t) one
    ∙ ap (λ (z : ℤ). are_covered rs from z r t || covered ds r t) two

-- all that are held, of times as they were handed over
pub joined_all : (ds all held : List Deletion) (rs : List ℕ) (a b from to : ℤ) → a ≡ from → b ≡ to
    → all ≡ ds ++ map (interval a b) rs → IsPermutation all held
    → IsPermutation (ds ++ map (interval from to) rs) held
joined_all ds all held rs a b from to one two e p =
    subst (λ (xs : List Deletion). IsPermutation xs held) (e
    ∙ ap (λ (z : ℤ). ds ++ map (interval z b) rs) one
    ∙ ap (λ (z : ℤ). ds ++ map (interval from z) rs) two) p
