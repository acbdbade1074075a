-- Checks along a list, one element after the other.
use Rattle.std.proofs.Common.{◌≡◌, ℕ, zero, suc, ◌+◌, ◌<◌, ◌≤◌, Bool, true, false, ◌&&◌, List, [], ◌∷◌, ◌++◌, length, take, drop, Some, Result, Ok, Err, refl, sym, ap, subst, ◌∙◌, arith}
use Rattle.std.specs.Prelude.{slice_get}
use Rattle.std.specs.List.{AllByRecursion, Contains, list_all, flat_map}
use Rattle.std.specs.List.Sorted.{IsStrictlyIncreasing}
use Rattle.std.proofs.Math.Seq.{drop-cons}
use Rattle.std.proofs.lemmas.List.{drop_all, take_all, length-append}
use Rattle.std.proofs.lemmas.Grind.{take_at_read, flat_map-append}
use Rattle.std.proofs.lemmas.Option.{slice_get_within, get_or_from_slice_get}
use Rattle.labels.proofs.Lists.{rising-head, rising-tail}
use Rattle.chunk_reader.specs.declared.error.ChunkError.{ChunkError}
use Rattle.block_walk.specs.BlockFiles.Reading.{each_check}
use Rattle.block_walk.proofs.BlockFiles.Turns.{all_append}

-- the element at a place and those after it
pub from_place : {X : Type 0} (xs : List X) (i : ℕ) (x : X) → slice_get xs i ≡ Some x
    → drop i xs ≡ x ∷ drop (i + 1) xs
from_place xs i x h =
    let within = slice_get_within xs i x h in
    let next : suc i ≡ i + 1 = omega arith in
    drop-cons xs i x within
    ∙ ap (λ y. y ∷ drop (suc i) xs) (get_or_from_slice_get xs i x x h)
    ∙ ap (λ (n : ℕ). x ∷ drop n xs) next

pub take_next : {X : Type 0} (xs : List X) (i : ℕ) (x : X) → slice_get xs i ≡ Some x
    → take (i + 1) xs ≡ take i xs ++ x ∷ []
take_next xs i x h =
    (take_at_read xs i x (slice_get_within xs i x h)).1
    ∙ ap (λ y. take i xs ++ y ∷ []) (get_or_from_slice_get xs i x x h)

-- the first refusal of a check

pub each_next : {A : Type 0} (check : A → Result (Unit {0}) ChunkError) (xs : List A) (i : ℕ)
    (x : A) (whole : Result (Unit {0}) ChunkError) → slice_get xs i ≡ Some x → check x ≡ Ok tt
    → each_check check (drop i xs) ≡ whole → each_check check (drop (i + 1) xs) ≡ whole
unfolding each_check
each_next check xs i x whole h passes so_far =
    let one : each_check check (x ∷ drop (i + 1) xs) ≡ each_check check (drop (i + 1) xs) = rw passes refl in
    sym one ∙ sym (ap (each_check check) (from_place xs i x h)) ∙ so_far

pub each_stops : {A : Type 0} (check : A → Result (Unit {0}) ChunkError) (xs : List A) (i : ℕ)
    (x : A) (e : ChunkError) (whole : Result (Unit {0}) ChunkError) → slice_get xs i ≡ Some x
    → check x ≡ Err e
    → each_check check (drop i xs) ≡ whole → whole ≡ Err e
unfolding each_check
each_stops check xs i x e whole h fails so_far =
    let one : each_check check (x ∷ drop (i + 1) xs) ≡ Err e = rw fails refl in
    sym so_far ∙ ap (each_check check) (from_place xs i x h) ∙ one

pub each_ends : {A : Type 0} (check : A → Result (Unit {0}) ChunkError) (xs : List A) (n : ℕ)
    (whole : Result (Unit {0}) ChunkError) → length xs ≤ n → each_check check (drop n xs) ≡ whole
    → whole ≡ Ok tt
unfolding each_check
each_ends check xs n whole le so_far = sym so_far ∙ ap (each_check check) (drop_all n xs le)

-- a test of all

pub tests_next : {A : Type 0} (test : A → Bool) (xs : List A) (i : ℕ) (x : A) (whole : Bool)
    → slice_get xs i ≡ Some x → test x ≡ true → list_all test (drop i xs) ≡ whole
    → list_all test (drop (i + 1) xs) ≡ whole
tests_next test xs i x whole h passes so_far =
    let one : list_all test (x ∷ drop (i + 1) xs) ≡ list_all test (drop (i + 1) xs) =
    rw passes refl in
    sym one ∙ sym (ap (list_all test) (from_place xs i x h)) ∙ so_far

pub tests_stop : {A : Type 0} (test : A → Bool) (xs : List A) (i : ℕ) (x : A) (whole : Bool)
    → slice_get xs i ≡ Some x → test x ≡ false → list_all test (drop i xs) ≡ whole → whole ≡ false
tests_stop test xs i x whole h fails so_far =
    let one : list_all test (x ∷ drop (i + 1) xs) ≡ false = rw fails refl in
    sym so_far ∙ ap (list_all test) (from_place xs i x h) ∙ one

pub tests_end : {A : Type 0} (test : A → Bool) (xs : List A) (n : ℕ) (whole : Bool) → length xs ≤ n
    → list_all test (drop n xs) ≡ whole → whole ≡ true
tests_end test xs n whole le so_far = sym so_far ∙ ap (list_all test) (drop_all n xs le)

list_all_append : {A : Type 0} (test : A → Bool) (xs ys : List A)
    → list_all test (xs ++ ys) ≡ (list_all test xs && list_all test ys)
list_all_append test [] ys = refl
list_all_append test (x ∷ xs) ys =
    elim (test x)
    as (λ b. (b && list_all test (xs ++ ys)) ≡ ((b && list_all test xs) && list_all test ys))
    [ true ↦ list_all_append test xs ys | false ↦ refl ]

and_one : (a b : Bool) → (a && (b && true)) ≡ (a && b)
and_one true true = refl
and_one true false = refl
and_one false b = refl

pub all_next_test : {A : Type 0} (test : A → Bool) (xs : List A) (i : ℕ) (x : A)
    → slice_get xs i ≡ Some x
    → list_all test (take (i + 1) xs) ≡ (list_all test (take i xs) && test x)
all_next_test test xs i x h =
    ap (list_all test) (take_next xs i x h)
    ∙ list_all_append test (take i xs) (x ∷ [])
    ∙ and_one (list_all test (take i xs)) (test x)

pub take_whole : {A : Type 0} (xs : List A) (n : ℕ) → length xs ≤ n → take n xs ≡ xs
take_whole xs n le = take_all n xs le

-- a fact of all

pub facts_next : {A : Type 0} (P : A → Type 0) (xs : List A) (i : ℕ) (x : A)
    → slice_get xs i ≡ Some x → AllByRecursion P (take i xs) → P x
    → AllByRecursion P (take (i + 1) xs)
facts_next P xs i x h a p =
    subst (AllByRecursion P) (sym (take_next xs i x h))
    (all_append P (take i xs) (x ∷ []) a (p, tt))

pub facts_end : {A : Type 0} (P : A → Type 0) (xs : List A) (n : ℕ) → length xs ≤ n
    → AllByRecursion P (take n xs) → AllByRecursion P xs
facts_end P xs n le a = subst (AllByRecursion P) (take_whole xs n le) a

-- what lists hold together
pub length_next : {A B : Type 0} (f : A → List B) (xs : List A) (i : ℕ) (x : A)
    → slice_get xs i ≡ Some x
    → length (flat_map f (take (i + 1) xs)) ≡ length (flat_map f (take i xs)) + length (f x)
length_next f xs i x h =
    let whole = flat_map-append f (take i xs) (x ∷ []) in
    let e : length (flat_map f (take (i + 1) xs))
    ≡ length (flat_map f (take i xs) ++ flat_map f (x ∷ [])) =
    ap length (ap (flat_map f) (take_next xs i x h) ∙ whole) in
    omega
    (arith, e, length-append (flat_map f (take i xs)) (flat_map f (x ∷ [])), length-append (f x) [])

-- places in ascending references

contains_at : (xs : List ℕ) (j b : ℕ) → slice_get xs j ≡ Some b → Contains xs b
contains_at xs j b h = (j, slice_get_within xs j b h, get_or_from_slice_get xs j b b h)

pub strict : (xs : List ℕ) → IsStrictlyIncreasing xs → (i j a b : ℕ) → i < j
    → slice_get xs i ≡ Some a → slice_get xs j ≡ Some b → a < b
strict [] h i j a b lt g g' = absurd cc
strict (x ∷ xs) h i zero a b lt g g' = absurd (omega arith)
strict (x ∷ xs) h zero (suc j) a b lt g g' =
    let e : x ≡ a = cc in
    let l : x < b = rising-head x xs h b (contains_at xs j b g') in
    omega arith
strict (x ∷ xs) h (suc i) (suc j) a b lt g g' =
    strict xs (rising-tail x xs h) i j a b (omega arith) g g'
