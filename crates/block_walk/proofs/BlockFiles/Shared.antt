-- The checks of some series, and of two runs of series one behind the other.
use Rattle.std.proofs.Common.{◌≡◌, ℕ, ◌+◌, ◌<◌, ◌≤◌, Bool, true, false, ◌&&◌, List, [], ◌∷◌, ◌++◌}
use Rattle.std.proofs.Common.{length, take, drop, Some, Result, Ok, Err, refl, sym, ap, ◌∙◌, arith}
use Rattle.std.specs.Prelude.{slice_get}
use Rattle.std.specs.List.{AllByRecursion, list_all}
use Rattle.std.proofs.Math.Seq.{take-add}
use Rattle.std.proofs.lemmas.List.{length-take-le, length-drop, drop-drop, get_or-drop}
use Rattle.std.proofs.lemmas.List.{get_or-take, take_all}
use Rattle.std.proofs.lemmas.Option.{slice_get_read, get_or_from_slice_get}
use Rattle.wire.specs.Outcome.{◌>>=◌}
use Rattle.chunk_reader.specs.declared.error.ChunkError.{ChunkError}
use Rattle.block_walk.specs.declared.chunk.Chunk.{Chunk}
use Rattle.block_walk.specs.BlockFiles.Reading.{each_check, chunk_check, have_few}
use Rattle.block_walk.specs.BlockFiles.Shared.{AreLookedAt, stretch}
use Rattle.block_walk.specs.BlockFiles.Sound.{IsHeld}
use Rattle.block_walk.proofs.BlockFiles.Turns.{all_append}

-- ---- stretches of a list

pub stretch_length : {X : Type 0} (xs : List X) (from count : ℕ) → from + count ≤ length xs
    → length (stretch from count xs) ≡ count
stretch_length xs from count le =
    length-take-le count (drop from xs) (omega (arith, le, length-drop from xs))

pub stretch_at : {X : Type 0} (xs : List X) (from count k : ℕ) (x : X)
    → from + count ≤ length xs → k < count → slice_get xs (from + k) ≡ Some x
    → slice_get (stretch from count xs) k ≡ Some x
stretch_at xs from count k x le lt h =
    slice_get_read (stretch from count xs) count k x (sym (stretch_length xs from count le)) lt
    (sym (get_or-take count (drop from xs) k x lt ∙ get_or-drop from xs k x
    ∙ get_or_from_slice_get xs (from + k) x x h))

pub stretch_both : {X : Type 0} (xs : List X) (from low high up count : ℕ) → low + high ≡ count
    → from + low ≡ up → stretch from count xs ≡ stretch from low xs ++ stretch up high xs
stretch_both {X} xs from low high up count split at =
    let rest : drop low (drop from xs) ≡ drop up xs =
    drop-drop low from xs ∙ ap (λ (n : ℕ). drop n xs) at in
    ap (λ (n : ℕ). take n (drop from xs)) (sym split)
    ∙ take-add low high (drop from xs)
    ∙ ap (λ (r : List X). take low (drop from xs) ++ take high r) rest

pub stretch_all : {X : Type 0} (xs : List X) (n : ℕ) → n ≡ length xs → stretch 0 n xs ≡ xs
stretch_all xs n e = take_all n xs (omega (arith, e))

-- ---- two runs of checks

then_next : (r rest all whole : Result (Unit {0}) ChunkError) → (r >>= λ _. rest) ≡ Ok tt
    → (rest ≡ Ok tt → all ≡ whole) → (r >>= λ _. all) ≡ whole
then_next (Ok x) rest all whole p h = h p
then_next (Err x) rest all whole p h = absurd cc

then_fails : (r rest all : Result (Unit {0}) ChunkError) (e : ChunkError)
    → (r >>= λ _. rest) ≡ Err e → (rest ≡ Err e → all ≡ Err e)
    → (r >>= λ _. all) ≡ Err e
then_fails (Ok x) rest all e p h = h p
then_fails (Err x) rest all e p h = p

each_append : {A : Type 0} (check : A → Result (Unit {0}) ChunkError) (xs ys : List A)
    → each_check check xs ≡ Ok tt → each_check check (xs ++ ys) ≡ each_check check ys
unfolding each_check
each_append check [] ys p = refl
each_append check (x ∷ xs) ys p =
    then_next (check x) (each_check check xs) (each_check check (xs ++ ys)) (each_check check ys) p
    (λ q. each_append check xs ys q)

each_front : {A : Type 0} (check : A → Result (Unit {0}) ChunkError) (xs ys : List A)
    (e : ChunkError) → each_check check xs ≡ Err e → each_check check (xs ++ ys) ≡ Err e
unfolding each_check
each_front check [] ys e p = absurd cc
each_front check (x ∷ xs) ys e p =
    then_fails (check x) (each_check check xs) (each_check check (xs ++ ys)) e p (λ q.
    each_front check xs ys e q)

list_all_append : {A : Type 0} (test : A → Bool) (xs ys : List A)
    → list_all test (xs ++ ys) ≡ (list_all test xs && list_all test ys)
list_all_append test [] ys = refl
list_all_append test (x ∷ xs) ys =
    elim (test x)
    as (λ b. (b && list_all test (xs ++ ys)) ≡ ((b && list_all test xs) && list_all test ys))
    [ true ↦ list_all_append test xs ys | false ↦ refl ]

-- the first run has a refusal
pub looked_front : (file : List ℕ) (xs ys : List (List Chunk)) (e : ChunkError)
    → AreLookedAt file xs (Err e) → AreLookedAt file (xs ++ ys) (Err e)
looked_front file xs ys e x = record {
  exact = each_front (each_check (chunk_check file)) xs ys e x.exact;
  few = tt;
  held = tt;
}

-- the second run has the first refusal
pub looked_back : (file : List ℕ) (xs ys : List (List Chunk)) (a : Bool) (e : ChunkError)
    → AreLookedAt file xs (Ok a) → AreLookedAt file ys (Err e)
    → AreLookedAt file (xs ++ ys) (Err e)
looked_back file xs ys a e x y = record {
  exact = each_append (each_check (chunk_check file)) xs ys x.exact ∙ y.exact;
  few = tt;
  held = tt;
}

-- neither has one
pub looked_both : (file : List ℕ) (xs ys : List (List Chunk)) (a b : Bool)
    → AreLookedAt file xs (Ok a) → AreLookedAt file ys (Ok b)
    → AreLookedAt file (xs ++ ys) (Ok (a && b))
looked_both file xs ys a b x y = record {
  exact = each_append (each_check (chunk_check file)) xs ys x.exact ∙ y.exact;
  few =
      ap (λ (t : Bool). t && b) x.few
      ∙ ap (λ (t : Bool). list_all (have_few file) xs && t) y.few
      ∙ sym (list_all_append (have_few file) xs ys);
  held = all_append (AllByRecursion (IsHeld file)) xs ys x.held y.held;
}
