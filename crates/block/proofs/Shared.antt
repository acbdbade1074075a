-- The checks of some series, and of two runs of series one behind the other.
use Rattle.std.proofs.Common.{◌≡◌, ℕ, ◌+◌, ◌<◌, ◌≤◌, Bool, true, false, ◌&&◌, List, [], ◌∷◌, ◌++◌}
use Rattle.std.proofs.Common.{length, take, drop, Some, Result, Ok, Err, refl, sym, ap, ◌∙◌, arith}
use Rattle.std.specs.Prelude.{slice_get}
use Rattle.std.specs.List.{AllByRecursion, list_all}
use Rattle.std.proofs.Math.Seq.{take-add}
use Rattle.std.proofs.lemmas.List.{length-map, length-take-le, length-drop, drop-drop, get_or-drop}
use Rattle.std.proofs.lemmas.List.{get_or-take, take_all}
use Rattle.std.proofs.lemmas.Option.{slice_get_read, get_or_from_slice_get}
use Rattle.index_reader.specs.declared.chunk.Chunk.{Chunk}
use Rattle.index_reader.specs.Indexes.{Series, chunk_lists}
use Rattle.wire.specs.Outcome.{◌>>=◌}
use Rattle.chunk_reader.specs.declared.error.ChunkError.{ChunkError}
use Rattle.block.specs.Opening.{each, chunk_check, have_few}
use Rattle.block.specs.Shared.{IsLookedAt, lists_between}
use Rattle.block.specs.Sound.{IsReadChunk}
use Rattle.block.proofs.Turns.{all_append}

pub between_length : (series : List Series) (from count : ℕ) → from + count ≤ length series
    → length (lists_between series from count) ≡ count
between_length series from count le =
    let all = length-map series (λ (s : Series). s.chunks) in
    let rest = length-drop from (chunk_lists series) in
    length-take-le count (drop from (chunk_lists series)) (omega (arith, le, all, rest))

pub between_at : (series : List Series) (from count k : ℕ) (x : List Chunk)
    → from + count ≤ length series → k < count →
    slice_get (chunk_lists series) (from + k) ≡ Some x
    → slice_get (lists_between series from count) k ≡ Some x
between_at series from count k x le lt h =
    let lists = chunk_lists series in
    let whole = get_or_from_slice_get lists (from + k) x x h in
    slice_get_read (lists_between series from count) count k x
    (sym (between_length series from count le)) lt
    (sym (get_or-take count (drop from lists) k x lt ∙ get_or-drop from lists k x ∙ whole))

pub between_both : (series : List Series) (from low high up count : ℕ)
    → low + high ≡ count → from + low ≡ up →
    lists_between series from count ≡ lists_between series from low ++ lists_between series up high
between_both series from low high up count split at =
    let rest : drop low (drop from (chunk_lists series)) ≡ drop up (chunk_lists series) =
    drop-drop low from (chunk_lists series) ∙ ap (λ (n : ℕ). drop n (chunk_lists series)) at in
    ap (λ (n : ℕ). take n (drop from (chunk_lists series))) (sym split)
    ∙ take-add low high (drop from (chunk_lists series))
    ∙ ap (λ r. take low (drop from (chunk_lists series)) ++ take high r) rest

pub between_all : (series : List Series)
    → lists_between series 0 (length series) ≡ chunk_lists series
between_all series =
    take_all (length series) (chunk_lists series)
    (omega (arith, length-map series (λ (s : Series). s.chunks)))

then_next : (r rest all whole : Result (Unit {0}) ChunkError) → (r >>= λ _. rest) ≡ Ok tt
    → (rest ≡ Ok tt → all ≡ whole) → (r >>= λ _. all) ≡ whole
then_next (Ok x) rest all whole p h = h p
then_next (Err x) rest all whole p h = absurd cc

then_fails : (r rest all : Result (Unit {0}) ChunkError) (e : ChunkError)
    → (r >>= λ _. rest) ≡ Err e → (rest ≡ Err e → all ≡ Err e)
    → (r >>= λ _. all) ≡ Err e
then_fails (Ok x) rest all e p h = h p
then_fails (Err x) rest all e p h = p

each_append : {A : Type 0} (check : A → Result (Unit {0}) ChunkError) (xs ys : List A)
    → each check xs ≡ Ok tt → each check (xs ++ ys) ≡ each check ys
unfolding each
each_append check [] ys p = refl
each_append check (x ∷ xs) ys p =
    then_next (check x) (each check xs) (each check (xs ++ ys)) (each check ys) p (λ q.
    each_append check xs ys q)

each_front : {A : Type 0} (check : A → Result (Unit {0}) ChunkError) (xs ys : List A)
    (e : ChunkError) → each check xs ≡ Err e → each check (xs ++ ys) ≡ Err e
unfolding each
each_front check [] ys e p = absurd cc
each_front check (x ∷ xs) ys e p =
    then_fails (check x) (each check xs) (each check (xs ++ ys)) e p (λ q.
    each_front check xs ys e q)

list_all_append : {A : Type 0} (test : A → Bool) (xs ys : List A)
    → list_all test (xs ++ ys) ≡ (list_all test xs && list_all test ys)
list_all_append test [] ys = refl
list_all_append test (x ∷ xs) ys =
    elim (test x)
    as (λ b. (b && list_all test (xs ++ ys)) ≡ ((b && list_all test xs) && list_all test ys))
    [ true ↦ list_all_append test xs ys | false ↦ refl ]

-- the first run has a refusal
pub looked_front : (file : List ℕ) (xs ys : List (List Chunk)) (e : ChunkError)
    → IsLookedAt file xs (Err e) → IsLookedAt file (xs ++ ys) (Err e)
looked_front file xs ys e x =
    record { exact = each_front (each (chunk_check file)) xs ys e x.exact; few = tt; held = tt }

-- the second run has the first refusal
pub looked_back : (file : List ℕ) (xs ys : List (List Chunk)) (a : Bool) (e : ChunkError)
    → IsLookedAt file xs (Ok a) → IsLookedAt file ys (Err e) → IsLookedAt file (xs ++ ys) (Err e)
looked_back file xs ys a e x y = record {
  exact = each_append (each (chunk_check file)) xs ys x.exact ∙ y.exact;
  few = tt;
  held = tt;
}

-- neither has one
pub looked_both : (file : List ℕ) (xs ys : List (List Chunk)) (a b : Bool)
    → IsLookedAt file xs (Ok a) → IsLookedAt file ys (Ok b)
    → IsLookedAt file (xs ++ ys) (Ok (a && b))
looked_both file xs ys a b x y = record {
  exact = each_append (each (chunk_check file)) xs ys x.exact ∙ y.exact;
  few =
      ap (λ (t : Bool). t && b) x.few
      ∙ ap (λ (t : Bool). list_all (have_few file) xs && t) y.few
      ∙ sym (list_all_append (have_few file) xs ys);
  held = all_append (AllByRecursion (IsReadChunk file)) xs ys x.held y.held;
}
