-- Samples of chunks that follow one another are in the order of their times.
use Rattle.std.proofs.Common.{◌≡◌, suc, ◌-◌, ◌<◌, Bool, true, false, List, [], ◌∷◌, ◌++◌, length}
use Rattle.std.proofs.Common.{cond, refl, sym, ap, ◌∙◌, arith}
use Rattle.std.specs.Prelude.{ℤ, int_lt, int_le, T}
use Rattle.std.specs.Int.Signed.{◌<ℤ◌, ◌≤ℤ◌, lt_z_yes}
use Rattle.std.specs.List.{AllByRecursion, filter}
use Rattle.std.specs.declared.cmp.Ordering.{Ordering}
use Rattle.std.specs.declared.cmp.Ordering.TheVariants.{Less, Equal, Greater}
use Rattle.std.specs.Ordering.{int_cmp, is_lt}
use Rattle.std.specs.FinMap.Entries.{is_sorted, below_all}
use Rattle.std.proofs.lemmas.Int.{ints}
use Rattle.labels.proofs.Times.{both_T, first_T, second_T, T_of, less_of, lt_of}
use Rattle.chunk_reader.specs.Grammar.{time_at}
use Rattle.index_reader.specs.declared.chunk.Chunk.{Chunk}
use Rattle.block.specs.Samples.{Source, samples_in}
use Rattle.block.specs.Sound.{IsHeldChunk, AreBehind, AreInTurn}

pub weaker : {X : Type 0} (P Q : X → Type 0) → ((x : X) → P x → Q x) → (xs : List X)
    → AllByRecursion P xs → AllByRecursion Q xs
weaker P Q h [] a = tt
weaker P Q h (x ∷ xs) a = (h x a.0, weaker P Q h xs a.1)

pub all_append : {X : Type 0} (P : X → Type 0) (xs ys : List X) → AllByRecursion P xs
    → AllByRecursion P ys → AllByRecursion P (xs ++ ys)
all_append P [] ys a b = b
all_append P (x ∷ xs) ys a b = (a.0, all_append P xs ys a.1 b)

pub all_filter : {X : Type 0} (P : X → Type 0) (p : X → Bool) (xs : List X) → AllByRecursion P xs
    → AllByRecursion P (filter p xs)
all_filter P p [] a = tt
all_filter P p (x ∷ xs) a =
    elim (p x) as (λ b. AllByRecursion P (cond b (x ∷ filter p xs) (filter p xs)))
    [ true ↦ (a.0, all_filter P p xs a.1) | false ↦ all_filter P p xs a.1 ]

pub true_from : (b : Bool) → T b → b ≡ true
true_from true h = refl
true_from false h = absurd h

pub is_below : (a b : ℤ) → a <ℤ b → int_lt a b ≡ true
is_below a b h = true_from _ h.lt

pub is_upto : (a b : ℤ) → a ≤ℤ b → int_le a b ≡ true
is_upto a b h = true_from _ h.le

pub below : (a b : ℤ) → int_lt a b ≡ true → a <ℤ b
below a b h = lt_z_yes (T_of _ h)

pub upto : (a b : ℤ) → int_le a b ≡ true → a ≤ℤ b
upto a b h = record { le = T_of _ h }

less_T : (a b : ℤ) → a <ℤ b → T (is_lt (int_cmp a b))
less_T a b lt = T_of _ (ap is_lt (less_of a b (is_below a b lt)))

less : (o : Ordering) → T (is_lt o) → o ≡ Less
less Less p = refl
less Equal p = absurd p
less Greater p = absurd p

T_less : (a b : ℤ) → T (is_lt (int_cmp a b)) → a <ℤ b
T_less a b h = below a b (lt_of a b (less _ h))

later_each : (t : ℤ) (ss : List (ℤ × ℤ)) → T (below_all int_cmp t ss)
    → AllByRecursion (λ (s : ℤ × ℤ). t <ℤ s.0) ss
later_each t [] h = tt
later_each t (s ∷ ss) h = (T_less t s.0 (first_T _ _ h), later_each t ss (second_T _ _ h))

below_each : (t : ℤ) (ss : List (ℤ × ℤ)) → AllByRecursion (λ (s : ℤ × ℤ). t <ℤ s.0) ss
    → T (below_all int_cmp t ss)
below_each t [] a = tt
below_each t (s ∷ ss) a = both_T _ _ (less_T t s.0 a.0) (below_each t ss a.1)

-- two lists in order, where a time lies between them
sorted_append : (t : ℤ) (xs ys : List (ℤ × ℤ)) → T (is_sorted int_cmp xs) → T (is_sorted int_cmp ys)
    → AllByRecursion (λ (s : ℤ × ℤ). s.0 ≤ℤ t) xs → AllByRecursion (λ (s : ℤ × ℤ). t <ℤ s.0) ys
    → T (is_sorted int_cmp (xs ++ ys))
sorted_append t [] ys a b low high = b
sorted_append t (x ∷ xs) ys a b low high =
    let first : x.0 ≤ℤ t = low.0 in
    let front = later_each x.0 xs (first_T _ _ a) in
    let back =
    weaker (λ (s : ℤ × ℤ). t <ℤ s.0) (λ (s : ℤ × ℤ). x.0 <ℤ s.0)
    (λ s h. let lt : t <ℤ s.0 = h in omega (arith, ints)) ys high in
    both_T _ _ (below_each x.0 (xs ++ ys) (all_append (λ (s : ℤ × ℤ). x.0 <ℤ s.0) xs ys front back))
    (sorted_append t xs ys (second_T _ _ a) b low.1 high)

first_upto : (a b t : ℤ) → a <ℤ b → b ≤ℤ t → a ≤ℤ t
first_upto a b t lt le = omega (arith, ints)

-- no time of a list in order is above the last
upto_last : (s : ℤ × ℤ) (ss : List (ℤ × ℤ)) (t : ℤ) → T (is_sorted int_cmp (s ∷ ss))
    → time_at (s ∷ ss) (length (s ∷ ss) - 1) ≡ t → AllByRecursion (λ (x : ℤ × ℤ). x.0 ≤ℤ t) (s ∷ ss)
upto_last s [] t sorted last = let e : s.0 ≡ t = last in (omega (arith, ints), tt)
upto_last s (x ∷ ss) t sorted last =
    let n : length (s ∷ x ∷ ss) - 1 ≡ suc (length (x ∷ ss) - 1) = omega arith in
    let e : time_at (x ∷ ss) (length (x ∷ ss) - 1) ≡ t = sym (ap (time_at (s ∷ x ∷ ss)) n) ∙ last in
    let rest : AllByRecursion (λ (x : ℤ × ℤ). x.0 ≤ℤ t) (x ∷ ss) =
    upto_last x ss t (second_T _ _ sorted) e in
    (first_upto s.0 x.0 t (T_less s.0 x.0 (first_T _ _ (first_T _ _ sorted))) rest.0, rest)

-- what the samples of a chunk are to its times
pub record IsSpan (mint maxt : ℤ) (ss : List (ℤ × ℤ)) : Type 0 where
  pub sorted : T (is_sorted int_cmp ss)
  pub begin : AllByRecursion (λ (s : ℤ × ℤ). mint ≤ℤ s.0) ss
  pub end : AllByRecursion (λ (s : ℤ × ℤ). s.0 ≤ℤ maxt) ss

spans : (mint maxt : ℤ) (ss : List (ℤ × ℤ)) → 0 < length ss → T (is_sorted int_cmp ss)
    → time_at ss 0 ≡ mint → time_at ss (length ss - 1) ≡ maxt → IsSpan mint maxt ss
spans mint maxt [] some sorted first last = absurd (omega arith)
spans mint maxt (s ∷ ss) some sorted first last =
    let e : s.0 ≡ mint = first in
    record {
      sorted = sorted;
      begin = (
        let le : mint ≤ℤ s.0 = omega (arith, ints) in le,
        weaker (λ (x : ℤ × ℤ). s.0 <ℤ x.0) (λ (x : ℤ × ℤ). mint ≤ℤ x.0)
            (λ x h. let lt : s.0 <ℤ x.0 = h in omega (arith, ints)) ss
            (later_each s.0 ss (first_T _ _ sorted)),
      );
      end = upto_last s ss maxt sorted last;
    }

pub span_of : (source : Source) (c : Chunk) → IsHeldChunk source c → IsSpan c.mint c.maxt (source c)
span_of source c x =
    spans c.mint c.maxt (source c) x.batch.some x.batch.ascending x.first x.last

-- chunks behind another
pub record IsRun (before : ℤ) (ss : List (ℤ × ℤ)) : Type 0 where
  pub sorted : T (is_sorted int_cmp ss)
  pub later : AllByRecursion (λ (s : ℤ × ℤ). before <ℤ s.0) ss

pub run_of : (source : Source) (before : Chunk) (cs : List Chunk) → AreBehind before cs
    → AllByRecursion (IsHeldChunk source) cs → IsRun before.maxt (samples_in source cs)
run_of source before [] turn held = record { sorted = tt; later = tt }
run_of source before (c ∷ cs) turn held =
    let rest = run_of source c cs turn.2 held.1 in
    let span = span_of source c held.0 in
    let gap : before.maxt <ℤ c.mint = turn.0 in
    let order : c.mint ≤ℤ c.maxt = turn.1 in
    record {
      sorted =
          sorted_append c.maxt (source c) (samples_in source cs) span.sorted rest.sorted
          span.end rest.later;
      later =
          all_append (λ (s : ℤ × ℤ). before.maxt <ℤ s.0) (source c) (samples_in source cs)
          (weaker (λ (s : ℤ × ℤ). c.mint ≤ℤ s.0) (λ (s : ℤ × ℤ). before.maxt <ℤ s.0) (λ s h.
          let le : c.mint ≤ℤ s.0 = h in omega (arith, ints)) (source c) span.begin)
          (weaker (λ (s : ℤ × ℤ). c.maxt <ℤ s.0) (λ (s : ℤ × ℤ). before.maxt <ℤ s.0) (λ s h.
          let lt : c.maxt <ℤ s.0 = h in omega (arith, ints)) (samples_in source cs) rest.later);
    }

-- the samples of a series
pub sorted_in : (source : Source) (cs : List Chunk) → AreInTurn cs → AllByRecursion (IsHeldChunk source) cs
    → T (is_sorted int_cmp (samples_in source cs))
sorted_in source [] turn held = tt
sorted_in source (c ∷ cs) turn held =
    let rest = run_of source c cs turn.1 held.1 in
    let span = span_of source c held.0 in
    sorted_append c.maxt (source c) (samples_in source cs) span.sorted
    rest.sorted span.end rest.later
