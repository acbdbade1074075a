-- The order of the pairs and of the label sets, from each to the next.
use Rattle.std.proofs.Common.{◌≡◌, ℕ, zero, suc, ◌+◌, ◌<◌, List, [], ◌∷◌, length, get_or, refl}
use Rattle.std.proofs.Common.{arith}
use Rattle.std.specs.Prelude.{T, map}
use Rattle.std.specs.List.Sorted.{IsStrictlySortedBy}
use Rattle.std.specs.Ordering.{is_lt}
use Rattle.std.specs.declared.cmp.Ordering.{Ordering}
use Rattle.std.specs.declared.cmp.Ordering.TheVariants.{Less, Equal, Greater}
use Rattle.std.specs.FinMap.Entries.{is_sorted, below_all}
use Rattle.std.proofs.lemmas.Map.Keys.{Less-from_sorted}
use Rattle.labels.proofs.Times.{first_T, second_T}
use Rattle.labels.specs.Labels.{labels_cmp}
use Rattle.labels.specs.Rows.{Row}

pub each_below_next : {X : Type 0} (cmp : X → X → Ordering) (xs : List X) (d : X) (k : ℕ)
    → IsStrictlySortedBy cmp xs → k + 1 < length xs
    → cmp (get_or xs k d) (get_or xs (k + 1) d) ≡ Less
each_below_next cmp xs d k up lt = Less-from_sorted cmp xs k (k + 1) d up (omega arith) lt

less_from : (o : Ordering) → T (is_lt o) → o ≡ Less
less_from Less h = refl
less_from Equal h = absurd h
less_from Greater h = absurd h

sets_at : (rows : List Row) (k : ℕ) → T (is_sorted labels_cmp rows) → suc k < length rows
    → labels_cmp (get_or (map (λ (row : Row). row.0) rows) k [])
    (get_or (map (λ (row : Row). row.0) rows) (suc k) []) ≡ Less
sets_at [] k up lt = absurd (omega (arith, lt))
sets_at (r ∷ []) k up lt = absurd (omega (arith, lt))
sets_at (r ∷ s ∷ rows) zero up lt =
    less_from (labels_cmp r.0 s.0) (first_T (is_lt (labels_cmp r.0 s.0)) (below_all labels_cmp r.0
    rows) (first_T (below_all labels_cmp r.0 (s ∷ rows)) (is_sorted labels_cmp (s ∷ rows)) up))
sets_at (r ∷ s ∷ rows) (suc k) up lt =
    sets_at (s ∷ rows) k (second_T (below_all labels_cmp r.0 (s ∷ rows))
    (is_sorted labels_cmp (s ∷ rows)) up) (omega (arith, lt))

pub sets_rise : (rows : List Row) (k : ℕ) → T (is_sorted labels_cmp rows) → k + 1 < length rows
    → labels_cmp (get_or (map (λ (row : Row). row.0) rows) k [])
    (get_or (map (λ (row : Row). row.0) rows) (k + 1) []) ≡ Less
sets_rise rows k up lt =
    let e : k + 1 ≡ suc k = omega arith in rw e (sets_at rows k up (omega (arith, lt)))
