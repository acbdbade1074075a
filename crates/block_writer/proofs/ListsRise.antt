-- The references that a pair lists ascend.
use Rattle.std.proofs.Common.{ℕ, true, false, List, [], ◌∷◌}
use Rattle.std.specs.List.{AllByRecursion}
use Rattle.std.specs.List.Sorted.{IsStrictlySortedBy, IsStrictlyIncreasing}
use Rattle.std.specs.Ordering.{nat_cmp}
use Rattle.std.specs.declared.cmp.Ordering.TheVariants.{Less}
use Rattle.std.specs.Prelude.{◌≡◌, if◌then◌else◌}
use Rattle.std.proofs.lemmas.Map.Keys.{IsStrictlyIncreasing-from_sorted}
use Rattle.std.proofs.lemmas.Map.Keys.{sorted_from_strictly_increasing}
use Rattle.labels.specs.Parts.{carries}
use Rattle.labels.specs.Rows.{Row}
use Rattle.block_writer.specs.IndexText.{carriers, lists_of}

kept_all : (P : ℕ → Type 0) (name value : List ℕ) (rows : List Row) (refs : List ℕ)
    → AllByRecursion P refs → AllByRecursion P (carriers name value rows refs)
unfolding carriers
kept_all P name value [] refs h = tt
kept_all P name value (row ∷ rows) [] h = tt
kept_all P name value (row ∷ rows) (r ∷ refs) h =
    let others = kept_all P name value rows refs h.1 in
    elim (carries name value row.0)
    as (λ b. AllByRecursion P (if b then r ∷ carriers name value rows refs
    else carriers name value rows refs)) [ true ↦ (h.0, others) | false ↦ others ]

kept_sorted : (name value : List ℕ) (rows : List Row) (refs : List ℕ)
    → IsStrictlySortedBy nat_cmp refs → IsStrictlySortedBy nat_cmp (carriers name value rows refs)
unfolding carriers IsStrictlySortedBy
kept_sorted name value [] refs h = tt
kept_sorted name value (row ∷ rows) [] h = tt
kept_sorted name value (row ∷ rows) (r ∷ refs) h =
    let others = kept_sorted name value rows refs h.1 in
    elim (carries name value row.0) as (λ b. IsStrictlySortedBy nat_cmp (if b
    then r ∷ carriers name value rows refs else carriers name value rows refs)) [
      | true ↦ (kept_all (λ y. nat_cmp r y ≡ Less) name value rows refs h.0, others)
      | false ↦ others
    ]

pub lists_rise : (pairs : List (List ℕ × List ℕ)) (rows : List Row) (refs : List ℕ)
    → IsStrictlyIncreasing refs → AllByRecursion IsStrictlyIncreasing (lists_of pairs rows refs)
lists_rise [] rows refs up = tt
lists_rise (p ∷ pairs) rows refs up = (
  IsStrictlyIncreasing-from_sorted (carriers p.0 p.1 rows refs)
      (kept_sorted p.0 p.1 rows refs (sorted_from_strictly_increasing refs up)),
  lists_rise pairs rows refs up,
)
