-- What is asked of a store as rows is a batch of them.
use Rattle.std.proofs.Common.{◌≡◌, ◌≤◌, ◌∙◌, ◌&&◌, ℕ, ℤ, Bool, true, List, [], ◌∷◌, ◌++◌, length}
use Rattle.std.proofs.Common.{map, refl, ap, subst, arith}
use Rattle.std.specs.Prelude.{IsTrue, nat_le}
use Rattle.std.proofs.lemmas.Bool.Decides.{nat_tests}
use Rattle.labels.specs.Labels.{Labels}
use Rattle.labels.specs.Rows.{Row}
use Rattle.head.specs.Batches.{is_batch}
use Rattle.head.specs.BatchRows.{batch_of_rows}
use Rattle.requests.specs.Fitting.{are_timed}
use Rattle.requests.specs.Rows.{batch_of}

-- rows spell one batch, in requests and at a head
one_batch : (rows : List Row) → batch_of rows ≡ batch_of_rows rows
one_batch [] = refl
one_batch (row ∷ rows) =
    ap (λ (xs : List (Labels × (ℤ × ℤ))). map (λ (s : ℤ × ℤ). (row.0, s)) row.1 ++ xs)
    (one_batch rows)

few_is : (n : ℕ) → n ≤ 4096 → nat_le n 4096 ≡ true
few_is n h = grind (arith, nat_tests)

both_true : (a b : Bool) → a ≡ true → b ≡ true → IsTrue (a && b)
both_true a b p q = ap (λ c. c && b) p ∙ q

pub rows_are_batch : (rows : List Row) → length (batch_of rows) ≤ 4096
    → are_timed (batch_of rows) ≡ true → IsTrue (is_batch (batch_of_rows rows))
rows_are_batch rows few timed =
    subst (λ (xs : List (Labels × (ℤ × ℤ))). IsTrue (is_batch xs)) (one_batch rows)
    (both_true (nat_le (length (batch_of rows)) 4096) (are_timed (batch_of rows))
    (few_is (length (batch_of rows)) few) timed)
