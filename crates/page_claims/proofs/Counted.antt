-- Counts of pieces of lists.
use Rattle.std.proofs.Common.{◌≡◌, ℕ, ◌+◌, List, [], ◌∷◌, ◌++◌, sym, zero-add, add_assoc, ap, ◌∙◌}
use Rattle.std.specs.Prelude.{◌==◌, if◌then◌else◌}
use Rattle.cover.specs.declared.certificate.Interval.{Interval}
use Rattle.page_claims.specs.Counting.{slot_of, count_in}

pub count_append : (slot : ℕ) (xs ys : List Interval)
    → count_in slot (xs ++ ys) ≡ count_in slot xs + count_in slot ys
count_append slot [] ys = sym (zero-add (count_in slot ys))
count_append slot (x ∷ xs) ys =
    let one : ℕ = if slot_of x.verdict == slot then 1 else 0 in
    ap (λ n. one + n) (count_append slot xs ys)
    ∙ sym (add_assoc one (count_in slot xs) (count_in slot ys))
