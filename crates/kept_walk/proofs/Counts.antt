-- Counting the samples of runs, as a loop does.
use Rattle.std.proofs.Common.{◌≡◌, ℕ, suc, ◌+◌, ◌-◌, ◌<◌, ◌≤◌, Bool, true, false, List, ◌∷◌, length}
use Rattle.std.proofs.Common.{drop, get_or, refl, sym, ap, ◌∙◌, arith}
use Rattle.std.specs.Prelude.{nat_le}
use Rattle.std.proofs.Math.Seq.{drop-cons}
use Rattle.std.proofs.lemmas.Bool.{le-leb, false_from_ne_true}
use Rattle.std.proofs.lemmas.Bool.Decides.{nat_tests}
use Rattle.std.proofs.lemmas.List.{drop_all}
use Rattle.labels.specs.Rows.{Row}
use Rattle.kept_walk.specs.Contents.{sample_count}

-- a loop over runs that may have so many samples more
abbrev pub IsCounting : List Row → ℕ → ℕ → Type 0
IsCounting runs i left =
    nat_le (sample_count (drop i runs)) left ≡ nat_le (sample_count runs) 4096

same_tests : (p q : Bool) → (p ≡ true → q ≡ true) → (q ≡ true → p ≡ true) → p ≡ q
same_tests true q to from = sym (to refl)
same_tests false true to from = from refl
same_tests false false to from = refl

is_le : (a b : ℕ) → nat_le a b ≡ true → a ≤ b
is_le a b h = grind (arith, nat_tests)

less_left : (a rest left : ℕ) → a ≤ left → nat_le (a + rest) left ≡ nat_le rest (left - a)
less_left a rest left le =
    same_tests (nat_le (a + rest) left) (nat_le rest (left - a))
    (λ t. let n = is_le (a + rest) left t in le-leb rest (left - a) (omega (arith, n, le)))
    (λ t. let n = is_le rest (left - a) t in le-leb (a + rest) left (omega (arith, n, le)))

too_many : (a rest left : ℕ) → left < a → nat_le (a + rest) left ≡ false
too_many a rest left lt =
    false_from_ne_true (nat_le (a + rest) left)
    (λ t. let n = is_le (a + rest) left t in absurd (omega (arith, n, lt)))

module _ (runs : List Row) (i left count : ℕ) (row : Row) (lt : i < length runs)
    (is : row ≡ get_or runs i row) (counted : count ≡ length row.1)
    (so_far : IsCounting runs i left) where
  next : sample_count (drop i runs) ≡ count + sample_count (drop (i + 1) runs)
  next =
      let k : suc i ≡ i + 1 = omega arith in
      ap sample_count (drop-cons runs i row lt ∙ ap (λ (r : Row). r ∷ drop (suc i) runs) (sym is)
      ∙ ap (λ (n : ℕ). row ∷ drop n runs) k)
      ∙ ap (λ (n : ℕ). n + sample_count (drop (i + 1) runs)) (sym counted)

  pub counts_on : count ≤ left → IsCounting runs (i + 1) (left - count)
  counts_on le =
      sym (less_left count (sample_count (drop (i + 1) runs)) left le)
      ∙ (ap (λ (n : ℕ). nat_le n left) (sym next) ∙ so_far)

  pub counts_out : left < count → false ≡ nat_le (sample_count runs) 4096
  counts_out more =
      sym (ap (λ (n : ℕ). nat_le n left) next
      ∙ too_many count (sample_count (drop (i + 1) runs)) left more)
      ∙ so_far

pub counts_end : (runs : List Row) (i left : ℕ) → length runs ≤ i → IsCounting runs i left
    → true ≡ nat_le (sample_count runs) 4096
counts_end runs i left le so_far =
    let none : nat_le 0 left ≡ true = le-leb 0 left (omega arith) in
    sym (ap (λ (rs : List Row). nat_le (sample_count rs) left) (drop_all i runs le) ∙ none) ∙ so_far
