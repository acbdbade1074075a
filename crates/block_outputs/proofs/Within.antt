-- Rows that a block of a range may have.
use Rattle.std.specs.Prelude.{◌≡◌, ℕ, ◌≤◌, ℤ, Bool, true, ◌&&◌, nat_le, List, [], ◌∷◌, length}
use Rattle.std.specs.List.{list_all, AllByRecursion}
use Rattle.std.proofs.Common.{arith}
use Rattle.std.proofs.lemmas.Bool.{and_parts}
use Rattle.std.proofs.lemmas.Bool.Decides.{nat_tests}
use Rattle.labels.specs.Rows.{Row}
use Rattle.block.specs.Ranges.{covers}
use Rattle.block_writer.specs.SpellRows.{IsWithin, AreWithin}
use Rattle.block_outputs.specs.Writing.{are_inside, is_within, are_within}

all_true : {X : Type 0} (p : X → Bool) (P : X → Type 0) (f : (x : X) → p x ≡ true → P x)
    (xs : List X) → list_all p xs ≡ true → AllByRecursion P xs
all_true p P f [] e = tt
all_true p P f (x ∷ xs) e =
    let both = and_parts (p x) (list_all p xs) e in (f x both.0, all_true p P f xs both.1)

few_when : (n : ℕ) → nat_le n 1048576 ≡ true → n ≤ 1048576
few_when n h = grind (arith, nat_tests)

row_within : (range : ℤ × ℤ) (row : Row) → is_within range row ≡ true → IsWithin range row
row_within range row e =
    let both = and_parts (nat_le (length row.1) 1048576) (are_inside range row.1) e in
    record {
      few = few_when (length row.1) both.0;
      inside = all_true (λ (s : ℤ × ℤ). covers range s.0) (λ (s : ℤ × ℤ). covers range s.0 ≡ true)
          (λ s h. h) row.1 both.1;
    }

-- rows that are found to be within a range
pub rows_within : (range : ℤ × ℤ) (rows : List Row) → are_within range rows ≡ true
    → AreWithin range rows
rows_within range rows e =
    let both = and_parts (nat_le (length rows) 1048576) (list_all (is_within range) rows) e in
    record {
      few = few_when (length rows) both.0;
      each = all_true (is_within range) (IsWithin range) (row_within range) rows both.1;
    }
