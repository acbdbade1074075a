-- Series below a bound, and the others.
use Rattle.std.proofs.Common.{◌≡◌, ℕ, ◌<◌, ◌≤◌, Bool, true, false, cond, inl, inr, [], ◌∷◌, length, take, drop, refl, sym, ◌∙◌, ap, subst, arith}
use Rattle.std.specs.Prelude.{nat_le, nat_lt, ◌&&◌}
use Rattle.std.specs.List.{filter, take_while, Contains}
use Rattle.std.specs.List.Sorted.{IsStrictlyIncreasing}
use Rattle.std.proofs.lemmas.Bool.Decides.{nat_tests}
use Rattle.std.proofs.lemmas.List.Sums.{take_while-cons}
use Rattle.labels.specs.Rows.{Row}
use Rattle.labels.specs.Parts.{Part, references}
use Rattle.labels.proofs.Lists.{Contains-cases, rising-tail, rising-head, rising-filter, filter-none, filter-all, filter-same, filter-filter, below_or_not}
use Rattle.cover.proofs.Runs.{map-has, of_map}
use Rattle.auditor.specs.Looking.{rows_below, rows_from}

abbrev pub Entry : Type 0
Entry = ℕ × Row

pub references-filter : (p : ℕ → Bool) (rows : Part)
    → references (filter (λ (row : Entry). p row.0) rows) ≡ filter p (references rows)
references-filter p [] = refl
references-filter p (row ∷ rows) =
    let ih : references (filter (λ (row : Entry). p row.0) rows) ≡ filter p (references rows) =
    references-filter p rows in
    elim (p row.0) as (λ b. references (cond b (row ∷ filter (λ (row : Entry). p row.0) rows)
    (filter (λ (row : Entry). p row.0) rows))
    ≡ cond b (row.0 ∷ filter p (references rows)) (filter p (references rows))) [
      | true ↦ ap (λ rs. row.0 ∷ rs) ih
      | false ↦ ih
    ]

-- the reference of a series of a part
pub has_reference : (rows : Part) (row : Entry) → Contains rows row
    → Contains (references rows) row.0
has_reference rows row c = map-has (λ (r : Entry). r.0) rows row c

-- the series of a reference
pub of_reference : (rows : Part) (r : ℕ) → Contains (references rows) r
    → (row : Entry) × (Contains rows row × (row.0 ≡ r))
of_reference rows r c = of_map (λ (row : Entry). row.0) rows r c

-- all references from the first on
pub all_above : (x : Entry) (xs : Part) → IsStrictlyIncreasing (references (x ∷ xs)) → (row : Entry)
    → Contains (x ∷ xs) row → x.0 ≤ row.0
all_above x xs rises row c = elim (Contains-cases x xs row c) [
  | inl e ↦ let same : x.0 ≡ row.0 = ap (λ (r : Entry). r.0) e in omega arith
  | inr d ↦
      let lt : x.0 < row.0 = rising-head x.0 (references xs) rises row.0 (has_reference xs row d) in
      omega arith
]

abbrev below : ℕ → Entry → Bool
below bound row = nat_lt row.0 bound

pub take-below : (bound : ℕ) (rows : Part) → IsStrictlyIncreasing (references rows)
    → take (length (take_while (below bound) rows)) rows ≡ rows_below bound rows
take-below bound [] rises = refl
take-below bound (x ∷ xs) rises = elim (below_or_not x.0 bound) [
  | inl lt ↦
      let t : nat_lt x.0 bound ≡ true = grind (arith, nat_tests) in
      let front : take_while (below bound) (x ∷ xs) ≡ x ∷ take_while (below bound) xs =
      take_while-cons (below bound) x xs
      ∙ ap (λ b. cond b (x ∷ take_while (below bound) xs) []) t in
      ap (λ ys. take (length ys) (x ∷ xs)) front
      ∙ ap (λ ys. x ∷ ys) (take-below bound xs (rising-tail x.0 (references xs) rises))
      ∙ sym (ap (λ b. cond b (x ∷ rows_below bound xs) (rows_below bound xs)) t)
  | inr le ↦
      let t : nat_lt x.0 bound ≡ false = grind (arith, nat_tests) in
      let front : take_while (below bound) (x ∷ xs) ≡ [] =
      take_while-cons (below bound) x xs
      ∙ ap (λ b. cond b (x ∷ take_while (below bound) xs) []) t in
      ap (λ ys. take (length ys) (x ∷ xs)) front
      ∙ sym (filter-none (below bound) (x ∷ xs) (λ row c.
      let l : x.0 ≤ row.0 = all_above x xs rises row c in grind (arith, nat_tests)))
]

pub drop-below : (bound : ℕ) (rows : Part) → IsStrictlyIncreasing (references rows)
    → drop (length (take_while (below bound) rows)) rows ≡ rows_from bound rows
drop-below bound [] rises = refl
drop-below bound (x ∷ xs) rises = elim (below_or_not x.0 bound) [
  | inl lt ↦
      let t : nat_lt x.0 bound ≡ true = grind (arith, nat_tests) in
      let u : nat_le bound x.0 ≡ false = grind (arith, nat_tests) in
      let front : take_while (below bound) (x ∷ xs) ≡ x ∷ take_while (below bound) xs =
      take_while-cons (below bound) x xs
      ∙ ap (λ b. cond b (x ∷ take_while (below bound) xs) []) t in
      ap (λ ys. drop (length ys) (x ∷ xs)) front
      ∙ drop-below bound xs (rising-tail x.0 (references xs) rises)
      ∙ sym (ap (λ b. cond b (x ∷ rows_from bound xs) (rows_from bound xs)) u)
  | inr le ↦
      let t : nat_lt x.0 bound ≡ false = grind (arith, nat_tests) in
      let front : take_while (below bound) (x ∷ xs) ≡ [] =
      take_while-cons (below bound) x xs
      ∙ ap (λ b. cond b (x ∷ take_while (below bound) xs) []) t in
      ap (λ ys. drop (length ys) (x ∷ xs)) front
      ∙ sym (filter-all (λ (row : Entry). nat_le bound row.0) (x ∷ xs) (λ row c.
      let l : x.0 ≤ row.0 = all_above x xs rises row c in grind (arith, nat_tests)))
]

pub rises_from : (bound : ℕ) (rows : Part) → IsStrictlyIncreasing (references rows)
    → IsStrictlyIncreasing (references (rows_from bound rows))
rises_from bound rows rises =
    subst IsStrictlyIncreasing (sym (references-filter (λ r. nat_le bound r) rows))
    (rising-filter (λ r. nat_le bound r) (references rows) rises)

-- the series from one bound on and then from a greater one
pub from_twice : (a b : ℕ) (rows : Part) → a ≤ b → rows_from b (rows_from a rows) ≡ rows_from b rows
from_twice a b rows l =
    filter-filter (λ (row : Entry). nat_le b row.0) (λ (row : Entry). nat_le a row.0) rows
    ∙ filter-same (λ (row : Entry). nat_le b row.0 && nat_le a row.0)
    (λ (row : Entry). nat_le b row.0) rows (λ row c. grind (arith, nat_tests))
