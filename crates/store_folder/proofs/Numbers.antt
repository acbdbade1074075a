-- The number of the next folder of a block.
use Rattle.std.proofs.Common.{◌≡◌, ◌<◌, ◌≤◌, inl, inr, ⊎_elim, ℕ, ◌+◌, List, [], ◌∷◌, arith}
use Rattle.std.proofs.Common.{drop, length, sym, ◌∙◌}
use Rattle.std.proofs.lemmas.List.{at_drop_all}
use Rattle.std.specs.Prelude.{max, min}
use Rattle.head_record.specs.Saved.{Place}
use Rattle.labels.proofs.Lists.{below_or_not}
use Rattle.store_folder.specs.Saving.{AreBelow, IsAbove}

-- the greater of a number and one more than those of the folders, as far as numbers go
abbrev pub next_from : ℕ → List Place → ℕ
next_from n [] = n
next_from n (p ∷ places) = next_from (max n (min (p.0 + 1) 18446744073709551615)) places

pub no_lower : (n : ℕ) (places : List Place) → n ≤ next_from n places
no_lower n [] = omega arith
no_lower n (p ∷ places) =
    let m = max n (min (p.0 + 1) 18446744073709551615) in
    let rest : m ≤ next_from m places = no_lower m places in
    omega (arith, rest)

pub above : (n : ℕ) (places : List Place) → IsAbove (next_from n places) places
above n [] = tt
above n (p ∷ places) =
    let m = max n (min (p.0 + 1) 18446744073709551615) in
    let rest : m ≤ next_from m places = no_lower m places in (
      ⊎_elim (λ below. inl below) (λ from. inr (omega (arith, rest, from)))
          (below_or_not p.0 (next_from m places)),
      above m places,
    )

pub least : (n m : ℕ) (places : List Place) → n ≤ m → AreBelow m places → next_from n places ≤ m
least n m [] le below = le
least n m (p ∷ places) le below =
    let one : p.0 < m = below.0 in
    least (max n (min (p.0 + 1) 18446744073709551615)) m places (omega (arith, le, one)) below.1

-- behind the last place
pub at_end : (n i : ℕ) (places : List Place) → length places ≤ i
    → next_from n (drop i places) ≡ next_from 1 places → n ≡ next_from 1 places
at_end n i places all is = sym (at_drop_all (next_from n) places i all) ∙ is
