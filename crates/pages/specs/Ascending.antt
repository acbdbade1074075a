-- Lists in an order, of which each item stands once.
use Rattle.std.specs.Prelude.{◌≡◌, ℕ, ◌<◌, List, length, slice_index_or}
use Rattle.std.specs.declared.cmp.Ordering.{Ordering}
use Rattle.std.specs.declared.cmp.Ordering.TheVariants.{Less}

-- each item is less than those after it
abbrev pub IsAscending : {X : Type 0} → (X → X → Ordering) → List X → Type 0
IsAscending {X} cmp xs =
    (i j : ℕ) (d : X) → i < j → j < length xs
    → cmp (slice_index_or xs i d) (slice_index_or xs j d) ≡ Less
