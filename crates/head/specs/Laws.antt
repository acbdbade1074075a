-- What the laws of the sifted commit speak of.
use Rattle.std.specs.Prelude.{◌≡◌, ℕ, ℤ, false, List, [], ◌∷◌, ◌++◌, Err, length, map}
use Rattle.std.specs.Prelude.{◌⊎◌}
use Rattle.labels.specs.Labels.{Labels}
use Rattle.head.specs.declared.left.Reason.{Reason}
use Rattle.head.specs.declared.left.Reason.TheVariants.{OutOfBounds, OutOfOrder, Duplicate, Limit}
use Rattle.head.specs.Refusals.{Refusal, out_of_bounds, out_of_order, duplicate, limit, cut_too_low}
use Rattle.head.specs.Refusals.{too_many_parts, no_such_blocks}
use Rattle.head.specs.Worlds.{World, Batch, added}
use Rattle.head.specs.Sifting.{Sifted, has, is_newest, sifted}

-- some of the samples of a batch, in their order
abbrev pub IsPartOf : Batch → Batch → Type 0
IsPartOf [] ys = Unit {0}
IsPartOf (x ∷ xs) [] = ⊥
IsPartOf (x ∷ xs) (y ∷ ys) = ((x ≡ y) × IsPartOf xs ys) ⊎ IsPartOf (x ∷ xs) ys

-- The sample at this place is refused so by the world that the samples before it leave. Neither has
-- the content there the sample, nor is it the newest of its label set.
pub record IsRefusedAt (w : World) (xs : Batch) (left : ℕ × Refusal) : Type 0 where
  pub before : Batch
  pub sample : Labels × (ℤ × ℤ)
  pub later : Batch
  pub is : xs ≡ before ++ sample ∷ later
  pub at : left.0 ≡ length before
  pub refused : added (sifted w before).world left.0 sample ≡ Err left.1
  pub absent : has (sifted w before).world sample ≡ false
  pub other : is_newest (sifted w before).world sample ≡ false

-- the places of what is left out
abbrev pub places : List (ℕ × Refusal) → List ℕ
places left = map (λ l. l.0) left

-- Why a sample that is refused so is left out. No sample is refused as a cut or a join is; if one
-- were, a limit would be told.
abbrev pub reason_of : Refusal → Reason
reason_of (out_of_bounds at) = OutOfBounds
reason_of (out_of_order at) = OutOfOrder
reason_of (duplicate at) = Duplicate
reason_of limit = Limit
reason_of cut_too_low = Limit
reason_of too_many_parts = Limit
reason_of no_such_blocks = Limit

-- why each sample that is left out is
abbrev pub reasons : List (ℕ × Refusal) → List Reason
reasons left = map (λ l. reason_of l.1) left

-- the samples of parts
abbrev pub all_of : List Batch → Batch
all_of [] = []
all_of (p ∷ ps) = p ++ all_of ps

-- two sifts come to the same, but for how the places are numbered
pub record IsAlike (s t : Sifted) : Type 0 where
  pub world : s.world ≡ t.world
  pub kept : s.kept ≡ t.kept
  pub held : s.held ≡ t.held
  pub reasons : reasons s.left ≡ reasons t.left
