-- Stages of opening that did not fail.
use Rattle.std.proofs.Common.{◌≡◌, Bool, true, false, cond, Result, Ok, Err, refl}
use Rattle.tombstones.specs.declared.error.TombstoneError.{TombstoneError}
use Rattle.block_walk.specs.declared.error.WalkError.{WalkError}
use Rattle.block_walk.specs.BlockFiles.Reading.{or_tombstones}

-- a test that had to hold
pub test_ok : {A : Type 0} (b : Bool) (d : WalkError) (x y : A) → cond b (Ok x) (Err d) ≡ Ok y
    → (b ≡ true) × (x ≡ y)
test_ok true d x y e = (refl, cc)
test_ok false d x y e = absurd cc

pub tombstones_ok : {A : Type 0} (r : Result A TombstoneError) (x : A)
    → or_tombstones r ≡ Ok x → r ≡ Ok x
tombstones_ok (Ok y) x h = cc
tombstones_ok (Err e) x h = absurd cc
