-- The range that a text says.
use Rattle.std.specs.Prelude.{◌≡◌, ℕ, ℤ, Bool, true, false, List, Option, Some, None, Result, Ok}
use Rattle.std.proofs.Common.{ap, ◌∙◌}
use Rattle.std.specs.Bool.{OnTrue}
use Rattle.block.specs.declared.error.BlockError.{BlockError}
use Rattle.block.specs.Metas.{or_meta, range_said}

-- ranges with the same ends
pub same_range : (a b : ℤ × ℤ) → a.0 ≡ b.0 → a.1 ≡ b.1 → a ≡ b
same_range a b e f = λ i. (e i, f i)

ok_same : (a b : ℤ × ℤ) → ◌≡◌ {A = Result (ℤ × ℤ) BlockError} (Ok a) (Ok b) → a ≡ b
ok_same a b e = cc

said : (o : Option (ℤ × ℤ)) (read : ℤ × ℤ) → or_meta o ≡ Ok read → o ≡ Some read
said (Some x) read e = ap Some (ok_same x read e)
said None read e = absurd cc

-- a text says the range that is read of it
pub said_if : (b : Bool) (text : List ℕ) (read range : ℤ × ℤ) → or_meta (range_said text) ≡ Ok read
    → OnTrue b (read ≡ range) → OnTrue b (range_said text ≡ Some range)
said_if true text read range e h = said (range_said text) read e ∙ ap Some h
said_if false text read range e h = tt
