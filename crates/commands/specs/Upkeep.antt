-- How long the samples of a server are kept, as its options say it.
use Rattle.std.specs.Prelude.{◌≡◌, ◌⊎◌, ℕ, ◌<◌, ◌^◌, ◌*◌, ◌==◌, true, Option, None, Some, List}
use Rattle.std.specs.Prelude.{IfSome, is_some, min, if◌then◌else◌}
use Rattle.std.specs.Borrow.{Bor}
use Rattle.clap.specs.Words.{kind_of}
use Rattle.clap.specs.declared.error.kind.ErrorKind.TheVariants.{MissingRequiredArgument}
use Rattle.clap.specs.declared.error.kind.ErrorKind.TheVariants.{ValueValidation}
use Rattle.span_text.specs.Spans.{IsSpan}
use Rattle.block_upkeep.specs.declared.limits.Upkeep.{Upkeep}
use Rattle.commands.specs.declared.command.Serving.{Serving}
use Rattle.commands.specs.declared.fault.Fault.{Fault}
use Rattle.commands.specs.declared.fault.Fault.TheVariants.{Words, Memory}

-- the store is kept in a folder, and cut by itself
abbrev pub IsTended : Serving → Type 0
IsTended serving = (is_some serving.folder ≡ true) × (0 < serving.cut_every)

-- the options say for how long samples are kept, or how many of them
abbrev pub AsksKeep : Serving → Type 0
AsksKeep serving = (is_some serving.keep ≡ true) ⊎ (0 < serving.keep_gb)

-- a text writes a span of 64 bits
abbrev pub IsSpanText : Bor (List ℕ) → Type 0
IsSpanText text = (n : ℕ) × IsSpan text.now n × (n < 2 ^ 64)

-- the option of how long they are kept, if there is one, writes a span
abbrev pub WritesSpan : Serving → Type 0
WritesSpan serving = IfSome serving.keep IsSpanText

-- the options say it of a store that is kept and cut, and by a span
pub record IsKeepable (serving : Serving) : Type 0 where
  pub tended : AsksKeep serving → IsTended serving
  pub span : WritesSpan serving

-- the milliseconds that a text writes, if there is one
abbrev pub IsKeepOf : Option (Bor (List ℕ)) → Option ℕ → Type 0
IsKeepOf None keep = keep ≡ None
IsKeepOf (Some text) None = IsSpanText text → ⊥
IsKeepOf (Some text) (Some keep) = IsSpan text.now keep

-- the bytes of so many GB, as far as they can be counted; none of 0
abbrev pub bytes_of : ℕ → Option ℕ
bytes_of gb = if gb == 0 then None else Some (min (gb * 1000000000) 18446744073709551615)

-- what is done with the blocks of a store that is kept and cut
pub record IsUpkeepOf (serving : Serving) (upkeep : Upkeep) : Type 0 where
  pub tended : IsTended serving
  pub keep : IsKeepOf serving.keep upkeep.keep
  pub bytes : upkeep.keep_bytes ≡ bytes_of serving.keep_gb
  pub joins : upkeep.join_samples ≡ serving.join_samples

-- why the options are refused: their store is not kept or not cut, or no span is written; or memory
-- failed
abbrev pub IsKeepFault : Serving → Fault → Type 0
IsKeepFault serving (Words error) =
    ((kind_of error ≡ MissingRequiredArgument) × AsksKeep serving × (IsTended serving → ⊥))
    ⊎ ((kind_of error ≡ ValueValidation) × (WritesSpan serving → ⊥))
IsKeepFault serving Memory = Unit {0}
IsKeepFault serving other = ⊥
