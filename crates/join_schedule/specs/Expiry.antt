-- The times before which samples leave, each the end of a block.
use Rattle.std.specs.Prelude.{◌≡◌, ◌≤◌, ℕ, ℤ, pos, ◌+ℤ◌, ◌≤ℤ◌, int_lt, List, All, Any}
use Rattle.std.specs.Prelude.{sum_by, if◌then◌else◌}
use Rattle.join_schedule.specs.declared.blocks.Shape.{Shape}

-- a block ends at this time
abbrev pub IsEnd : ℤ → List Shape → Type 0
IsEnd time blocks = Any (λ b. b.to ≡ time) blocks

-- the time is so old that neither floor nor clock is nearer than `keep` milliseconds
pub record IsExpired (floor now : ℤ) (keep : ℕ) (time : ℤ) : Type 0 where
  pub cut : (time +ℤ pos keep) ≤ℤ floor
  pub passed : (time +ℤ pos keep) ≤ℤ now

-- of the ends of blocks that have expired, the last
pub record IsLastExpired (floor now : ℤ) (keep : ℕ) (blocks : List Shape) (time : ℤ) : Type 0 where
  pub is_end : IsEnd time blocks
  pub expired : IsExpired floor now keep time
  pub last : All (λ b. IsExpired floor now keep b.to → b.to ≤ℤ time) blocks

-- the bytes of a block, if it ends after a time
abbrev pub share_after : ℤ → Shape → ℕ
share_after time b = if int_lt time b.to then b.bytes else 0

-- the bytes of the blocks that end after a time
abbrev pub bytes_after : ℤ → List Shape → ℕ
bytes_after time blocks = sum_by (share_after time) blocks

-- of the ends of blocks behind which blocks have at most so many bytes, the least
pub record IsLeastEnd (most : ℕ) (blocks : List Shape) (time : ℤ) : Type 0 where
  pub is_end : IsEnd time blocks
  pub enough : bytes_after time blocks ≤ most
  pub least : All (λ b. bytes_after b.to blocks ≤ most → time ≤ℤ b.to) blocks
