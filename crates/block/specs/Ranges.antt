-- Ranges of times.
use Rattle.std.specs.Prelude.{◌≡◌, ℤ, Bool, true, ◌&&◌, Option, Some, None, if◌then◌else◌, int_lt}
use Rattle.std.specs.Prelude.{int_le}
use Rattle.labels.specs.Contents.{is_time}

-- a range that a block may cover: its first time is below its end, and both are times
pub record IsRange (range : ℤ × ℤ) : Type 0 where
  pub rises : int_lt range.0 range.1 ≡ true
  pub first : is_time range.0 ≡ true
  pub end : is_time range.1 ≡ true

-- whether the first time is below the end, and both are times
abbrev pub is_range : ℤ → ℤ → Bool
is_range min max = int_lt min max && (is_time min && is_time max)

-- the range from one time up to another, if it is one
abbrev pub range_of : ℤ → ℤ → Option (ℤ × ℤ)
range_of min max = if is_range min max then Some (min, max) else None

-- whether a time lies in the range; its end does not
abbrev pub covers : ℤ × ℤ → ℤ → Bool
covers range t = int_le range.0 t && int_lt t range.1
