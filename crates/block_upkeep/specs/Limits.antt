-- What blocks are joined by.
use Rattle.std.specs.Prelude.{ℕ, ◌/◌, nat_lt, option_map, if◌then◌else◌}
use Rattle.join_schedule.specs.declared.blocks.Limits.{Limits}
use Rattle.block_upkeep.specs.declared.limits.Upkeep.{Upkeep}

-- the limits of a store that is cut at multiples of so many milliseconds, in a round of joins that
-- began with so many blocks
abbrev pub limits_of : Upkeep → ℕ → ℕ → Limits
limits_of upkeep cut begun = record {
  samples = upkeep.join_samples;
  series = 1048576;
  bytes = 1073741824;
  cut = cut;
  longest_window = option_map (λ keep. keep / 8) upkeep.keep;
  many = if nat_lt 56 begun then 44 else 56;
  few = 44;
}
