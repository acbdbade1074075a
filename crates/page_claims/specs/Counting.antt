-- How many intervals have each verdict.
use Rattle.std.specs.Prelude.{ℕ, ◌+◌, ◌==◌, nat_lt, List, [], ◌∷◌, if◌then◌else◌}
use Rattle.cover.specs.declared.certificate.Interval.{Interval}
use Rattle.cover.specs.declared.certificate.Verdict.{Verdict}
use Rattle.cover.specs.declared.certificate.Verdict.TheVariants.{Match, NoSample, Rejected}

-- match, matchers 0 to 15, a matcher that no selector has, no sample
abbrev pub slot_of : Verdict → ℕ
slot_of Match = 0
slot_of (Rejected matcher) = if nat_lt matcher 16 then matcher + 1 else 17
slot_of NoSample = 18

abbrev pub count_in : ℕ → List Interval → ℕ
count_in slot [] = 0
count_in slot (i ∷ is) = (if slot_of i.verdict == slot then 1 else 0) + count_in slot is
