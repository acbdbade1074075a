-- What a reply shows of a part by itself.
use Rattle.std.specs.Prelude.{ℕ, ◌+◌, ◌==◌, ◌&&◌, Bool, true, false, nat_lt, nat_le, List, [], ◌∷◌}
use Rattle.std.specs.Prelude.{length, if◌then◌else◌}
use Rattle.std.specs.List.{list_all}
use Rattle.cover.specs.declared.certificate.Interval.{Interval}
use Rattle.cover.specs.declared.certificate.Verdict.{Verdict}
use Rattle.cover.specs.declared.certificate.Verdict.TheVariants.{Match, NoSample, Rejected}
use Rattle.cover.specs.declared.part_cover.PartAnswer.{PartAnswer}

-- where the next interval begins, or the end of all references
abbrev pub next_from : List Interval → ℕ
next_from [] = 4294967296
next_from (i ∷ is) = i.from

-- the intervals form a chain without a hole, up to the end of all references
abbrev pub is_chain : List Interval → Bool
is_chain [] = true
is_chain (i ∷ is) = nat_lt i.from i.until && (i.until == next_from is && is_chain is)

-- a verdict names a matcher that is there, or none
abbrev pub is_named : ℕ → Verdict → Bool
is_named matchers Match = true
is_named matchers (Rejected matcher) = nat_lt matcher matchers
is_named matchers NoSample = true

abbrev pub are_named : ℕ → List Interval → Bool
are_named matchers is = list_all (λ (i : Interval). is_named matchers i.verdict) is

abbrev pub is_match : Verdict → Bool
is_match Match = true
is_match (Rejected matcher) = false
is_match NoSample = false

-- how many intervals are matches
abbrev pub matches_in : List Interval → ℕ
matches_in [] = 0
matches_in (i ∷ is) = (if is_match i.verdict then 1 else 0) + matches_in is

-- as many separators as intervals, one in each, in their order
abbrev pub are_separated : List Interval → List ℕ → Bool
are_separated [] [] = true
are_separated [] (s ∷ ss) = false
are_separated (i ∷ is) [] = false
are_separated (i ∷ is) (s ∷ ss) =
    nat_le i.from s && (nat_lt s i.until && are_separated is ss)

-- whether an answer passes all that a reply alone allows
abbrev pub is_checked : ℕ → PartAnswer → Bool
is_checked matchers a =
    is_chain a.cover.certificate.items
    && (are_named matchers a.cover.certificate.items
    && (matches_in a.cover.certificate.items == length a.rows.items
    && are_separated a.cover.certificate.items a.cover.separators.items))
