-- What becomes of a sample at a head.
use Rattle.std.specs.Prelude.{◌≡◌, ℕ, ℤ, Bool, ◌||◌, List, [], Option, None, Some, nat_le, int_lt}
use Rattle.std.specs.Prelude.{length, map, slice_index_or, if◌then◌else◌}
use Rattle.std.specs.Ordering.{int_cmp}
use Rattle.std.specs.FinMap.Entries.{find}
use Rattle.labels.specs.Labels.{Labels, point_cmp}
use Rattle.labels.specs.Parts.{over}
use Rattle.labels.proofs.ContentLaws.{or_else}
use Rattle.head.specs.declared.error.CommitError.{CommitError}
use Rattle.head.specs.declared.error.CommitError.TheVariants as error
use Rattle.head.specs.declared.judge.Met.{Met}
use Rattle.head.specs.declared.judge.Met.TheVariants.{Joins, Held, Refused}
use Rattle.head.specs.declared.left.Reason.{Reason}
use Rattle.head.specs.declared.left.Reason.TheVariants.{OutOfBounds, OutOfOrder, Duplicate, Limit}
use Rattle.head.specs.Limits.{max_series, max_samples}
use Rattle.head.specs.Worlds.{is_earlier, is_level, is_repeated}
use Rattle.head.specs.Heads.{HeadSeries, SnapshotParts, series_at}
use Rattle.head.specs.Sifting.{Fate, joins, held, left_out, has_value}
use Rattle.head.specs.Laws.{reason_of}
use Rattle.head.specs.Known.{known_of, samples_or}

-- the refusal of the sample at this place
abbrev pub refusal_at : ℕ → Reason → CommitError
refusal_at at OutOfBounds = error.OutOfBounds at
refusal_at at OutOfOrder = error.OutOfOrder at
refusal_at at Duplicate = error.Duplicate at
refusal_at at Limit = error.Limit

-- what the step says of a sample of a label set with this newest one, where there may be no room for
-- one more
abbrev pub judged : ℤ → Option (ℤ × ℤ) → Bool → ℤ × ℤ → Met
judged floor newest full s =
    if int_lt s.0 floor then Refused OutOfBounds
    else if is_earlier s newest then Refused OutOfOrder
    else if is_repeated s newest then Held
    else if is_level s newest then Refused Duplicate
    else if full then Refused Limit
    else Joins

-- there is no room for one more sample of this series, or for one more series
abbrev pub has_no_room : List HeadSeries → Option HeadSeries → Bool
has_no_room head None = nat_le max_series (length head)
has_no_room head (Some h) = nat_le max_samples (length h.samples)

-- what the step at a head says of a sample of this series, or of a label set that has none
abbrev pub judged_at : ℤ → List HeadSeries → Option HeadSeries → ℤ × ℤ → Met
judged_at floor head o s = judged floor (known_of o) (has_no_room head o) s

-- the series at a place, if there is one
abbrev pub standing : List HeadSeries → Option ℕ → HeadSeries → Option HeadSeries
standing head None d = None
standing head (Some place) d = Some (slice_index_or head place d)

-- the newest sample of the series at a place, and its samples
abbrev pub newest_standing : List HeadSeries → Option ℕ → HeadSeries → Option (ℤ × ℤ)
newest_standing head place d = known_of (standing head place d)

abbrev pub samples_standing : List HeadSeries → Option ℕ → HeadSeries → List (ℤ × ℤ)
samples_standing head place d = samples_or (standing head place d)

-- what the blocks have at a point
abbrev pub value_below : SnapshotParts → Labels × ℤ → Option ℤ
value_below s q = find point_cmp q (over [] (map (λ b. b.part) s.blocks))

-- what the head has at a point, or else the blocks
abbrev pub snapshot_value : SnapshotParts → Labels × ℤ → Option ℤ
snapshot_value s q =
    or_else (find int_cmp q.1 (samples_or (series_at q.0 s.head))) (value_below s q)

-- the head or the blocks have the sample, with its value
abbrev pub snapshot_has : SnapshotParts → Labels × (ℤ × ℤ) → Bool
snapshot_has s x = has_value x.1.1 (snapshot_value s (x.0, x.1.0))

-- the store has the sample, or it is the newest of its label set
abbrev pub is_there : SnapshotParts → Labels × (ℤ × ℤ) → Bool
is_there s x = is_repeated x.1 (known_of (series_at x.0 s.head)) || snapshot_has s x

-- one that the step refuses is held if it is there
abbrev pub told : Bool → Met → Met
told there Joins = Joins
told there Held = Held
told there (Refused reason) = if there then Held else Refused reason

-- what becomes of a sample at a snapshot
abbrev pub met : SnapshotParts → Labels × (ℤ × ℤ) → Met
met s x = told (is_there s x) (judged_at s.floor s.head (series_at x.0 s.head) x.1)

-- it is what becomes of the sample in the world
abbrev pub IsMet : Met → Fate → Type 0
IsMet Joins (joins w) = Unit {0}
IsMet Joins held = ⊥
IsMet Joins (left_out e) = ⊥
IsMet Held (joins w) = ⊥
IsMet Held held = Unit {0}
IsMet Held (left_out e) = ⊥
IsMet (Refused reason) (joins w) = ⊥
IsMet (Refused reason) held = ⊥
IsMet (Refused reason) (left_out e) = reason_of e ≡ reason
