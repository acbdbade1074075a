-- What events keep, and how many label sets a batch has.
use Rattle.std.specs.Prelude.{ℕ, ℤ, ◌+◌, ◌*◌, ◌≤◌, Bool, ◌&&◌, List, [], ◌∷◌, nat_le, length}
use Rattle.std.specs.Prelude.{nat_lt, IsTrue, if◌then◌else◌}
use Rattle.std.specs.List.{list_any, list_all}
use Rattle.labels.specs.Labels.{Labels, same_labels}
use Rattle.labels.specs.Contents.{is_time}
use Rattle.matchers.specs.Queries.{is_query_range}
use Rattle.matchers.specs.Views.{MatcherView}
use Rattle.head.specs.Worlds.{Batch, Event, batch, deletion, cut, joined}

-- whether there are at most 4,096 samples, all at times
abbrev pub is_batch : Batch → Bool
is_batch xs = nat_le (length xs) 4096 && list_all (λ x. is_time x.1.0) xs

-- whether there are at most 16 matchers, and a range that begins and ends at times
abbrev pub is_deletion : List MatcherView → ℤ → ℤ → Bool
is_deletion ms from to = nat_le (length ms) 16 && is_query_range from to

-- what every event keeps
abbrev pub IsEvent : Event → Type 0
IsEvent (batch xs) = IsTrue (is_batch xs)
IsEvent (deletion ms from to) = IsTrue (is_deletion ms from to)
IsEvent (cut t) = IsTrue (is_time t)
IsEvent (joined at count made) = IsTrue (nat_lt made count)

-- whether a sample of the batch has the label set
abbrev pub has_set : Batch → Labels → Bool
has_set xs l = list_any (λ x. same_labels l x.0) xs

-- how many label sets a batch has
abbrev pub set_count : Batch → ℕ
set_count [] = 0
set_count (x ∷ xs) = (if has_set xs x.0 then 0 else 1) + set_count xs

-- a commit reports at most 119 copied samples for each label set that its batch names; of other
-- events nothing is said
abbrev pub CopiesFew : Event → ℕ → Type 0
CopiesFew (batch xs) copied = copied ≤ 119 * set_count xs
CopiesFew (deletion ms from to) copied = Unit {0}
CopiesFew (cut t) copied = Unit {0}
CopiesFew (joined at count made) copied = Unit {0}
