-- How a head takes the samples of a batch, one series at a time.
use Rattle.std.specs.Prelude.{ℕ, ℤ, ◌+◌, List, [], ◌∷◌, ◌++◌, Option, None, Some, Result, Ok, Err}
use Rattle.std.specs.Prelude.{nat_le, int_lt, length, slice_set, slice_index_or, if◌then◌else◌}
use Rattle.std.specs.Ordering.{int_eq}
use Rattle.labels.specs.Labels.{Labels, same_labels}
use Rattle.head.specs.Refusals.{Refusal, out_of_bounds, out_of_order, duplicate, limit}
use Rattle.head.specs.Limits.{max_series, max_samples}
use Rattle.head.specs.Heads.{HeadSeries, series_at}

-- the head with one sample more
abbrev pub grown : ℤ × ℤ → HeadSeries → HeadSeries
grown s h = record h { samples = h.samples ++ s ∷ []; newest = s }

abbrev pub extended : Labels → ℤ × ℤ → List HeadSeries → List HeadSeries
extended l s [] = record { labels = l; samples = s ∷ []; newest = s } ∷ []
extended l s (h ∷ hs) = if same_labels l h.labels then grown s h ∷ hs else h ∷ extended l s hs

-- one sample of a batch at the series that has its labels
abbrev pub series_added : ℕ → ℤ × ℤ → HeadSeries → Result HeadSeries Refusal
series_added at s h =
    if int_lt s.0 h.newest.0 then Err (out_of_order at)
    else if int_eq s.0 h.newest.0 then (if int_eq s.1 h.newest.1 then Ok h else Err (duplicate at))
    else if nat_le max_samples (length h.samples) then Err limit
    else Ok (grown s h)

-- the head with another series at a place, where there is one
abbrev pub with_series : List HeadSeries → ℕ → Result HeadSeries Refusal
    → Result (List HeadSeries) Refusal
with_series head k (Ok h) = Ok (slice_set head k h)
with_series head k (Err e) = Err e

-- one sample of a batch at the series in a place
abbrev pub added_at_place : List HeadSeries → ℕ → ℕ → ℤ × ℤ → HeadSeries
    → Result (List HeadSeries) Refusal
added_at_place head place at s d =
    with_series head place (series_added at s (slice_index_or head place d))

-- one sample of a batch at a head, by the series that has its labels
abbrev pub head_added_after : List HeadSeries → ℕ → Labels → ℤ × ℤ → Option HeadSeries
    → Result (List HeadSeries) Refusal
head_added_after head at l s None =
    if nat_le max_series (length head) then Err limit else Ok (extended l s head)
head_added_after head at l s (Some h) =
    if int_lt s.0 h.newest.0 then Err (out_of_order at)
    else if int_eq s.0 h.newest.0 then
    (if int_eq s.1 h.newest.1 then Ok head else Err (duplicate at))
    else if nat_le max_samples (length h.samples) then Err limit
    else Ok (extended l s head)

-- one sample of a batch at a head
unfoldable pub head_added : ℤ → List HeadSeries → ℕ → Labels × (ℤ × ℤ)
    → Result (List HeadSeries) Refusal
head_added floor head at x =
    if int_lt x.1.0 floor then Err (out_of_bounds at)
    else head_added_after head at x.0 x.1 (series_at x.0 head)

-- the samples of a batch in order, of which the first stands at this place
abbrev pub head_added_each : ℤ → Result (List HeadSeries) Refusal → ℕ
    → List (Labels × (ℤ × ℤ)) → Result (List HeadSeries) Refusal
head_added_each floor r at [] = r
head_added_each floor (Err e) at (x ∷ xs) = Err e
head_added_each floor (Ok head) at (x ∷ xs) =
    head_added_each floor (head_added floor head at x) (at + 1) xs

-- the place of the first series with these labels, where the first of these has this place
abbrev pub place_from : Labels → ℕ → List HeadSeries → Option ℕ
place_from l n [] = None
place_from l n (h ∷ hs) = if same_labels l h.labels then Some n else place_from l (n + 1) hs

-- one sample of a label set that the head has not
abbrev pub new_added : Labels → ℤ × ℤ → List HeadSeries → Result (List HeadSeries) Refusal
new_added l s head =
    if nat_le max_series (length head) then Err limit
    else Ok (head ++ record { labels = l; samples = s ∷ []; newest = s } ∷ [])
