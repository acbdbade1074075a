-- The world, and the steps of events.
use Rattle.std.specs.Prelude.{ℕ, ℤ, ◌+◌, Bool, false, not, ◌&&◌, ◌||◌, List, [], ◌∷◌, Option, None}
use Rattle.std.specs.Prelude.{Some, Result, Ok, Err, nat_le, int_lt, length, filter, if◌then◌else◌}
use Rattle.std.specs.Prelude.{is_none, nat_lt, ◌-◌}
use Rattle.std.specs.Ordering.{int_eq}
use Rattle.std.specs.FinMap.Entries.{find, put}
use Rattle.labels.specs.Labels.{Labels, point_cmp, labels_cmp, same_labels}
use Rattle.labels.specs.Contents.{Content, without, held_from, between}
use Rattle.matchers.specs.Views.{MatcherView}
use Rattle.matchers.specs.Satisfies.{satisfies_all}
use Rattle.head.specs.Fits.{fits}
use Rattle.head.specs.Limits.{max_series, max_samples}
use Rattle.head.specs.Refusals.{Refusal, out_of_bounds, out_of_order, duplicate, limit, cut_too_low}
use Rattle.head.specs.Refusals.{too_many_parts, no_such_blocks}

-- label sets, each with its newest committed sample, in order of creation
abbrev pub Newest : Type 0
Newest = List (Labels × (ℤ × ℤ))

pub record World : Type 0 where
  pub content : Content
  pub newest : Newest
  pub floor : ℤ
  pub blocks : ℕ

-- the sample is the newest of its label set; a new label set goes last
abbrev pub with_newest : Labels → ℤ × ℤ → Newest → Newest
with_newest l s [] = (l, s) ∷ []
with_newest l s (e ∷ es) = if same_labels l e.0 then (e.0, s) ∷ es else e ∷ with_newest l s es

-- the sample joins the content
abbrev pub with_sample : World → Labels → ℤ × ℤ → World
with_sample w l s =
    record w {
      content = put point_cmp (l, s.0) s.1 w.content;
      newest = with_newest l s w.newest;
    }

-- the sample is earlier than the newest one, if there is one; it is at its time; it is that sample
abbrev pub is_earlier : ℤ × ℤ → Option (ℤ × ℤ) → Bool
is_earlier s None = false
is_earlier s (Some newest) = int_lt s.0 newest.0

abbrev pub is_level : ℤ × ℤ → Option (ℤ × ℤ) → Bool
is_level s None = false
is_level s (Some newest) = int_eq s.0 newest.0

abbrev pub is_repeated : ℤ × ℤ → Option (ℤ × ℤ) → Bool
is_repeated s None = false
is_repeated s (Some newest) = int_eq s.0 newest.0 && int_eq s.1 newest.1

-- there is no room for one more sample of a label set with this newest one: the label set is new
-- and one too many, or it has as many samples from the floor on as it may have
abbrev pub is_full : World → Labels → Option (ℤ × ℤ) → Bool
is_full w l newest =
    (is_none newest && nat_le max_series (length w.newest))
    || nat_le max_samples (held_from w.floor l w.content)

-- A sample of a label set with this newest one, at its place in a batch. It is refused if it is
-- below the floor (E1), or earlier than the newest one (E2). It changes nothing if it is the newest
-- one. It is refused if it is at that one's time with another value (E3), or there is no room for
-- it (E4). Else it joins.
abbrev pub added_to : World → ℕ → Labels → ℤ × ℤ → Option (ℤ × ℤ) → Result World Refusal
added_to w at l s newest =
    if int_lt s.0 w.floor then Err (out_of_bounds at)
    else if is_earlier s newest then Err (out_of_order at)
    else if is_repeated s newest then Ok w
    else if is_level s newest then Err (duplicate at)
    else if is_full w l newest then Err limit
    else Ok (with_sample w l s)

-- one sample of a batch, which stands at this place
abbrev pub added : World → ℕ → Labels × (ℤ × ℤ) → Result World Refusal
added w at x = added_to w at x.0 x.1 (find labels_cmp x.0 w.newest)

-- the samples in order, of which the first stands at this place; the first refused one refuses all
abbrev pub added_each : Result World Refusal → ℕ → List (Labels × (ℤ × ℤ))
    → Result World Refusal
added_each r at [] = r
added_each (Err e) at (x ∷ xs) = Err e
added_each (Ok w) at (x ∷ xs) = added_each (added w at x) (at + 1) xs

-- the step of a commit
abbrev pub committed : World → List (Labels × (ℤ × ℤ)) → Result World Refusal
committed w batch = added_each (Ok w) 0 batch

-- the step of a deletion
abbrev pub deleted : World → (Labels → Bool) → ℤ → ℤ → World
deleted w sat a b = record w { content = without sat a b w.content }

-- the floor is at the time, and the newest list keeps what is not below it
abbrev pub raised : World → ℤ → World
raised w t = record w { floor = t; newest = filter (λ e. not (int_lt e.1.0 t)) w.newest }

-- by the samples that leave the head
abbrev pub cut_off : (Content → Bool) → World → ℤ → Content → Result World Refusal
cut_off fits w t [] = Ok (raised w t)
cut_off fits w t (g ∷ gs) =
    if nat_le 63 w.blocks then Err too_many_parts
    else if fits (g ∷ gs) then Ok (record (raised w t) { blocks = w.blocks + 1 })
    else Err limit

-- the step of a cut, where `fits` says that the files of these samples are within their limits
abbrev pub cut_at : (Content → Bool) → World → ℤ → Result World Refusal
cut_at fits w t =
    if int_lt w.floor t then cut_off fits w t (between w.floor t w.content) else Err cut_too_low

-- the step of a join: so many blocks from a place on have become fewer; all else stays
abbrev pub joined_at : World → ℕ → ℕ → ℕ → Result World Refusal
joined_at w at count made =
    if nat_lt made count && nat_le (at + count) w.blocks
    then Ok (record w { blocks = (w.blocks - count) + made })
    else Err no_such_blocks

-- the samples of a batch in their order, each with its label set
abbrev pub Batch : Type 0
Batch = List (Labels × (ℤ × ℤ))

-- an event, as it was handed over: a batch, a deletion of the series that satisfy all matchers in a
-- closed range, a cut, or a join, which puts so many blocks in the place of more from a place on
pub data Event : Type 0 where
  batch : Batch → Event
  deletion : List MatcherView → ℤ → ℤ → Event
  cut : ℤ → Event
  joined : ℕ → ℕ → ℕ → Event

-- the batch that an event is, if it is one
abbrev pub batch_of : Event → Option Batch
batch_of (batch xs) = Some xs
batch_of (deletion ms a b) = None
batch_of (cut t) = None
batch_of (joined at count made) = None

-- the matchers of a deletion, if an event is one
abbrev pub matchers_of : Event → Option (List MatcherView)
matchers_of (batch xs) = None
matchers_of (deletion ms a b) = Some ms
matchers_of (cut t) = None
matchers_of (joined at count made) = None

-- the step of an event
abbrev pub stepped : World → Event → Result World Refusal
stepped w (batch xs) = committed w xs
stepped w (deletion ms a b) = Ok (deleted w (satisfies_all ms) a b)
stepped w (cut t) = cut_at fits w t
stepped w (joined at count made) = joined_at w at count made

-- events in order after a world; the first refused one refuses all
abbrev pub replayed_from : Result World Refusal → List Event → Result World Refusal
replayed_from r [] = r
replayed_from (Err e) (x ∷ xs) = Err e
replayed_from (Ok w) (x ∷ xs) = replayed_from (stepped w x) xs

-- the world after events, each accepted
abbrev pub replayed : World → List Event → Result World Refusal
replayed w events = replayed_from (Ok w) events
