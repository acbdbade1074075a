-- The states of a kept store, and the steps of its events.
use Rattle.std.specs.Prelude.{ℕ, ℤ, ◌+◌, Bool, not, List, [], ◌∷◌, ◌++◌, Option, Some, None}
use Rattle.std.specs.Prelude.{nat_le, nat_lt, int_lt, length, map, filter, if◌then◌else◌}
use Rattle.std.specs.Ordering.{int_eq}
use Rattle.std.specs.FinMap.Entries.{put}
use Rattle.labels.specs.Labels.{Labels, labels_cmp, same_labels}
use Rattle.labels.specs.Contents.{in_range}
use Rattle.labels.specs.Rows.{Row}
use Rattle.labels.specs.Parts.{Part}
use Rattle.matchers.specs.Satisfies.{satisfies_all}
use Rattle.kept_walk.specs.Kept.{Event, batch, deletion, cut}

-- a sample, which is a time and a value, behind the number of the event that brought it
abbrev pub Born : Type 0
Born = ℕ × (ℤ × ℤ)

-- a series of the head: the event that brought it, its newest committed sample, which a deletion
-- may have taken, and its samples, the oldest first
pub record HeadSeries : Type 0 where
  pub labels : Labels
  pub born : ℕ
  pub newest : ℤ × ℤ
  pub samples : List Born

-- How many events led to it, the floor, the head in order of creation, and the blocks. The first
-- blocks, as many as `stored`, have the references of their files. A block of a cut is on no disk
-- yet: its series are numbered from 1, and their references are not those of the store.
pub record State : Type 0 where
  pub number : ℕ
  pub floor : ℤ
  pub head : List HeadSeries
  pub blocks : List Part
  pub stored : ℕ

-- a sample behind its label set
abbrev pub Entry : Type 0
Entry = Labels × (ℤ × ℤ)

-- how many series a head may have, and how many samples one of them
abbrev pub max_series : ℕ
max_series = 1048576

abbrev pub max_samples : ℕ
max_samples = 1048576

-- how many blocks there may be
abbrev pub max_blocks : ℕ
max_blocks = 63

-- BATCHES

-- the samples of a run, each behind its label set
abbrev pub entries_in : Labels → List (ℤ × ℤ) → List Entry
entries_in l [] = []
entries_in l (s ∷ ss) = (l, s) ∷ entries_in l ss

-- the samples of runs, one run after another
abbrev pub entries_of : List Row → List Entry
entries_of [] = []
entries_of (r ∷ rs) = entries_in r.0 r.1 ++ entries_of rs

abbrev pub new_series : ℕ → Entry → HeadSeries
new_series n x = record { labels = x.0; born = n; newest = x.1; samples = (n, x.1) ∷ [] }

abbrev pub with_last : ℕ → ℤ × ℤ → HeadSeries → HeadSeries
with_last n s e = record e { newest = s; samples = e.samples ++ (n, s) ∷ [] }

-- A sample of a series that is there. Older than its newest it is refused (E2), at that time with
-- another value too (E3). The newest once more changes nothing. Else it goes last, if the series
-- has room for it (E4).
abbrev pub grown : ℕ → ℤ × ℤ → HeadSeries → Option HeadSeries
grown n s e =
    if int_lt s.0 e.newest.0 then None
    else if int_eq s.0 e.newest.0 then (if int_eq s.1 e.newest.1 then Some e else None)
    else if nat_le max_samples (length e.samples) then None
    else Some (with_last n s e)

abbrev pub before_all : Option HeadSeries → List HeadSeries → Option (List HeadSeries)
before_all None es = None
before_all (Some e) es = Some (e ∷ es)

abbrev pub behind : HeadSeries → Option (List HeadSeries) → Option (List HeadSeries)
behind e None = None
behind e (Some es) = Some (e ∷ es)

-- a sample goes to the series of its label set; where there is none, that goes last, if there is
-- room for one
abbrev pub placed : Bool → ℕ → Entry → List HeadSeries → Option (List HeadSeries)
placed room n x [] = if room then Some (new_series n x ∷ []) else None
placed room n x (e ∷ es) =
    if same_labels x.0 e.labels then before_all (grown n x.1 e) es
    else behind e (placed room n x es)

-- whether the head has room for one more series (E4)
abbrev pub has_room : List HeadSeries → Bool
has_room head = nat_lt (length head) max_series

-- a sample of a batch; below the floor it is refused (E1)
abbrev pub added : ℕ → ℤ → Entry → List HeadSeries → Option (List HeadSeries)
added n floor x head =
    if int_lt x.1.0 floor then None else placed (has_room head) n x head

-- the samples of a batch in order; the first that is refused refuses all
abbrev pub added_each : ℕ → ℤ → Option (List HeadSeries) → List Entry → Option (List HeadSeries)
added_each n floor r [] = r
added_each n floor None (x ∷ xs) = None
added_each n floor (Some head) (x ∷ xs) = added_each n floor (added n floor x head) xs

abbrev pub with_head : State → Option (List HeadSeries) → Option State
with_head s None = None
with_head s (Some head) = Some (record s { number = s.number + 1; head = head })

-- DELETIONS

-- the series without its samples in the closed range, if it is chosen
abbrev pub struck_series : (Labels → Bool) → ℤ → ℤ → HeadSeries → HeadSeries
struck_series sat from to e =
    if sat e.labels
    then record e { samples = filter (λ (k : Born). not (in_range from to k.1.0)) e.samples }
    else e

-- the same of a row of a block
abbrev pub struck_row : (Labels → Bool) → ℤ → ℤ → ℕ × Row → ℕ × Row
struck_row sat from to r =
    if sat r.1.0
    then (r.0, (r.1.0, filter (λ (s : ℤ × ℤ). not (in_range from to s.0)) r.1.1))
    else r

abbrev pub struck_part : (Labels → Bool) → ℤ → ℤ → Part → Part
struck_part sat from to part = map (struck_row sat from to) part

-- samples leave the head and each block; all series stay
abbrev pub deleted : (Labels → Bool) → ℤ → ℤ → State → State
deleted sat from to s =
    record s {
      number = s.number + 1;
      head = map (struck_series sat from to) s.head;
      blocks = map (struck_part sat from to) s.blocks;
    }

-- CUTS

-- rows as a part, whose references are numbered from this one on
abbrev pub numbered : ℕ → List Row → Part
numbered n [] = []
numbered n (r ∷ rs) = (n, r) ∷ numbered (n + 1) rs

-- the samples without their births
abbrev pub samples_of : List Born → List (ℤ × ℤ)
samples_of ks = map (λ (k : Born). k.1) ks

-- the samples below a time
abbrev pub leaving : ℤ → HeadSeries → List (ℤ × ℤ)
leaving t e = samples_of (filter (λ (k : Born). int_lt k.1.0 t) e.samples)

-- rows with this one, in label order; a row without samples is left out
abbrev pub gathered : Labels → List (ℤ × ℤ) → List Row → List Row
gathered l [] rows = rows
gathered l (s ∷ ss) rows = put labels_cmp l (s ∷ ss) rows

-- what leaves of these series, beside rows
abbrev pub rows_below : ℤ → List Row → List HeadSeries → List Row
rows_below t rows [] = rows
rows_below t rows (e ∷ es) = rows_below t (gathered e.labels (leaving t e) rows) es

abbrev pub stays : ℤ → HeadSeries → Bool
stays t e = not (int_lt e.newest.0 t)

abbrev pub rest_of : ℤ → HeadSeries → HeadSeries
rest_of t e = record e { samples = filter (λ (k : Born). not (int_lt k.1.0 t)) e.samples }

-- the series stay whose newest sample is not below the time, with their samples from it on
abbrev pub raised : ℤ → State → State
raised t s =
    record s { number = s.number + 1; floor = t; head = map (rest_of t) (filter (stays t) s.head) }

-- the blocks, and one more of the rows that leave the head, if there are any; with 63 the cut is
-- refused (E6)
abbrev pub with_block : List Row → List Part → Option (List Part)
with_block [] blocks = Some blocks
with_block (r ∷ rs) blocks =
    if nat_le max_blocks (length blocks) then None
    else Some (blocks ++ numbered 1 (r ∷ rs) ∷ [])

abbrev pub with_blocks : State → Option (List Part) → Option State
with_blocks s None = None
with_blocks s (Some blocks) = Some (record s { blocks = blocks })

-- EVENTS

-- the state after an event, if it is accepted; a cut that is not above the floor is refused (E5)
abbrev pub stepped : State → Event → Option State
stepped s (batch runs) =
    with_head s (added_each (s.number + 1) s.floor (Some s.head) (entries_of runs))
stepped s (deletion ms from to) = Some (deleted (satisfies_all ms) from to s)
stepped s (cut t) =
    if int_lt s.floor t
    then with_blocks (raised t s) (with_block (rows_below t [] s.head) s.blocks)
    else None

abbrev pub state_from : Option State → List Event → Option State
state_from r [] = r
state_from None (x ∷ xs) = None
state_from (Some s) (x ∷ xs) = state_from (stepped s x) xs

-- the state after events, if each is accepted
abbrev pub state_after : List Event → State → Option State
state_after events s = state_from (Some s) events

-- PARTS

abbrev pub shown_row : HeadSeries → Row
shown_row e = (e.labels, samples_of e.samples)

-- the rows of a head
abbrev pub shown : List HeadSeries → List Row
shown head = map shown_row head

-- the blocks, and the head behind them, whose references are numbered from 1
abbrev pub parts : State → List Part
parts s = s.blocks ++ numbered 1 (shown s.head) ∷ []
