-- Reading from the front of bytes: the value and the bytes behind it, or that they are not of the
-- form.
use Rattle.std.specs.Prelude.{ℕ, zero, suc, ℤ, Bool, List, [], ◌∷◌, Result, Ok, Err}
use Rattle.std.specs.Prelude.{◌==◌, if◌then◌else◌}
use Rattle.std.specs.Str.{is_utf8}
use Rattle.wire.specs.Reading as wire
use Rattle.wire.specs.Outcome.{◌>>=◌, or_refused}
use Rattle.labels.specs.Labels.{Labels}
use Rattle.labels.specs.Rows.{Row}
use Rattle.matchers.specs.Views.{MatcherView}
use Rattle.matchers.specs.declared.matcher.Op.{Op}
use Rattle.matchers.specs.declared.matcher.Op.TheVariants.{Equal, NotEqual, Like, NotLike}
use Rattle.kept_walk.specs.declared.fault.Fault.{Fault}
use Rattle.kept_walk.specs.declared.fault.Fault.TheVariants as faults
use Rattle.kept_walk.specs.declared.journal_state.Values.{Values}
use Rattle.kept_walk.specs.declared.journal_state.Values.TheVariants.{Whole, Doubles}
use Rattle.kept_walk.specs.Contents.{is_bounded}
use Rattle.kept_walk.specs.Fields.{is_label_set, is_filled, each_next, differs, is_op}
use Rattle.kept_walk.specs.Kept.{Event, batch, deletion, cut, Series}

abbrev pub Reader : Type 0 → Type 0
Reader A = List ℕ → Result (A × List ℕ) Fault

abbrev pub octet_at : Reader ℕ
octet_at bytes = or_refused faults.Form (wire.byte_at bytes)

abbrev pub number_at : Reader ℕ
number_at bytes = or_refused faults.Form (wire.uvarint_at bytes)

abbrev pub signed_at : Reader ℤ
signed_at bytes = or_refused faults.Form (wire.varint_at bytes)

-- what passes a test, and what stands for something else
abbrev pub if_passed : {A : Type 0} → (A → Bool) → A × List ℕ → Result (A × List ℕ) Fault
if_passed test x = if test x.0 then Ok x else Err faults.Form

unfoldable pub such_at : {A : Type 0} → (A → Bool) → Reader A → Reader A
such_at test at bytes = do
  x ← at bytes
  if_passed test x

unfoldable pub as_at : {A B : Type 0} → (A → B) → Reader A → Reader B
as_at meant at bytes = do
  x ← at bytes
  Ok (meant x.0, x.1)

unfoldable pub both_at : {A B : Type 0} → Reader A → Reader B → Reader (A × B)
both_at at next bytes = do
  a ← at bytes
  b ← next a.1
  Ok ((a.0, b.0), b.1)

-- so many, one after another
unfoldable pub each_at : {A : Type 0} → Reader A → ℕ → Reader (List A)
each_at at zero bytes = Ok ([], bytes)
each_at at (suc n) bytes = do
  x ← at bytes
  xs ← each_at at n x.1
  Ok (x.0 ∷ xs.0, xs.1)

unfoldable pub list_at : {A : Type 0} → Reader A → Reader (List A)
list_at at bytes = do
  n ← number_at bytes
  each_at at n.0 n.1

unfoldable pub string_at : Reader (List ℕ)
string_at bytes = do
  n ← number_at bytes
  s ← or_refused faults.Form (wire.bytes_at n.0 n.1)
  if_passed is_utf8 s

abbrev pub pair_at : Reader (List ℕ × List ℕ)
pair_at = both_at string_at string_at

abbrev pub labels_at : Reader Labels
labels_at = such_at is_label_set (list_at pair_at)

abbrev pub sample_at : Reader (ℤ × ℤ)
sample_at = both_at signed_at signed_at

abbrev pub samples_at : Reader (List (ℤ × ℤ))
samples_at = list_at sample_at

abbrev pub run_at : Reader Row
run_at = both_at labels_at (such_at is_filled samples_at)

abbrev pub runs_at : Reader (List Row)
runs_at = such_at (each_next differs) (list_at run_at)

-- operators by their numbers
abbrev pub op_of : ℕ → Op
op_of n = if n == 0 then Equal else if n == 1 then NotEqual else if n == 2 then Like else NotLike

abbrev pub matcher_of : ℕ × (List ℕ × List ℕ) → MatcherView
matcher_of x = record { name = x.1.0; op = op_of x.0; text = x.1.1 }

abbrev pub matcher_at : Reader MatcherView
matcher_at = as_at matcher_of (both_at (such_at is_op octet_at) pair_at)

abbrev pub deletion_at : Reader (List MatcherView × (ℤ × ℤ))
deletion_at = both_at (list_at matcher_at) (both_at signed_at signed_at)

abbrev pub place_at : Reader (ℕ × ℕ)
place_at = both_at number_at number_at

abbrev pub opening_at : Reader (ℤ × (List (ℕ × ℕ) × ℕ))
opening_at = both_at signed_at (both_at (list_at place_at) number_at)

abbrev pub series_in : Labels × ((ℤ × ℤ) × List (ℤ × ℤ)) → Series
series_in x = record { labels = x.0; newest = x.1.0; samples = x.1.1 }

abbrev pub series_at : Reader Series
series_at = as_at series_in (both_at labels_at (both_at sample_at samples_at))

-- all of the bytes
abbrev pub if_ended : {A : Type 0} → A × List ℕ → Result A Fault
if_ended (a, []) = Ok a
if_ended (a, b ∷ rest) = Err faults.Form

unfoldable pub all_of : {A : Type 0} → Reader A → List ℕ → Result A Fault
all_of at bytes = do
  x ← at bytes
  if_ended x

-- contents, by their kinds

abbrev pub removal : List MatcherView × (ℤ × ℤ) → Event
removal x = deletion x.0 x.1.0 x.1.1

abbrev pub by_kind : ℕ → Reader Event
by_kind kind =
    if kind == 1 then as_at batch runs_at
    else if kind == 2 then as_at removal deletion_at
    else if kind == 3 then as_at cut signed_at
    else λ bytes. Err faults.Form

unfoldable pub event_at : Reader Event
event_at bytes = do
  kind ← octet_at bytes
  by_kind kind.0 kind.1

abbrev pub if_bounded : Event → Result Event Fault
if_bounded e = if is_bounded e then Ok e else Err faults.Form

unfoldable pub event_of : List ℕ → Result Event Fault
event_of content = do
  e ← all_of event_at content
  if_bounded e

unfoldable pub series_of : List ℕ → Result Series Fault
series_of content = do
  kind ← octet_at content
  if kind.0 == 17 then all_of series_at kind.1 else Err faults.Form

abbrev pub Opening : Type 0
Opening = Values × (ℤ × (List (ℕ × ℕ) × ℕ))

unfoldable pub opening_whole : Values → List ℕ → Result Opening Fault
opening_whole values bytes = do
  said ← all_of opening_at bytes
  Ok (values, said)

unfoldable pub opening_of : List ℕ → Result Opening Fault
opening_of content = do
  kind ← octet_at content
  if kind.0 == 16 then opening_whole Whole kind.1
      else if kind.0 == 18 then opening_whole Doubles kind.1
      else Err faults.Form
