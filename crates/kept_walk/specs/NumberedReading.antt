-- Reading a batch whose series are named by number: the value, what is there after it, and the
-- bytes behind it; or that they are not of the form.
use Rattle.std.specs.Prelude.{ℕ, zero, suc, ℤ, pos, ◌+ℤ◌, Bool, ◌&&◌, List, [], ◌∷◌, ◌++◌, length}
use Rattle.std.specs.Prelude.{get_or, nat_le, nat_lt, Option, None, Some, Result, Ok, Err, ◌==◌}
use Rattle.std.specs.Prelude.{if◌then◌else◌}
use Rattle.std.specs.List.{list_all}
use Rattle.wire.specs.Outcome.{◌>>=◌}
use Rattle.labels.specs.Contents.{is_time}
use Rattle.labels.specs.Labels.{Labels}
use Rattle.labels.specs.Rows.{Row}
use Rattle.name_table.specs.Names.{is_new}
use Rattle.kept_walk.specs.declared.fault.Fault.{Fault}
use Rattle.kept_walk.specs.declared.fault.Fault.TheVariants as faults
use Rattle.kept_walk.specs.Contents.{are_timed, sample_count}
use Rattle.kept_walk.specs.Fields as form
use Rattle.kept_walk.specs.Numbered.{Names, State}
use Rattle.kept_walk.specs.Reading.{all_of, if_ended, labels_at, number_at, signed_at}

abbrev pub Read : Type 0 → Type 0 → Type 0
Read S A = Result ((A × S) × List ℕ) Fault

abbrev pub ReaderBy : Type 0 → Type 0 → Type 0
ReaderBy S A = S → List ℕ → Read S A

-- so many, one after another
unfoldable pub each_by : {S A : Type 0} → ReaderBy S A → ℕ → ReaderBy S (List A)
each_by at zero s bytes = Ok (([], s), bytes)
each_by at (suc n) s bytes = do
  x ← at s bytes
  xs ← each_by at n x.0.1 x.1
  Ok ((x.0.0 ∷ xs.0.0, xs.0.1), xs.1)

unfoldable pub list_by : {S A : Type 0} → ReaderBy S A → ReaderBy S (List A)
list_by at s bytes = do
  n ← number_at bytes
  each_by at n.0 s n.1

-- samples

-- the time so much later than a time
unfoldable pub time_after : ℤ → ℤ → Option ℤ
time_after t step = if is_time (t +ℤ step) then Some (t +ℤ step) else None

abbrev pub dated : Option ℤ → ℤ → List ℕ → Read ℤ (ℤ × ℤ)
dated None value rest = Err faults.Form
dated (Some time) value rest = Ok (((time, value), time), rest)

unfoldable pub later_at : ReaderBy ℤ (ℤ × ℤ)
later_at before bytes = do
  step ← signed_at bytes
  value ← signed_at step.1
  dated (time_after before step.0) value.0 value.1

-- names

unfoldable pub known_at : List ℕ → ReaderBy Names Labels
known_at text names bytes = do
  labels ← all_of labels_at text
  Ok ((labels, names), bytes)

abbrev pub if_new : Names → Labels × List ℕ → Read Names Labels
if_new names x =
    if is_new (form.labels.text x.0) names then Ok ((x.0, names ++ form.labels.text x.0 ∷ []), x.1)
    else Err faults.Form

unfoldable pub new_at : ReaderBy Names Labels
new_at names bytes = do
  x ← labels_at bytes
  if_new names x

abbrev pub numbered_at : ℕ → ReaderBy Names Labels
numbered_at n names bytes =
    if nat_lt n (length names) then known_at (get_or names n []) names bytes
    else if n == length names then new_at names bytes
    else Err faults.Form

unfoldable pub name_at : ReaderBy Names Labels
name_at names bytes = do
  n ← number_at bytes
  numbered_at n.0 names n.1

-- runs

abbrev pub if_filled : Labels × Names → (List (ℤ × ℤ) × ℤ) × List ℕ → Read State Row
if_filled name xs =
    if form.is_filled xs.0.0 then Ok (((name.0, xs.0.0), (name.1, xs.0.1)), xs.1)
    else Err faults.Form

unfoldable pub run_by : ReaderBy State Row
run_by s bytes = do
  name ← name_at s.0 bytes
  samples ← list_by later_at s.1 name.1
  if_filled name.0 samples

-- all of a batch

-- no two runs that stand side by side have one label set, and they have at most 4,096 samples, at
-- times
abbrev pub is_allowed : List Row → Bool
is_allowed runs =
    form.each_next form.differs runs && nat_le (sample_count runs) 4096 && list_all are_timed runs

abbrev pub if_allowed : List Row × State → Result (List Row × Names) Fault
if_allowed x = if is_allowed x.0 then Ok (x.0, x.1.0) else Err faults.Form

unfoldable pub numbered_of : Names → List ℕ → Result (List Row × Names) Fault
numbered_of names bytes = do
  runs ← list_by run_by (names, pos 0) bytes
  whole ← if_ended runs
  if_allowed whole
