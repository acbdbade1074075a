-- How a batch is spelled whose series are named by number. The bytes of a value depend on what was
-- there before it: the names that were given, and the time of the sample before.
use Rattle.std.specs.Prelude.{◌≡◌, ◌⊎◌, ◌<◌, ◌^◌, ◌-ℤ◌, ℕ, ℤ, true, List, [], ◌∷◌, ◌++◌, length}
use Rattle.std.specs.Prelude.{get_or}
use Rattle.wire.specs.Spelling.{uvarint, varint, zigzag, IsBytes}
use Rattle.labels.specs.Contents.{is_time}
use Rattle.labels.specs.Labels.{Labels}
use Rattle.labels.specs.Rows.{Row}
use Rattle.name_table.specs.Names.{is_new}
use Rattle.kept_walk.specs.Fields as form

-- what was there before, the value, its bytes, and what is there after it
abbrev pub Spelling : Type 0 → Type 0 → Type 1
Spelling S A = S → A → List ℕ → S → Type 0

-- one after another
abbrev pub AreInRow : {S A : Type 0} → Spelling S A → Spelling S (List A)
AreInRow {S} one s [] bytes after = (bytes ≡ []) × (s ≡ after)
AreInRow {S} one s (x ∷ xs) bytes after =
    (first : List ℕ) × (mid : S) × (others : List ℕ) × one s x first mid
    × AreInRow one mid xs others after × (bytes ≡ first ++ others)

-- how many, and each in its order
pub record AreListed {S A : Type 0} (one : Spelling S A) (s : S) (xs : List A) (bytes : List ℕ)
    (after : S) : Type 0 where
  pub items : List ℕ
  pub parts : bytes ≡ uvarint (length xs) ++ items
  pub few : length xs < 2 ^ 64
  pub each : AreInRow one s xs items after

-- SAMPLES

-- a sample: how much later it is than the one before it, and its value
pub record IsLater (before : ℤ) (sample : ℤ × ℤ) (bytes : List ℕ) (after : ℤ) : Type 0 where
  pub parts : bytes ≡ varint (sample.0 -ℤ before) ++ varint sample.1
  pub step : zigzag (sample.0 -ℤ before) < 2 ^ 64
  pub value : zigzag sample.1 < 2 ^ 64
  pub dated : is_time sample.0 ≡ true
  pub time : after ≡ sample.0

-- NAMES

-- the label sets that have numbers, each by its text: the number of one is its place
abbrev pub Names : Type 0
Names = List (List ℕ)

abbrev pub AreBytes : Names → Type 0
AreBytes names = (n : ℕ) → IsBytes (get_or names n [])

-- the number of a label set that has one
pub record IsNumber (names : Names) (labels : Labels) (bytes : List ℕ) (after : Names)
    : Type 0 where
  pub number : ℕ
  pub given : number < length names
  pub named : get_or names number [] ≡ form.labels.text labels
  pub fits : form.labels.fits labels
  pub parts : bytes ≡ uvarint number
  pub few : number < 2 ^ 64
  pub same : after ≡ names

-- the next number, and a label set that has none: it gets this one
pub record IsName (names : Names) (labels : Labels) (bytes : List ℕ) (after : Names)
    : Type 0 where
  pub new : is_new (form.labels.text labels) names ≡ true
  pub fits : form.labels.fits labels
  pub parts : bytes ≡ uvarint (length names) ++ form.labels.text labels
  pub few : length names < 2 ^ 64
  pub more : after ≡ names ++ form.labels.text labels ∷ []

abbrev pub IsEither : Spelling Names Labels
IsEither names labels bytes after =
    IsNumber names labels bytes after ⊎ IsName names labels bytes after

-- RUNS

-- the names, and the time of the sample before
abbrev pub State : Type 0
State = Names × ℤ

-- a run: the number of its series, with its label set where the number is new, and one sample at
-- least
pub record IsRun (s : State) (run : Row) (bytes : List ℕ) (after : State) : Type 0 where
  pub name : List ℕ
  pub samples : List ℕ
  pub parts : bytes ≡ name ++ samples
  pub named : IsEither s.0 run.0 name after.0
  pub listed : AreListed IsLater s.1 run.1 samples after.1
  pub filled : form.is_filled run.1 ≡ true
