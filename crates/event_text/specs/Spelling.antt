-- The one spelling of each event.
use Rattle.std.specs.Prelude.{◌≡◌, ◌<◌, ◌^◌, ℕ, ℤ, true, List, [], ◌∷◌, ◌++◌, length}
use Rattle.std.specs.List.{flat_map, AllByRecursion}
use Rattle.std.specs.Str.{is_utf8}
use Rattle.wire.specs.Spelling.{uvarint, varint, zigzag}
use Rattle.labels.specs.Labels.{Labels}
use Rattle.labels.specs.LabelSets.{IsLabelSet}
use Rattle.matchers.specs.Views.{MatcherView}
use Rattle.matchers.specs.declared.matcher.Op.{Op}
use Rattle.matchers.specs.declared.matcher.Op.TheVariants.{Equal, NotEqual, Like, NotLike}
use Rattle.head.specs.Batches.{IsEvent}
use Rattle.head.specs.Worlds.{Event, batch, deletion, cut, joined}
use Rattle.event_text.specs.Runs.{Run, runs_of}

-- how many bytes, and the bytes
abbrev pub string_text : List ℕ → List ℕ
string_text s = uvarint (length s) ++ s

abbrev pub pair_text : List ℕ × List ℕ → List ℕ
pair_text p = string_text p.0 ++ string_text p.1

-- how many, and each in its order
abbrev pub many_text : {A : Type 0} → (A → List ℕ) → List A → List ℕ
many_text text xs = uvarint (length xs) ++ flat_map text xs

unfoldable pub labels_text : Labels → List ℕ
labels_text l = many_text pair_text l

-- a time and a value
unfoldable pub sample_text : ℤ × ℤ → List ℕ
sample_text s = varint s.0 ++ varint s.1

unfoldable pub run_text : Run → List ℕ
run_text run = labels_text run.0 ++ many_text sample_text run.1

abbrev pub op_number : Op → ℕ
op_number Equal = 0
op_number NotEqual = 1
op_number Like = 2
op_number NotLike = 3

unfoldable pub matcher_text : MatcherView → List ℕ
matcher_text m = op_number m.op ∷ pair_text (m.name, m.text)

unfoldable pub event_text : Event → List ℕ
event_text (batch xs) = 1 ∷ many_text run_text (runs_of xs)
event_text (deletion ms a b) = 2 ∷ (many_text matcher_text ms ++ (varint a ++ varint b))
event_text (cut t) = 3 ∷ varint t
-- a join is kept by what it makes, and no text stands for it: this one is no event's
event_text (joined at count made) = 3 ∷ []

-- what has a spelling: texts are UTF-8, label sets are ones, and each number fits its type

pub record IsText (s : List ℕ) : Type 0 where
  pub utf8 : is_utf8 s ≡ true
  pub short : length s < 2 ^ 64

pub record IsPair (p : List ℕ × List ℕ) : Type 0 where
  pub name : IsText p.0
  pub value : IsText p.1

pub record AreMany {A : Type 0} (P : A → Type 0) (xs : List A) : Type 0 where
  pub short : length xs < 2 ^ 64
  pub each : AllByRecursion P xs

pub record IsSample (s : ℤ × ℤ) : Type 0 where
  pub time : zigzag s.0 < 2 ^ 64
  pub value : zigzag s.1 < 2 ^ 64

pub record IsRun (run : Run) : Type 0 where
  pub pairs : AreMany IsPair run.0
  pub label_set : IsLabelSet run.0
  pub samples : AreMany IsSample run.1
  pub filled : 0 < length run.1

abbrev pub IsMatcher : MatcherView → Type 0
IsMatcher m = IsPair (m.name, m.text)

abbrev pub HasSpelling : Event → Type 0
HasSpelling (batch xs) = AreMany IsRun (runs_of xs)
HasSpelling (deletion ms a b) =
    AreMany IsMatcher ms × (zigzag a < 2 ^ 64) × (zigzag b < 2 ^ 64)
HasSpelling (cut t) = zigzag t < 2 ^ 64
HasSpelling (joined at count made) = ⊥

-- the bytes spell the event, which is within its bounds
pub record Spells (bytes : List ℕ) (e : Event) : Type 0 where
  pub text : bytes ≡ event_text e
  pub spelled : HasSpelling e
  pub bounded : IsEvent e
