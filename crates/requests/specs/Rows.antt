-- The rows that a body writes.
use Rattle.std.specs.Prelude.{◌≡◌, ℕ, ℤ, Bool, true, false, ◌==◌, List, [], ◌∷◌, ◌++◌, map, Option}
use Rattle.std.specs.Prelude.{None, Some, option_and_then, option_map, is_none, string_bytes, codes}
use Rattle.std.specs.Prelude.{if◌then◌else◌}
use Rattle.std.specs.List.{AllZip}
use Rattle.std.specs.declared.string.String.{String}
use Rattle.labels.specs.LabelSets.{IsMadeOf, refusal_of}
use Rattle.labels.specs.Labels.{Labels}
use Rattle.labels.specs.Rows.{Row}
use Rattle.serde_json.specs.Data.{Data, Items, no_items, item, Members, no_members, member}
use Rattle.serde_json.specs.Find.{get, at, as_array, as_object, as_str}
use Rattle.serde_json.specs.Events.{items_len}
use Rattle.requests.specs.Json.{json_of, has_members, integer_in, time_in}

-- a pair of strings as a pair of bytes
abbrev pub pair_bytes : {Z : Type 0} → String Z × String Z → List ℕ × List ℕ
pair_bytes pair = (string_bytes pair.0, string_bytes pair.1)

-- the pair of a member's name and its text, if it is a text
abbrev pub text_pair : List ℕ → Data → Option (List ℕ × List ℕ)
text_pair name d = option_map (λ text. (name, text)) (as_str d)

-- the pairs of names and texts, if each member is a text
abbrev pub pairs_in : Members → Option (List (List ℕ × List ℕ))
pairs_in no_members = Some []
pairs_in (member name d ms) =
    option_and_then (λ text. option_map (λ pairs. (name, text) ∷ pairs) (pairs_in ms)) (as_str d)

-- the pairs under `labels`
abbrev pub labels_at : Data → Option (List (List ℕ × List ℕ))
labels_at d = option_and_then pairs_in (option_and_then as_object (get (codes "labels") d))

-- the time at a place of a list
abbrev pub time_item : ℕ → Data → Option ℤ
time_item i d = option_and_then time_in (at i d)

-- the integer at a place of a list
abbrev pub integer_item : ℕ → Data → Option ℤ
integer_item i d = option_and_then integer_in (at i d)

abbrev pub pair_in : Data → Option (ℤ × ℤ)
pair_in d = option_and_then (λ t. option_map (λ v. (t, v)) (integer_item 1 d)) (time_item 0 d)

-- a list of a time and a value
abbrev pub sample_in : Data → Option (ℤ × ℤ)
sample_in d = option_and_then (λ ds. if items_len ds == 2 then pair_in d else None) (as_array d)

-- the samples, if each item is one
abbrev pub samples_in : Items → Option (List (ℤ × ℤ))
samples_in no_items = Some []
samples_in (item d ds) =
    option_and_then (λ s. option_map (λ ss. s ∷ ss) (samples_in ds)) (sample_in d)

-- the samples under `samples`
abbrev pub samples_at : Data → Option (List (ℤ × ℤ))
samples_at d = option_and_then samples_in (option_and_then as_array (get (codes "samples") d))

-- pairs of names and texts, and samples
abbrev pub WrittenRow : Type 0
WrittenRow = List (List ℕ × List ℕ) × List (ℤ × ℤ)

-- whether pairs make a label set
abbrev pub is_labelled : List (List ℕ × List ℕ) → Bool
is_labelled pairs = is_none (refusal_of pairs)

-- the label set that pairs make, or none where they make none
abbrev pub IsLabelSetOf : List (List ℕ × List ℕ) → Option Labels → Type 0
IsLabelSetOf pairs None = is_labelled pairs ≡ false
IsLabelSetOf pairs (Some labels) = (is_labelled pairs ≡ true) × IsMadeOf labels pairs

-- the row of pairs that make a label set
abbrev pub row_with : Data → List (List ℕ × List ℕ) → Option WrittenRow
row_with d pairs =
    if is_labelled pairs then option_map (λ samples. (pairs, samples)) (samples_at d) else None

-- an object with the members `labels` and `samples` alone
abbrev pub row_in : Data → Option WrittenRow
row_in d = if has_members 2 d then option_and_then (row_with d) (labels_at d) else None

-- the rows, if each item is one
abbrev pub rows_in : Items → Option (List WrittenRow)
rows_in no_items = Some []
rows_in (item d ds) =
    option_and_then (λ row. option_map (λ rows. row ∷ rows) (rows_in ds)) (row_in d)

-- what a body spells, if it is a list of rows: the pairs and the samples of each
abbrev pub rows_in_body : List ℕ → Option (List WrittenRow)
rows_in_body body = option_and_then rows_in (option_and_then as_array (json_of body))

-- the label set of the written pairs, and the written samples
pub record IsRowOf (written : WrittenRow) (row : Row) : Type 0 where
  pub labels : IsMadeOf row.0 written.0
  pub samples : row.1 ≡ written.1

-- the rows as they are written, one by one
abbrev pub AreRowsOf : List WrittenRow → List Row → Type 0
AreRowsOf written rows = AllZip IsRowOf written rows

-- the row that a value writes, or none where it writes none
abbrev pub IsRowIn : Data → Option Row → Type 0
IsRowIn d None = row_in d ≡ None
IsRowIn d (Some row) = (written : WrittenRow) × (row_in d ≡ Some written) × IsRowOf written row

-- the rows that the items write, or none where an item writes none
abbrev pub AreRowsIn : Items → Option (List Row) → Type 0
AreRowsIn ds None = rows_in ds ≡ None
AreRowsIn ds (Some rows) =
    (written : List WrittenRow) × (rows_in ds ≡ Some written) × AreRowsOf written rows

-- the samples of rows in their order, each with its label set
abbrev pub batch_of : List Row → List (Labels × (ℤ × ℤ))
batch_of [] = []
batch_of (row ∷ rows) = map (λ (s : ℤ × ℤ). (row.0, s)) row.1 ++ batch_of rows
