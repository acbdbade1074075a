-- What the tokens of a body write, one value at a time, where it is written as usual.
use Rattle.std.specs.Prelude.{◌≡◌, ◌≤◌, ℕ, ℤ, List, Option, Some, option_and_then}
use Rattle.json.specs.Token.{Token}
use Rattle.json.specs.Json.{value}
use Rattle.serde_json.specs.Data.{Data}
use Rattle.serde_json.specs.Find.{as_array, as_object}
use Rattle.serde_json.specs.Read.{of_json, converted}
use Rattle.labels.specs.Rows.{Row}
use Rattle.requests.specs.Rows.{WrittenRow, pairs_in, samples_in, row_in, rows_in, IsLabelSetOf}
use Rattle.requests.specs.Rows.{IsRowOf, AreRowsOf}

-- Where values may nest so deep, or deeper, the grammar takes a value from the front of the tokens
-- `old`, this is what it means, and the tokens `new` follow it.
abbrev pub Comes : {A : Type 0} → (Data → Option A) → ℕ → List Token → A → List Token → Type 0
Comes meaning deep old a new =
    (depth : ℕ) → deep ≤ depth
    → converted meaning (converted of_json (value depth old)) ≡ Some (a, new)

-- the pairs of an object whose members are texts
abbrev pub pairs_of_object : Data → Option (List (List ℕ × List ℕ))
pairs_of_object d = option_and_then pairs_in (as_object d)

-- pairs that are a label set as they stand
abbrev pub AreLabels : List (List ℕ × List ℕ) → Type 0
AreLabels pairs = IsLabelSetOf pairs (Some pairs)

-- the samples of a list of samples
abbrev pub samples_of_list : Data → Option (List (ℤ × ℤ))
samples_of_list d = option_and_then samples_in (as_array d)

-- the rows of a list of rows
abbrev pub rows_of_list : Data → Option (List WrittenRow)
rows_of_list d = option_and_then rows_in (as_array d)

-- a row as the tokens write it
abbrev pub RowComes : List Token → Row → List Token → Type 0
RowComes old row new = (written : WrittenRow) × Comes row_in 3 old written new × IsRowOf written row

-- rows as the tokens write a list of them
abbrev pub RowsCome : List Token → List Row → List Token → Type 0
RowsCome old rows new =
    (written : List WrittenRow) × Comes rows_of_list 4 old written new × AreRowsOf written rows
