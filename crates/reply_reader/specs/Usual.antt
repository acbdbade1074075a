-- What the tokens of a reply say, one value at a time, where it is spelled as usual.
use Rattle.std.specs.Prelude.{◌≡◌, ◌≤◌, ℕ, List, Option, Some, option_and_then}
use Rattle.json.specs.Token.{Token}
use Rattle.json.specs.Json.{value}
use Rattle.serde_json.specs.Data.{Data}
use Rattle.serde_json.specs.Find.{as_object}
use Rattle.serde_json.specs.Read.{of_json, converted}
use Rattle.labels.specs.Labels.{Labels}
use Rattle.reply_reader.specs.Replies.{texts_said}

-- Where values may nest so deep, or deeper, the grammar takes a value from the front of the tokens
-- `old`, this is what it says, and the tokens `new` follow it.
abbrev pub Comes : {A : Type 0} → (Data → Option A) → ℕ → List Token → A → List Token → Type 0
Comes said deep old a new =
    (depth : ℕ) → deep ≤ depth
    → converted said (converted of_json (value depth old)) ≡ Some (a, new)

-- the names of an object's members, each with the text that its member is
abbrev pub pairs_said : Data → Option Labels
pairs_said d = option_and_then texts_said (as_object d)
