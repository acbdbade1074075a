-- The walk over the series that uses up the lists, one series after another.
use Rattle.std.specs.Prelude.{ℕ, ◌+◌, List, [], ◌∷◌, get_or, Result, Ok, Err, ◌&&◌, map}
use Rattle.std.specs.Prelude.{if◌then◌else◌, drop, slice_set}
use Rattle.index_reader.specs.declared.error.IndexError.{IndexError}
use Rattle.index_reader.specs.declared.error.IndexError.TheVariants.{PostingsDisagree}
use Rattle.index_reader.specs.Reading.Agreement.{or_disagree, keys_at, Carrier, are_used}
use Rattle.index_reader.specs.Reading.Carried.{is_first, all_empty}
use Rattle.index_reader.specs.Layout.{TableEntry, Label}
use Rattle.index_reader.specs.Lookups.{place_of}
use Rattle.index_reader.specs.References.{references_in}
use Rattle.wire.specs.Outcome.{◌>>=◌}

-- the state after one step for each of a list, or the first refusal
unfoldable pub in_turn : {S A : Type 0}
    → (S → A → Result S IndexError) → S → List A → Result S IndexError
in_turn step s [] = Ok s
in_turn step s (a ∷ as') = step s a >>= λ t. in_turn step t as'

-- the pairs of the table after the first, and what is left of each list: of that of all series, and
-- after it of that of each pair
pub record Rests : Type 0 where
  pub keys : List Label
  pub lists : List (List ℕ)

-- the whole lists
unfoldable pub rests_of : List (List ℕ) → List TableEntry → List (List ℕ) → Result Rests IndexError
rests_of symbols table lists = do
  keys ← keys_at symbols table
  Ok (record { keys = keys; lists = map references_in lists })

-- another rest of the list at a place
abbrev pub with_rest : Rests → ℕ → List ℕ → Rests
with_rest rests k rest = record { keys = rests.keys; lists = slice_set rests.lists k rest }

-- a reference is taken from the front of the list at a place
unfoldable pub take_reference : ℕ → Rests → ℕ → Result Rests IndexError
take_reference r rests k =
    if is_first r (get_or rests.lists k [])
    then Ok (with_rest rests k (drop 1 (get_or rests.lists k [])))
    else Err PostingsDisagree

-- it is taken from the list of a label, which stands after the first
unfoldable pub take_label : ℕ → Rests → Label → Result Rests IndexError
take_label r rests l = do
  at ← or_disagree (place_of rests.keys l)
  take_reference r rests (at + 1)

-- the reference of a series is taken from the first list, and from that of each of its labels
unfoldable pub take_series : Rests → Carrier → Result Rests IndexError
take_series rests s = do
  others ← take_reference s.0 rests 0
  in_turn (take_label s.0) others s.1

-- the pairs of the table after the first, where the series in their order use up its lists
unfoldable pub keys_used_up : List (List ℕ) → List TableEntry → List (List ℕ) → List Carrier
    → Result (List Label) IndexError
keys_used_up symbols table lists series = do
  whole ← rests_of symbols table lists
  rests ← in_turn take_series whole series
  if are_used lists && all_empty rests.lists then Ok rests.keys else Err PostingsDisagree
