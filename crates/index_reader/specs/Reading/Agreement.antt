-- Whether the postings say of the series what the series say.
use Rattle.std.specs.List.{list_all}
use Rattle.std.specs.Prelude.{ℕ, ◌+◌, List, [], ◌∷◌, length, ◌++◌, Result, Ok, Err, Bool, ◌&&◌, map}
use Rattle.std.specs.Prelude.{nat_lt, ◌==◌, if◌then◌else◌, ◌/◌, drop, Option, Some, None}
use Rattle.index_reader.specs.declared.error.IndexError.{IndexError}
use Rattle.index_reader.specs.declared.error.IndexError.TheVariants.{PostingsDisagree}
use Rattle.index_reader.specs.Reading.Carried.{Carried, are_used_up}
use Rattle.index_reader.specs.Layout.{rises, SeriesEntry, TableEntry, Label}
use Rattle.index_reader.specs.Lookups.{key_before, symbol_of, place_of}
use Rattle.index_reader.specs.References.{references_in}
use Rattle.index_reader.specs.Reading.Steps.{each}
use Rattle.wire.specs.Outcome.{◌>>=◌}

-- what was found, or the refusal of postings that are not those of the series
abbrev pub or_disagree : {A : Type 0} → Option A → Result A IndexError
or_disagree (Some x) = Ok x
or_disagree None = Err PostingsDisagree

-- an entry of the table, by the symbols of its name and its value
unfoldable pub key_at : List (List ℕ) → TableEntry → Result Label IndexError
key_at symbols l = do
  name ← or_disagree (symbol_of symbols l.name)
  value ← or_disagree (symbol_of symbols l.value)
  Ok (name, value)

-- the entries after the first, which is that of the empty pair
unfoldable pub keys_at : List (List ℕ) → List TableEntry → Result (List Label) IndexError
keys_at symbols [] = Err PostingsDisagree
keys_at symbols (l ∷ ls) =
    if length l.name == 0 && length l.value == 0 then (do
      keys ← each (key_at symbols) ls
      if rises key_before keys then Ok keys else Err PostingsDisagree)
    else Err PostingsDisagree

-- where the list of a label stands, and the reference that must be in it
unfoldable pub list_of_label : List Label → ℕ → Label → Result Carried IndexError
list_of_label keys reference label = do
  at ← or_disagree (place_of keys label)
  Ok (at + 1, reference)

-- a series: its reference, and its labels
abbrev pub Carrier : Type 0
Carrier = ℕ × List Label

-- each series is in the first list, and in that of each of its labels
unfoldable pub lists_of_series : List Label → Carrier → Result (List Carried) IndexError
lists_of_series keys s = do
  others ← each (list_of_label keys s.0) s.1
  Ok ((0, s.0) ∷ others)

-- what the steps give, one after the other
unfoldable pub each_all : {A X : Type 0}
    → (A → Result (List X) IndexError) → List A → Result (List X) IndexError
each_all step [] = Ok []
each_all step (a ∷ as') = do
  first ← step a
  others ← each_all step as'
  Ok (first ++ others)

-- the reference of an entry is the sixteenth part of its offset
abbrev pub entry_references : List SeriesEntry → List ℕ
entry_references ps = map (λ p. p.offset / 16) ps

-- each reference with the labels of its series
unfoldable pub carriers : List ℕ → List (List Label) → List Carrier
carriers [] ls = []
carriers (r ∷ rs) [] = []
carriers (r ∷ rs) (l ∷ ls) = (r, l) ∷ carriers rs ls

-- no list after the first is empty
abbrev pub are_used : List (List ℕ) → Bool
are_used lists = list_all (λ l. nat_lt 0 (length l)) (drop 1 lists)

-- the pairs of the table after the first, where its lists are exactly the references of the series
-- that carry them
unfoldable pub agreement_of : List (List ℕ) → List TableEntry → List (List ℕ) → List Carrier
    → Result (List Label) IndexError
agreement_of symbols table lists series = do
  keys ← keys_at symbols table
  carried ← each_all (lists_of_series keys) series
  if are_used lists && are_used_up (map references_in lists) carried then Ok keys
      else Err PostingsDisagree
