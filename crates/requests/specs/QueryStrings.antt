-- The pairs of a query string, and what they ask.
use Rattle.std.specs.Prelude.{ℕ, ℤ, ◌==◌, List, [], ◌∷◌, Option, None, Some, option_and_then, codes}
use Rattle.std.specs.Prelude.{map, filter, length, int_lt, if◌then◌else◌}
use Rattle.std.specs.Str.{bytes_eq}
use Rattle.std.specs.Str.Lossy.{utf8_lossy}
use Rattle.form_urlencoded.specs.Form.{raw_pairs, decode}
use Rattle.requests.specs.Times.{time_of}

-- the text that a name or a value of a form stands for
abbrev pub decoded_text : List ℕ → List ℕ
decoded_text bytes = utf8_lossy (decode bytes)

-- the names and the values of a form
abbrev pub query_pairs : List ℕ → List (List ℕ × List ℕ)
query_pairs query = map (λ pair. (decoded_text pair.0, decoded_text pair.1)) (raw_pairs query)

-- the values under a name
abbrev pub values_named : List ℕ → List (List ℕ × List ℕ) → List (List ℕ)
values_named name pairs = map (λ pair. pair.1) (filter (λ pair. bytes_eq pair.0 name) pairs)

-- the value, where there is exactly one
abbrev pub only : List (List ℕ) → Option (List ℕ)
only [] = None
only (value ∷ []) = Some value
only (value ∷ other ∷ values) = None

-- what is asked from one time to another, the first not above the second
abbrev pub asked_between : List ℕ → ℤ → ℤ → Option (List ℕ × ℤ × ℤ)
asked_between text from to = if int_lt to from then None else Some (text, from, to)

-- the time that the only value of a name writes
abbrev pub time_named : List ℕ → List (List ℕ × List ℕ) → Option ℤ
time_named name pairs = option_and_then time_of (only (values_named name pairs))

-- the text of the selector and the range, of three pairs with a name each
abbrev pub asked_in : List (List ℕ × List ℕ) → Option (List ℕ × ℤ × ℤ)
asked_in pairs =
    if length pairs == 3 then
    option_and_then (λ text. option_and_then (λ from.
    option_and_then (λ to. asked_between text from to) (time_named (codes "to") pairs))
    (time_named (codes "from") pairs)) (only (values_named (codes "selector") pairs))
    else None
