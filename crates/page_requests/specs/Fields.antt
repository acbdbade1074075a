-- The fields of the form of a page, and what they ask.
use Rattle.std.specs.Prelude.{ℕ, ℤ, pos, negsuc, Bool, ◌||◌, ◌==◌, List, [], ◌∷◌}
use Rattle.std.specs.Prelude.{Option, None, Some}
use Rattle.std.specs.Prelude.{option_map, option_and_then, length, codes, if◌then◌else◌}
use Rattle.std.specs.List.{list_all}
use Rattle.std.specs.Str.{bytes_eq}
use Rattle.requests.specs.QueryStrings.{asked_between, only, values_named}
use Rattle.requests.specs.Times.{time_of}
use Rattle.page_requests.specs.declared.form.Form.{Form}

-- what is asked: the text of the selector with the range, and the text of the series that is asked
-- about, empty if none is
abbrev pub FormSeen : Type 0
FormSeen = (List ℕ × ℤ × ℤ) × List ℕ

abbrev pub form_seen : Form → FormSeen
form_seen form = ((form.selector.now, form.from, form.to), form.about.now)

-- whether a name is that of a field
abbrev pub is_field : List ℕ → Bool
is_field name =
    bytes_eq name (codes "selector") || bytes_eq name (codes "from")
    || bytes_eq name (codes "to") || bytes_eq name (codes "about")

abbrev pub are_fields : List (List ℕ × List ℕ) → Bool
are_fields pairs = list_all (λ pair. is_field pair.0) pairs

-- the value, where there is at most one: an empty one, where there is none
abbrev pub at_most_one : List (List ℕ) → Option (List ℕ)
at_most_one [] = Some []
at_most_one (value ∷ []) = Some value
at_most_one (value ∷ other ∷ values) = None

-- the text of a field that may be left out
abbrev pub field_text : List ℕ → List (List ℕ × List ℕ) → Option (List ℕ)
field_text name pairs = at_most_one (values_named name pairs)

-- the time that a text writes; this one, where it is empty
abbrev pub time_or : ℤ → List ℕ → Option ℤ
time_or absent text = if length text == 0 then Some absent else time_of text

-- the time of a field
abbrev pub time_in : ℤ → List ℕ → List (List ℕ × List ℕ) → Option ℤ
time_in absent name pairs = option_and_then (time_or absent) (field_text name pairs)

-- the text of the selector and the range, all times of the store where its ends are left out
abbrev pub range_in : List (List ℕ × List ℕ) → Option (List ℕ × ℤ × ℤ)
range_in pairs =
    option_and_then (λ text. option_and_then (λ from.
    option_and_then (λ to. asked_between text from to)
    (time_in (pos 4611686018427387903) (codes "to") pairs))
    (time_in (negsuc 4611686018427387903) (codes "from") pairs))
    (only (values_named (codes "selector") pairs))

-- what pairs ask, each of which is a field, and no field twice
abbrev pub form_in : List (List ℕ × List ℕ) → Option FormSeen
form_in pairs =
    if are_fields pairs then
    option_and_then (λ asked. option_map (λ about. (asked, about))
    (field_text (codes "about") pairs)) (range_in pairs)
    else None
