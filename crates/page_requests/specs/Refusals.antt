-- The numbers of refusals, and their texts.
use Rattle.std.specs.Prelude.{ℕ, List, Option, None, Some, codes, ◌++◌}
use Rattle.matchers.specs.Errors.{selector_code, selector_text}
use Rattle.page_requests.specs.declared.refusal.Refusal.{Refusal}
use Rattle.page_requests.specs.declared.refusal.Refusal.TheVariants.{BadQuery, BadSelector}
use Rattle.page_requests.specs.declared.refusal.Refusal.TheVariants.{NoSeries}

-- the number of a refusal
abbrev pub code_of : Refusal → List ℕ
code_of BadQuery = codes "H5"
code_of (BadSelector error) = codes "H6"
code_of NoSeries = codes "G16"

-- the number of the refusal behind this one, if there is one
abbrev pub cause_of : Refusal → Option (List ℕ)
cause_of BadQuery = None
cause_of (BadSelector error) = Some (selector_code error)
cause_of NoSeries = None

-- a refusal in a line, for people
abbrev pub refusal_message : Refusal → List ℕ
refusal_message BadQuery = codes "H5: the query string is not of the path's form"
refusal_message (BadSelector error) = codes "H6: the selector is refused: " ++ selector_text error
refusal_message NoSeries = codes "G16: what is asked about is no series"
