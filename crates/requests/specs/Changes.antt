-- What the bodies of `/delete` and `/cut` ask.
use Rattle.std.specs.Prelude.{◌≡◌, ℕ, ℤ, List, Option, None, Some, Ok, Err, option_and_then, codes}
use Rattle.std.specs.Prelude.{if◌then◌else◌}
use Rattle.serde_json.specs.Data.{Data}
use Rattle.matchers.specs.Selectors.{IsAccepted, IsTextRefusal}
use Rattle.requests.specs.declared.refusal.Refusal.TheVariants.{BadSelector, BadBody}
use Rattle.requests.specs.declared.request.Request.TheVariants.{Delete, Cut}
use Rattle.requests.specs.Json.{json_of, has_members, time_at, text_at}
use Rattle.requests.specs.QueryStrings.{asked_between}
use Rattle.requests.specs.Requests.{Meaning}

-- the time of an object with the member `at` alone
abbrev pub cut_in : Data → Option ℤ
cut_in d = if has_members 1 d then time_at (codes "at") d else None

abbrev pub cut_of : List ℕ → Option ℤ
cut_of body = option_and_then cut_in (json_of body)

-- a body of the form asks a cut; another is a bad one
abbrev pub CutMeans : List ℕ → Meaning → Type 0
CutMeans body (Ok (Cut t)) = cut_of body ≡ Some t
CutMeans body (Ok _) = ⊥
CutMeans body (Err BadBody) = cut_of body ≡ None
CutMeans body (Err _) = ⊥

-- the text of the selector and the range, of an object with the members `from`, `selector` and
-- `to` alone
abbrev pub deletion_in : Data → Option (List ℕ × ℤ × ℤ)
deletion_in d =
    if has_members 3 d then
    option_and_then (λ text. option_and_then (λ from.
    option_and_then (λ to. asked_between text from to) (time_at (codes "to") d))
    (time_at (codes "from") d)) (text_at (codes "selector") d)
    else None

abbrev pub deletion_of : List ℕ → Option (List ℕ × ℤ × ℤ)
deletion_of body = option_and_then deletion_in (json_of body)

-- a body of the form asks a deletion, or its selector is refused; another is a bad one
abbrev pub DeleteMeans : List ℕ → Meaning → Type 0
DeleteMeans body (Ok (Delete matchers from to)) =
    (form : List ℕ × ℤ × ℤ) × (deletion_of body ≡ Some form)
    × IsAccepted form.0 matchers.items × (from ≡ form.1) × (to ≡ form.2)
DeleteMeans body (Ok _) = ⊥
DeleteMeans body (Err BadBody) = deletion_of body ≡ None
DeleteMeans body (Err (BadSelector error)) =
    (form : List ℕ × ℤ × ℤ) × (deletion_of body ≡ Some form)
    × IsTextRefusal form.0 error
DeleteMeans body (Err _) = ⊥
