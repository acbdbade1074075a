-- The JSON of a listing, by its tokens.
use Rattle.std.specs.Prelude.{ℕ, Bool, true, false, List, [], ◌∷◌, ◌++◌, flat_map, take, length}
use Rattle.std.specs.Prelude.{Option, None, Some, codes, nat_lt}
use Rattle.json.specs.Print.{print}
use Rattle.json.specs.Token.{Token, begin_object, end_object, begin_array, end_array, key, string}
use Rattle.labels.specs.Labels.{Labels}

-- a label set: an object with a member for each label, in the order of their names
abbrev pub pair_tokens : List ℕ × List ℕ → List Token
pair_tokens pair = key pair.0 ∷ string pair.1 ∷ []

abbrev pub labels_tokens : Labels → List Token
labels_tokens labels = begin_object ∷ (flat_map pair_tokens labels ++ end_object ∷ [])

-- a text
abbrev pub text_tokens : List ℕ → List Token
text_tokens text = string text ∷ []

-- at most so many of the items, if there is a limit
abbrev pub cut_to : {A : Type 0} → Option ℕ → List A → List A
cut_to None xs = xs
cut_to (Some most) xs = take most xs

-- whether that leaves some out
abbrev pub is_cut : {A : Type 0} → Option ℕ → List A → Bool
is_cut None xs = false
is_cut (Some most) xs = nat_lt most (length xs)

-- what is said where some were left out
abbrev pub warning_tokens : Bool → List Token
warning_tokens false = []
warning_tokens true =
    key (codes "warnings") ∷ begin_array ∷ string (codes "results truncated due to limit")
    ∷ end_array ∷ []

-- the reply of success with these items
abbrev pub success_tokens : List Token → Bool → List Token
success_tokens items cut =
    begin_object ∷ key (codes "status") ∷ string (codes "success") ∷ key (codes "data")
    ∷ begin_array ∷ (items ++ end_array ∷ (warning_tokens cut ++ end_object ∷ []))

-- the text of a list of items, cut to a limit
unfoldable pub listing_text : {A : Type 0} → (A → List Token) → Option ℕ → List A → List ℕ
listing_text tokens_of limit xs =
    print (success_tokens (flat_map tokens_of (cut_to limit xs)) (is_cut limit xs))
