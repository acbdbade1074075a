-- What a writer of JSON has written since.
use Rattle.std.specs.Prelude.{◌≡◌, ℕ, Bool, List, [], ◌∷◌, ◌++◌, codes}
use Rattle.json.specs.Token.{Token, begin_object, end_object, begin_array, end_array, key, string}
use Rattle.json.specs.Written.{Written}
use Rattle.remote_listings.specs.Texts.{warning_tokens}

-- these tokens more, and what stood before them stays
pub record Adds (old new : Written) (more : List Token) : Type 0 where
  pub before : new.before ≡ old.before
  pub tokens : new.tokens ≡ old.tokens ++ more

-- the tokens of a status of success, and of a list's begin
abbrev pub status_tokens : List Token
status_tokens = begin_object ∷ key (codes "status") ∷ string (codes "success") ∷ []

abbrev pub list_tokens : List ℕ → List Token
list_tokens name = key name ∷ begin_array ∷ []

-- the last text of a list, and its end
abbrev pub last_tokens : List ℕ → List Token
last_tokens text = string text ∷ end_array ∷ []

-- what stands before the items of a reply of success
abbrev pub front_tokens : List Token
front_tokens =
    begin_object ∷ key (codes "status") ∷ string (codes "success") ∷ key (codes "data")
    ∷ begin_array ∷ []

-- what stands behind them
abbrev pub back_tokens : Bool → List Token
back_tokens cut = end_array ∷ (warning_tokens cut ++ end_object ∷ [])
