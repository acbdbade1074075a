-- What is written by number, by what it stands for.
use Rattle.std.specs.Prelude.{◌≡◌, ◌++◌, ℕ, List, Ok}
use Rattle.numbered_text.specs.Each.{Reader}

-- bytes in front, and a text that stands for them, whatever follows it
pub record StandsFor {S : Type 0} (at : Reader S) (s after : S) (bytes rest text : List ℕ)
    : Type 0 where
  pub front : List ℕ
  pub parts : bytes ≡ front ++ rest
  pub again : (more : List ℕ) → at s (text ++ more) ≡ Ok ((front, after), more)

-- such a text was appended
abbrev pub Writes : {S : Type 0} → Reader S → S → S → List ℕ → List ℕ → List ℕ → List ℕ → Type 0
Writes at s after bytes rest old new =
    (text : List ℕ) × (new ≡ old ++ text) × StandsFor at s after bytes rest text
