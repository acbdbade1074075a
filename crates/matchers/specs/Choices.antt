-- Patterns that are a choice of plain texts, as `a|b|c`.
use Rattle.std.specs.Prelude.{◌≡◌, ◌↔◌, ℕ, Bool, true, not, ◌&&◌, ◌||◌, ◌==◌, nat_lt, List, length}
use Rattle.std.specs.List.{list_all, slice_split, Contains}
use Rattle.matchers.specs.Patterns.{is_full_match}

-- whether a byte has a meaning of its own in a pattern: \ . + * ? ( ) | [ ] { } ^ $
abbrev pub has_meaning : ℕ → Bool
has_meaning c =
    c == 92 || c == 46 || c == 43 || c == 42 || c == 63 || c == 40 || c == 41 || c == 124
    || c == 91 || c == 93 || c == 123 || c == 125 || c == 94 || c == 36

-- whether a byte is a character that stands for itself in a pattern
abbrev pub is_plain : ℕ → Bool
is_plain c = nat_lt c 128 && not (has_meaning c)

-- whether a text is not empty, and each of its bytes stands for itself
abbrev pub is_plain_text : List ℕ → Bool
is_plain_text text = not (length text == 0) && list_all is_plain text

-- the texts between the bars of a pattern
abbrev pub between_bars : List ℕ → List (List ℕ)
between_bars pattern = slice_split (λ b. b == 124) pattern

-- whether a pattern is a choice of plain texts
abbrev pub is_choice : List ℕ → Bool
is_choice pattern = list_all is_plain_text (between_bars pattern)

-- the values that match a pattern from the first byte to the last are these texts
pub record AreFullMatches (pattern : List ℕ) (texts : List (List ℕ)) : Type 0 where
  pub each : (value : List ℕ) → (is_full_match pattern value ≡ true) ↔ Contains texts value
