-- Patterns that are a choice of texts with dots, as `host0.a:9100|host1.a:9100`: how they are
-- spelled, and what they accept.
use Rattle.std.specs.Prelude.{◌≡◌, ℕ, Bool, true, false, not, ◌&&◌, ◌||◌, ◌==◌, List, [], ◌∷◌, ◌++◌}
use Rattle.std.specs.Prelude.{Option, None, Some, option_map, if◌then◌else◌, chars, codes, is_some}
use Rattle.std.specs.List.{list_any}
use Rattle.std.specs.Char.{is_ascii, is_ascii_alphanumeric}
use Rattle.std.specs.Str.{IsUtf8}
use Rattle.regex.specs.Patterns.{Re, find_str, default_config}
use Rattle.regex_syntax.specs.Grammar.{read}
use Rattle.text_choices.specs.declared.atom.Atom.{Atom}
use Rattle.text_choices.specs.declared.atom.Atom.TheVariants.{Char, Any}
use Rattle.text_choices.specs.declared.reading.Place.{Place}
use Rattle.text_choices.specs.declared.reading.Place.TheVariants.{Inside, Escaped, Closed}
use Rattle.text_choices.specs.declared.reading.Step.{Step}
use Rattle.text_choices.specs.declared.reading.Step.TheVariants.{Refuse, Goes, Bar, Put}

-- a choice: its alternatives, each the atoms of a text
abbrev pub Choice : Type 0
Choice = List (List Atom)

-- whether an atom stands for a character
abbrev pub takes : Atom → ℕ → Bool
takes (Char d) c = c == d
takes Any c = true

-- whether the atoms stand for these characters, one for one
abbrev pub fits : List Atom → List ℕ → Bool
fits [] [] = true
fits [] (c ∷ cs) = false
fits (a ∷ atoms) [] = false
fits (a ∷ atoms) (c ∷ cs) = takes a c && fits atoms cs

-- whether an alternative stands for the whole value, a dot for one whole character of it
abbrev pub accepts : Choice → List ℕ → Bool
accepts choice value = list_any (λ atoms. fits atoms (chars value)) choice

-- whether a character has a meaning of its own in a pattern: \ . + * ? ( ) | [ ] { } ^ $
abbrev pub has_meaning : ℕ → Bool
has_meaning c =
    c == 92 || c == 46 || c == 43 || c == 42 || c == 63 || c == 40 || c == 41 || c == 124
    || c == 91 || c == 93 || c == 123 || c == 125 || c == 94 || c == 36

-- whether a backslash before the character makes it stand for itself: ASCII, no letter, no digit,
-- and neither < nor >
abbrev pub is_mark : ℕ → Bool
is_mark c = (is_ascii c && not (is_ascii_alphanumeric c)) && (not (c == 60) && not (c == 62))

-- what a character of a pattern is, at a place inside the parentheses or where there are none
abbrev pub step : Bool → Place → ℕ → Step
step grouped Inside c =
    if c == 92 then Goes Escaped
    else if c == 124 then Bar
    else if c == 46 then Put Any
    else if c == 41 then (if grouped then Goes Closed else Refuse)
    else if has_meaning c then Refuse
    else Put (Char c)
step grouped Escaped c = if is_mark c then Put (Char c) else Refuse
step grouped Closed c = Refuse

-- whether a pattern may end at a place
abbrev pub may_end : Bool → Place → Bool
may_end grouped Inside = not grouped
may_end grouped Escaped = false
may_end grouped Closed = true

-- an atom before those of the first alternative
abbrev pub before : Atom → Choice → Choice
before a [] = []
before a (atoms ∷ others) = (a ∷ atoms) ∷ others

-- what the rest of a pattern spells
abbrev pub spelled_from : Bool → Place → List ℕ → Option Choice
spelled_from grouped place [] = if may_end grouped place then Some ([] ∷ []) else None
spelled_from grouped place (c ∷ rest) = elim (step grouped place c) [
  | Refuse ↦ None
  | Goes next ↦ spelled_from grouped next rest
  | Bar ↦ option_map (λ choice. [] ∷ choice) (spelled_from grouped Inside rest)
  | Put a ↦ option_map (before a) (spelled_from grouped Inside rest)
]

-- the choice that the characters of a pattern spell, if they spell one
abbrev pub spelled : List ℕ → Option Choice
spelled [] = spelled_from false Inside []
spelled (c ∷ rest) =
    if c == 40 then spelled_from true Inside rest else spelled_from false Inside (c ∷ rest)

-- the choice of a pattern, if it is one
abbrev pub choice_of : List ℕ → Option Choice
choice_of pattern = spelled (chars pattern)

-- the pattern between its anchors: ^(?s:pattern)$
abbrev pub anchored : List ℕ → List ℕ
anchored pattern = codes "^(?s:" ++ (pattern ++ codes ")$")

-- what `regex` reads there, by its default options
abbrev pub tree_between : List ℕ → Option Re
tree_between pattern =
    option_map (λ found. found.0.value) (read default_config (chars (anchored pattern)))

-- `regex` reads the pattern between its anchors, and finds just the values that the choice accepts
pub record MeansPattern (pattern : List ℕ) (choice : Choice) : Type 0 where
  pub tree : Re
  pub is_read : tree_between pattern ≡ Some tree
  pub each : (value : List ℕ) → IsUtf8 value
      → is_some (find_str tree value 0) ≡ accepts choice value
