-- What a pattern accepts: the values that it matches from the first byte to the last.
use Rattle.std.specs.Prelude.{◌≡◌, ◌≢◌, ◌⊎◌, ℕ, ◌<◌, ◌≤◌, Bool, true, List, All, ◌++◌, length}
use Rattle.std.specs.Prelude.{Option, codes, is_some, option_map, option_and_then, chars}
use Rattle.regex.specs.Patterns.{Re, find_str, default_config}
use Rattle.regex.specs.declared.string.regex.Regex.{Regex}
use Rattle.regex_syntax.specs.Grammar.{read}
use Rattle.regex.specs.Strings.{regex_source, regex_config, IsReadFromSource, IsDefaultFailure}
use Rattle.regex.specs.declared.error.Error.{Error}
use Rattle.regex.specs.declared.error.Error.TheVariants.{Internal, OutOfMemory}

-- the pattern between its anchors: ^(?s:pattern)$
abbrev pub anchored : List ℕ → List ℕ
anchored pattern = codes "^(?s:" ++ (pattern ++ codes ")$")

-- what `regex` reads in a text, by its default options
abbrev pub tree_of : List ℕ → Option Re
tree_of text = option_map (λ found. found.0.value) (read default_config (chars text))

-- whether `regex` finds a match of ^(?s:pattern)$ in the value
abbrev pub is_full_match : List ℕ → List ℕ → Bool
is_full_match pattern value =
    is_some (option_and_then (λ tree. find_str tree value 0) (tree_of (anchored pattern)))

-- `regex` reads the text both alone and between its anchors
pub record IsRead (text : List ℕ) : Type 0 where
  pub alone : is_some (tree_of text) ≡ true
  pub anchored : is_some (tree_of (anchored text)) ≡ true

-- a pattern: a text of at most 256 bytes that `regex` reads so
pub record IsPattern (pattern : List ℕ) : Type 0 where
  pub short : length pattern ≤ 256
  pub read : IsRead pattern

-- `regex` may refuse the text for its syntax, or as too big a pattern
abbrev pub IsRefused : List ℕ → Type 0
IsRefused text = (e : Error) × IsDefaultFailure text e × (e ≢ OutOfMemory) × (e ≢ Internal)

-- a search for this tree finds something exactly in the full matches of the pattern
pub record FindsFullMatches (tree : Re) (pattern : List ℕ) : Type 0 where
  pub agrees : (value : List ℕ) → All (λ b. b < 256) value
      → is_some (find_str tree value 0) ≡ is_full_match pattern value

-- what `regex` built of the text, by its default options
pub record IsBuiltOf (regex : Regex) (text : List ℕ) : Type 0 where
  pub source : regex_source regex ≡ text
  pub config : regex_config regex ≡ default_config
  pub read : IsReadFromSource regex

-- a pattern of at most 256 bytes that `regex` may refuse so, alone or between its anchors
pub record IsRefusedPattern (pattern : List ℕ) : Type 0 where
  pub short : length pattern ≤ 256
  pub one : IsRefused pattern ⊎ IsRefused (anchored pattern)
