-- A compiled pattern finds a match exactly where the tree that its text is read as does.
use Rattle.std.proofs.Common.{◌≡◌, ℕ, ◌<◌, ◌≤◌, true, List, All, length, Option, None, Some, IsSomeAnd, is_some, option_map, sym, ap, refl, ◌∙◌, IsUtf8}
use Rattle.std.specs.Prelude.{option_and_then, Result, Ok, Err, IfOk, is_ok}
use Rattle.regex.specs.Patterns.{Re, find_str, default_config, SameCaptures, Reads}
use Rattle.regex_hir.specs.declared.hir.Hir.{Hir}
use Rattle.regex.specs.Strings.{regex_pattern}
use Rattle.regex.specs.declared.string.regex.Regex.{Regex}
use Rattle.regex_syntax.specs.Grammar.{Names, group_count}
use Rattle.regex_syntax.specs.Brackets.{Nested}
use Rattle.regex_syntax.proofs.CapturesLemmas.{find_str_alike}
use Rattle.regex_syntax.proofs.Written.{is_some-option_map}
use Rattle.text_choices.specs.Alternatives.{Choice, accepts, MeansPattern}
use Rattle.matchers.specs.Patterns.{tree_of, anchored, is_full_match, IsBuiltOf, FindsFullMatches}

by_read : (o : Option (Nested Re × Names)) (most : ℕ) (a : Re) (names : Names) (hay : List ℕ) → All (λ b. b < 256) hay →
    IsSomeAnd o (λ (re, found). (re.depth ≤ most) × SameCaptures a re.value × (names ≡ found) × (group_count a ≤ length names)) →
    is_some (find_str a hay 0) ≡ is_some (option_and_then (λ tree. find_str tree hay 0) (option_map (λ found. found.0.value) o))
by_read None most a names hay small p = absurd p
by_read (Some found) most a names hay small p =
    sym (is_some-option_map _ _) ∙ ap is_some (find_str_alike a found.0.value p.1 hay small 0) ∙ is_some-option_map _ _

some_read : (o : Option (Nested Re × Names)) (most : ℕ) (a : Re) (names : Names) →
    IsSomeAnd o (λ (re, found). (re.depth ≤ most) × SameCaptures a re.value × (names ≡ found) × (group_count a ≤ length names)) →
    is_some (option_map (λ found. found.0.value) o) ≡ true
some_read None most a names p = absurd p
some_read (Some found) most a names p = refl

-- a text that `regex` built something of is read
pub is_read : {r : Regex} {text : List ℕ} → IsBuiltOf r text → is_some (tree_of text) ≡ true
unfolding Reads
is_read built = some_read _ _ _ _ (rw (built.source, built.config) at built.read)

-- a text of which a tree is given is read
pub is_read_if : {P E : Type 0} (text : List ℕ) (hir : P → Hir) (names : P → Names) (r : Result P E)
    → IfOk r (λ p. Reads default_config text (hir p) (names p)) → is_ok r ≡ true
    → is_some (tree_of text) ≡ true
unfolding Reads
is_read_if text hir names (Ok p) reads given = some_read _ _ _ _ reads
is_read_if text hir names (Err e) reads given = absurd (cc given)

-- what was built of a pattern between its anchors finds its full matches
pub finds_of_built : {r : Regex} {pattern : List ℕ} → IsBuiltOf r (anchored pattern) → FindsFullMatches (regex_pattern r) pattern
unfolding Reads
finds_of_built built = record {
  agrees = λ hay small. by_read _ _ _ _ hay small (rw (built.source, built.config) at built.read);
}

-- a choice accepts just the full matches of the pattern that it is of
pub choice_agrees : (pattern value : List ℕ) (choice : Choice) → MeansPattern pattern choice
    → IsUtf8 value → accepts choice value ≡ is_full_match pattern value
choice_agrees pattern value choice means utf8 =
    sym (ap (λ o. is_some (option_and_then (λ tree. find_str tree value 0) o)) means.is_read
    ∙ means.each value utf8)
