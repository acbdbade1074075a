-- The command line: what `clap` reads from the words, and what that asks for.
use Rattle.std.specs.Prelude.{◌≡◌, ◌⊎◌, ℕ, ℤ, pos, negsuc, true, FitsSigned, List, [], map, Option}
use Rattle.std.specs.Prelude.{None, Some, codes, unwrap_or, string_bytes}
use Rattle.std.specs.Int.{w64}
use Rattle.std.specs.declared.string.String.{String}
use Rattle.std.specs.Str.Parse.{IsNumeral, without_leading_sign, signed_digits_value}
use Rattle.labels.specs.declared.sample.TheConstants.{MIN_TIME, MAX_TIME}
use Rattle.clap.specs.Lexer.{usize_max}
use Rattle.clap.specs.Words.{App, Row, Rule, Text, new_app, new_rule, with_rule, first_of, one_of}
use Rattle.clap.specs.Words.{all_of, matches_of, fault_of}
use Rattle.clap.specs.declared.builder.value_parser.ValueParser.TheVariants.{Signed}
use Rattle.audit_command.specs.declared.command.Asked.{Asked}

-- words as bytes
abbrev pub texts_of : {Z : Type 0} → List (String Z) → List Text
texts_of words = map (λ word. string_bytes word) words

-- the selector, which must stand there
abbrev pub selector_rule : Rule
selector_rule = record (new_rule (codes "selector")) {
  long = Some (codes "selector");
  value_names = 1;
  required = true;
}

-- an option with a signed number of 64 bits
abbrev pub time_rule : Text → Rule
time_rule name = record (new_rule name) {
  long = Some name;
  value_names = 1;
  parser = Some (Signed (negsuc 9223372036854775807) (pos 9223372036854775807));
}

-- the directories, as many as there are
abbrev pub directories_rule : Rule
directories_rule = record (new_rule (codes "directories")) {
  value_names = 1;
  range = Some (record { start_inclusive = 0; end_inclusive = usize_max });
}

-- the program's name, which the words do not begin with
abbrev pub named_app : App
named_app =
    let app = new_app (codes "auditor") in
    record app { top = record app.top { has_version = true; no_binary_name = true } }

-- what a query is asked by, added to an app: --selector S [--from N] [--to N]
abbrev pub with_query : App → App
with_query app =
    with_rule (with_rule (with_rule app selector_rule) (time_rule (codes "from")))
    (time_rule (codes "to"))

-- what an audit is asked by, added to an app: --selector S [--from N] [--to N] [DIR]...
abbrev pub with_arguments : App → App
with_arguments app = with_rule (with_query app) directories_rule

-- --selector S [--from N] [--to N] [DIR]...
abbrev pub auditor_app : App
auditor_app = with_arguments named_app

-- `clap` takes the words: it finds no fault in them
abbrev pub AreTaken : List Text → Type 0
AreTaken words = fault_of auditor_app words ≡ []

-- the text is a signed number of 64 bits
pub record IsNumber (text : List ℕ) : Type 0 where
  pub numeral : IsNumeral 10 (without_leading_sign text)
  pub fits : FitsSigned w64 (signed_digits_value 10 text)

-- the time that a text writes, and another where none does
abbrev pub IsTimeIn : Option Text → ℤ → ℤ → Type 0
IsTimeIn None other time = time ≡ other
IsTimeIn (Some text) other time =
    (IsNumber text × (time ≡ signed_digits_value 10 text)) ⊎ ((IsNumber text → ⊥) × (time ≡ other))

-- directories as bytes
abbrev pub directories_of : Asked → List Text
directories_of asked = map (λ directory. directory.now) asked.directories.items

-- what the arguments give; the greatest range is the one of no option
pub record IsAskedIn (rows : List Row) (asked : Asked) : Type 0 where
  pub selector : asked.selector.now ≡ unwrap_or (first_of (codes "selector") rows) []
  pub first : IsTimeIn (one_of (codes "from") rows) MIN_TIME asked.from
  pub last : IsTimeIn (one_of (codes "to") rows) MAX_TIME asked.to
  pub directories : directories_of asked ≡ unwrap_or (all_of (codes "directories") rows) []

-- what the words ask for, as `clap` reads them
abbrev pub IsAskedBy : List Text → Asked → Type 0
IsAskedBy words asked = IsAskedIn (matches_of auditor_app words) asked
