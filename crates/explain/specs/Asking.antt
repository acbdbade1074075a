-- The command line: what `clap` reads from the words, and what that asks for.
use Rattle.std.specs.Prelude.{◌≡◌, Bool, true, false, List, [], Option, Some, codes, option_map}
use Rattle.clap.specs.Words.{App, Row, Rule, Text, new_app, new_rule, with_rule, first_of}
use Rattle.clap.specs.Words.{one_of, matches_of, fault_of}
use Rattle.clap.specs.declared.builder.action.ArgAction.TheVariants.{SetTrue}
use Rattle.audit_command.specs.Asking as audits
use Rattle.explain.specs.declared.command.Asked.{Asked}

-- the series that somebody asks about
abbrev pub about_rule : Rule
about_rule = record (new_rule (codes "about")) {
  long = Some (codes "about");
  value_names = 1;
}

-- the flag of a text for a terminal
abbrev pub text_rule : Rule
text_rule = record (new_rule (codes "text")) {
  long = Some (codes "text");
  action = Some SetTrue;
}

-- the option of what values mean
abbrev pub values_rule : Rule
values_rule = record (new_rule (codes "values")) {
  long = Some (codes "values");
  value_names = 1;
}

-- the option of the folder of a store
abbrev pub store_rule : Rule
store_rule = record (new_rule (codes "store")) {
  long = Some (codes "store");
  value_names = 1;
}

-- the program's name, which the words do not begin with
abbrev pub named_app : App
named_app =
    let app = new_app (codes "explain") in
    record app { top = record app.top { has_version = true; no_binary_name = true } }

-- --selector S [--from N] [--to N] [DIR]... [--about SERIES] [--text] [--values doubles]
-- [--store DIR]
abbrev pub explain_app : App
explain_app =
    with_rule (with_rule (with_rule (with_rule (audits.with_arguments named_app) about_rule)
    text_rule) values_rule) store_rule

-- `clap` takes the words: it finds no fault in them
abbrev pub AreTaken : List Text → Type 0
AreTaken words = fault_of explain_app words ≡ []

-- whether a flag was used, which `clap` tells by a text
pub record IsFlagIn (given : Option Text) (flag : Bool) : Type 0 where
  pub used : given ≡ Some (codes "true") → flag ≡ true
  pub unused : given ≡ Some (codes "false") → flag ≡ false

-- what the arguments give
pub record IsAskedIn (rows : List Row) (asked : Asked) : Type 0 where
  pub audit : audits.IsAskedIn rows asked.audit
  pub about : option_map (λ text. text.now) asked.about ≡ first_of (codes "about") rows
  pub text : IsFlagIn (one_of (codes "text") rows) asked.text
  pub values : option_map (λ text. text.now) asked.values ≡ first_of (codes "values") rows
  pub store : option_map (λ text. text.now) asked.store ≡ first_of (codes "store") rows

-- what the words ask for, as `clap` reads them
abbrev pub IsAskedBy : List Text → Asked → Type 0
IsAskedBy words asked = IsAskedIn (matches_of explain_app words) asked
