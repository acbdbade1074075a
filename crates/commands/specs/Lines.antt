-- The command line: what `clap` reads from the words, and what that asks for.
use Rattle.std.specs.Prelude.{◌≡◌, ◌⊎◌, ℕ, ℤ, pos, negsuc, true, FitsSigned, List, [], map, Option}
use Rattle.std.specs.Prelude.{None, Some, codes, option_map, unwrap_or, string_bytes}
use Rattle.std.specs.Int.{w64}
use Rattle.std.specs.declared.string.String.{String}
use Rattle.std.specs.Str.Parse.{IsNumeral, without_leading_sign, signed_digits_value}
use Rattle.labels.specs.declared.sample.TheConstants.{MIN_TIME, MAX_TIME}
use Rattle.clap.specs.Lexer.{usize_max}
use Rattle.clap.specs.Words.{App, Row, Rule, Text, new_app, new_rule, with_rule, with_subcommand}
use Rattle.clap.specs.Words.{first_of, one_of, subcommand_of, takes, fault_of}
use Rattle.clap.specs.declared.builder.value_parser.ValueParser.TheVariants.{Signed}
use Rattle.clap.specs.declared.error.kind.ErrorKind.{ErrorKind}
use Rattle.clap.specs.declared.error.kind.ErrorKind.TheVariants.{MissingSubcommand}
use Rattle.clap.specs.declared.error.kind.ErrorKind.TheVariants.{ArgumentConflict}
use Rattle.commands.specs.OptionRules.{directories_rule}
use Rattle.commands.specs.ServingLines.{flag_rule, serve_app, IsReadingIn, IsServe}
use Rattle.commands.specs.declared.command.Reading.{Reading}
use Rattle.commands.specs.declared.command.Line.{Line}
use Rattle.commands.specs.declared.command.Line.TheVariants.{Demo, Select, Check, Serve, Journal}
use Rattle.commands.specs.declared.command.Line.TheVariants.{Backup}

-- words as bytes
abbrev pub texts_of : {Z : Type 0} → List (String Z) → List Text
texts_of words = map (λ word. string_bytes word) words

-- an option with a signed number of 64 bits
abbrev pub time_rule : Text → Rule
time_rule name = record (new_rule name) {
  long = Some name;
  value_names = 1;
  parser = Some (Signed (negsuc 9223372036854775807) (pos 9223372036854775807));
}

-- the selector, which must stand there
abbrev pub selector_rule : Rule
selector_rule = record (new_rule (codes "selector")) { value_names = 1; required = true }

-- select [--from N] [--to N] [--quiet] SELECTOR [DIR]...
abbrev pub select_app : App
select_app =
    with_rule (with_rule (with_rule (with_rule (with_rule (new_app (codes "select"))
    (time_rule (codes "from"))) (time_rule (codes "to"))) (flag_rule (codes "quiet")))
    selector_rule) directories_rule

-- the directories of `check`, one or more
abbrev pub blocks_rule : Rule
blocks_rule = record (new_rule (codes "directories")) {
  value_names = 1;
  required = true;
  range = Some (record { start_inclusive = 1; end_inclusive = usize_max });
}

-- check [--quiet] DIR...
abbrev pub check_app : App
check_app =
    with_rule (with_rule (new_app (codes "check")) (flag_rule (codes "quiet"))) blocks_rule

-- a path that must be given
abbrev pub path_rule : Text → Rule
path_rule name = record (new_rule name) { value_names = 1; required = true }

-- journal PATH
abbrev pub journal_app : App
journal_app = with_rule (new_app (codes "journal")) (path_rule (codes "path"))

-- backup DIR OUT
abbrev pub backup_app : App
backup_app =
    with_rule (with_rule (new_app (codes "backup")) (path_rule (codes "data")))
    (path_rule (codes "out"))

-- the program, without its subcommands
abbrev pub named_app : App
named_app =
    let app = new_app (codes "querier") in
    record app {
      top = record app.top {
        has_version = true;
        subcommand_required = true;
        no_binary_name = true;
      };
    }

-- the program, with `demo`, `check`, `select`, `serve`, `journal` and `backup`
abbrev pub querier_app : App
querier_app =
    with_subcommand (with_subcommand (with_subcommand (with_subcommand (with_subcommand
    (with_subcommand named_app (new_app (codes "demo")).top) check_app.top) select_app.top)
    serve_app.top) journal_app.top) backup_app.top

-- the text is a signed number of 64 bits
pub record IsNumber (text : List ℕ) : Type 0 where
  pub numeral : IsNumeral 10 (without_leading_sign text)
  pub fits : FitsSigned w64 (signed_digits_value 10 text)

-- the time that a text writes, and another where none does
abbrev pub IsTimeIn : Option Text → ℤ → ℤ → Type 0
IsTimeIn None other time = time ≡ other
IsTimeIn (Some text) other time =
    (IsNumber text × (time ≡ signed_digits_value 10 text)) ⊎ ((IsNumber text → ⊥) × (time ≡ other))

-- the selector and the range that the arguments of `select` give; the greatest range is the one of
-- no option
pub record IsSelectionIn (rows : List Row) (text : List ℕ) (from to : ℤ) : Type 0 where
  pub selector : text ≡ unwrap_or (first_of (codes "selector") rows) []
  pub first : IsTimeIn (one_of (codes "from") rows) MIN_TIME from
  pub last : IsTimeIn (one_of (codes "to") rows) MAX_TIME to

-- `demo` was found
pub record IsDemo (found : Option (Text × List Row)) : Type 0 where
  pub rows : List Row
  pub is : found ≡ Some (codes "demo", rows)

-- `select` was found, with this selection and this reading
pub record IsSelect (found : Option (Text × List Row)) (text : List ℕ) (from to : ℤ)
    (reading : Reading) : Type 0 where
  pub rows : List Row
  pub is : found ≡ Some (codes "select", rows)
  pub selection : IsSelectionIn rows text from to
  pub given : IsReadingIn rows reading

-- `check` was found, with this reading
pub record IsCheck (found : Option (Text × List Row)) (reading : Reading) : Type 0 where
  pub rows : List Row
  pub is : found ≡ Some (codes "check", rows)
  pub given : IsReadingIn rows reading

-- `journal` was found, with this path
pub record IsJournal (found : Option (Text × List Row)) (path : List ℕ) : Type 0 where
  pub rows : List Row
  pub is : found ≡ Some (codes "journal", rows)
  pub given : path ≡ unwrap_or (first_of (codes "path") rows) []

-- `backup` was found, with these paths
pub record IsBackup (found : Option (Text × List Row)) (from out : List ℕ) : Type 0 where
  pub rows : List Row
  pub is : found ≡ Some (codes "backup", rows)
  pub source : from ≡ unwrap_or (first_of (codes "data") rows) []
  pub target : out ≡ unwrap_or (first_of (codes "out") rows) []

-- what a found subcommand asks for
abbrev pub IsLineIn : Option (Text × List Row) → Line → Type 0
IsLineIn found Demo = IsDemo found
IsLineIn found (Select s reading) = IsSelect found s.selector.now s.from s.to reading
IsLineIn found (Check reading) = IsCheck found reading
IsLineIn found (Serve serving reading) = IsServe found serving reading
IsLineIn found (Journal path) = IsJournal found path.now
IsLineIn found (Backup from out) = IsBackup found from.now out.now

-- the line that a found subcommand asks for, or that it asks for none
abbrev pub IsFoundLine : Option (Text × List Row) → Option Line → Type 0
IsFoundLine found (Some line) = IsLineIn found line
IsFoundLine found None = (line : Line) → IsLineIn found line → ⊥

-- what the words ask for, as `clap` reads them
abbrev pub IsLineOf : List Text → Line → Type 0
IsLineOf words line = IsLineIn (subcommand_of querier_app words) line

-- `clap` takes the words
abbrev pub AreTakenByClap : List Text → Type 0
AreTakenByClap words = takes querier_app words ≡ true

-- `clap` refuses the words: it finds that they ask for help or for the version, or a fault of them
abbrev pub AreRefusedByClap : List Text → Type 0
AreRefusedByClap words = fault_of querier_app words ≡ [] → ⊥

-- the words are no line
abbrev pub AreNoCommandLine : List Text → Type 0
AreNoCommandLine words = (line : Line) → IsLineOf words line → ⊥

-- the kind of the fault of words that are no line: for `serve`, that directories stand beside the
-- folder of a store, and else that there is no subcommand
abbrev pub IsKindFor : Option (Text × List Row) → ErrorKind → Type 0
IsKindFor found kind =
    ((kind ≡ MissingSubcommand) × (option_map (λ p. p.0) found ≡ Some (codes "serve") → ⊥))
    ⊎ ((kind ≡ ArgumentConflict) × (option_map (λ p. p.0) found ≡ Some (codes "serve")))

-- the fault of words that `clap` takes, and that are no line
pub record IsLineFault (words : List Text) (kind : ErrorKind) : Type 0 where
  pub no_line : AreNoCommandLine words
  pub by_kind : IsKindFor (subcommand_of querier_app words) kind
