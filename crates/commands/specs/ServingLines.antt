-- The command line of `serve`.
use Rattle.std.specs.Prelude.{◌≡◌, ◌⊎◌, ℕ, ◌<◌, ◌^◌, List, [], length, Option, None, Some, true}
use Rattle.std.specs.Prelude.{codes, ◌-◌, ◌/◌}
use Rattle.std.specs.Prelude.{Bool, false, not, ◌&&◌, ◌==◌, is_some, map, option_map, unwrap_or}
use Rattle.std.specs.Str.Parse.{IsNumeral, without_leading_plus, digits_value}
use Rattle.clap.specs.Words.{App, Row, Rule, Text, new_app, new_rule, with_rule, one_of}
use Rattle.clap.specs.Words.{first_of, all_of}
use Rattle.clap.specs.declared.builder.action.ArgAction.TheVariants.{SetTrue}
use Rattle.clap.specs.declared.builder.value_parser.ValueParser.TheVariants.{Unsigned}
use Rattle.commands.specs.OptionRules.{directories_rule}
use Rattle.commands.specs.declared.command.Line.{Line}
use Rattle.commands.specs.declared.command.Line.TheVariants.{Serve}
use Rattle.commands.specs.declared.command.Reading.{Reading}
use Rattle.commands.specs.declared.command.Serving.{Serving}

-- an option with a number from one to another
abbrev pub count_rule : Text → ℕ → ℕ → Rule
count_rule name least most = record (new_rule name) {
  long = Some name;
  value_names = 1;
  parser = Some (Unsigned least most);
}

-- the port, which must be given
abbrev pub port_rule : Rule
port_rule = record (new_rule (codes "port")) {
  long = Some (codes "port");
  value_names = 1;
  required = true;
  parser = Some (Unsigned 0 65535);
}

-- a flag
abbrev pub flag_rule : Text → Rule
flag_rule name = record (new_rule name) { long = Some name; action = Some SetTrue }

-- an option with a text
abbrev pub text_rule : Text → Rule
text_rule name = record (new_rule name) { long = Some name; value_names = 1 }

-- the options of `serve` with a number
abbrev pub counts_app : App
counts_app =
    with_rule (with_rule (with_rule (with_rule (with_rule (with_rule (with_rule (with_rule
    (with_rule (with_rule (new_app (codes "serve")) port_rule) (count_rule (codes "workers") 1 64))
    (count_rule (codes "requests") 0 18446744073709551615))
    (count_rule (codes "idle-seconds") 0 4294967295))
    (count_rule (codes "prometheus-port") 0 65535))
    (count_rule (codes "prometheus-workers") 1 64)) (count_rule (codes "status-port") 1 65535))
    (count_rule (codes "cut-every") 1 4611686018427387903))
    (count_rule (codes "cut-after") 0 4611686018427387903))
    (count_rule (codes "journal-mb") 1 1048576)

-- serve --port P [--workers W] [--requests N] [--idle-seconds S] [--prometheus-port P]
-- [--prometheus-workers W] [--status-port P] [--cut-every MS] [--cut-after MS] [--journal-mb MB]
-- [--keep D] [--keep-gb GB] [--join-samples N] [--reply-memory MB] [--read-only] [--guard FILE]
-- [--data DIR] [--quiet] [DIR]...
abbrev pub serve_app : App
serve_app =
    with_rule (with_rule (with_rule (with_rule (with_rule (with_rule (with_rule (with_rule
    (with_rule counts_app (text_rule (codes "keep"))) (count_rule (codes "keep-gb") 1 1048576))
    (count_rule (codes "join-samples") 1 67108864)) (count_rule (codes "reply-memory") 1 1048576))
    (flag_rule (codes "read-only"))) (text_rule (codes "guard"))) (text_rule (codes "data")))
    (flag_rule (codes "quiet"))) directories_rule

-- the text is a number of 64 bits without a sign
pub record IsCount (text : List ℕ) : Type 0 where
  pub numeral : IsNumeral 10 (without_leading_plus text)
  pub fits : digits_value 10 (without_leading_plus text) < 2 ^ 64

-- the number that a text writes, and another where none does
abbrev pub IsCountIn : Option Text → ℕ → ℕ → Type 0
IsCountIn None other count = count ≡ other
IsCountIn (Some text) other count =
    (IsCount text × (count ≡ digits_value 10 (without_leading_plus text)))
    ⊎ ((IsCount text → ⊥) × (count ≡ other))

-- whether a flag is set
abbrev pub IsFlagIn : Option Text → Bool → Type 0
IsFlagIn None flag = flag ≡ false
IsFlagIn (Some text) flag =
    (text ≡ codes "true" → flag ≡ true) × (text ≡ codes "false" → flag ≡ false)

-- how the arguments of `serve` have it served
pub record IsServingIn (rows : List Row) (serving : Serving) : Type 0 where
  pub port : IsCountIn (one_of (codes "port") rows) 0 serving.port
  pub workers : IsCountIn (one_of (codes "workers") rows) 4 serving.workers
  pub requests : IsCountIn (one_of (codes "requests") rows) 18446744073709551615 serving.requests
  pub idle : IsCountIn (one_of (codes "idle-seconds") rows) 30 serving.idle_seconds
  pub prometheus_port : IsCountIn (one_of (codes "prometheus-port") rows) 0 serving.prometheus_port
  pub prometheus_workers : IsCountIn (one_of (codes "prometheus-workers") rows) 4
      serving.prometheus_workers
  pub status_port : IsCountIn (one_of (codes "status-port") rows) 0 serving.status_port
  pub cut_every : IsCountIn (one_of (codes "cut-every") rows) 0 serving.cut_every
  pub cut_after : IsCountIn (one_of (codes "cut-after") rows)
      (serving.cut_every - serving.cut_every / 2) serving.cut_after
  pub read_only : IsFlagIn (one_of (codes "read-only") rows) serving.read_only
  pub guard : option_map (λ file. file.now) serving.guard ≡ first_of (codes "guard") rows
  pub folder : option_map (λ folder. folder.now) serving.folder ≡ first_of (codes "data") rows
  pub journal : IsCountIn (one_of (codes "journal-mb") rows) 8 serving.journal_mb
  pub keep : option_map (λ span. span.now) serving.keep ≡ first_of (codes "keep") rows
  pub keep_gb : IsCountIn (one_of (codes "keep-gb") rows) 0 serving.keep_gb
  pub join_samples : IsCountIn (one_of (codes "join-samples") rows) 33554432 serving.join_samples
  pub reply_memory : IsCountIn (one_of (codes "reply-memory") rows) 0 serving.reply_memory

-- the directories that arguments name, and whether they are read quietly
pub record IsReadingIn (rows : List Row) (reading : Reading) : Type 0 where
  pub directories : map (λ directory. directory.now) reading.directories.items
      ≡ unwrap_or (all_of (codes "directories") rows) []
  pub quiet : IsFlagIn (one_of (codes "quiet") rows) reading.quiet

-- directories stand beside the folder of a store
abbrev pub has_both : Serving → Reading → Bool
has_both serving reading =
    is_some serving.folder && not (length reading.directories.items == 0)

-- no directories stand beside the folder of a store
abbrev pub IsOneStore : Serving → Reading → Type 0
IsOneStore serving reading =
    (is_some serving.folder ≡ false) ⊎ (length reading.directories.items ≡ 0)

-- arguments of `serve` ask for it to be served so, with this reading
pub record IsServeLine (rows : List Row) (serving : Serving) (reading : Reading) : Type 0 where
  pub asked : IsServingIn rows serving
  pub given : IsReadingIn rows reading
  pub one : IsOneStore serving reading

abbrev pub IsServeIn : List Row → Line → Type 0
IsServeIn rows (Serve serving reading) = IsServeLine rows serving reading
IsServeIn rows other = ⊥

-- the line of `serve` that arguments are, or that they are none
abbrev pub IsFoundServe : List Row → Option Line → Type 0
IsFoundServe rows (Some line) = IsServeIn rows line
IsFoundServe rows None = (line : Line) → IsServeIn rows line → ⊥

-- `serve` was found, to be served so, with this reading
pub record IsServe (found : Option (Text × List Row)) (serving : Serving)
    (reading : Reading) : Type 0 where
  pub rows : List Row
  pub is : found ≡ Some (codes "serve", rows)
  pub line : IsServeLine rows serving reading
