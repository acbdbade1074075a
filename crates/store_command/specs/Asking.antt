-- The command line: what words want of a store, what `clap` reads from them, and what that asks
-- for.
use Rattle.std.specs.Prelude.{◌≡◌, ◌⊎◌, Bool, true, false, List, [], ◌∷◌, Option, None, Some}
use Rattle.std.specs.Prelude.{codes, is_some, option_map, unwrap_or, if◌then◌else◌, ◌||◌, ◌==◌}
use Rattle.std.specs.List.{before_first}
use Rattle.std.specs.Str.{bytes_eq}
use Rattle.clap.specs.Words.{App, Row, Rule, Text, new_rule, with_rule, first_of, matches_of}
use Rattle.clap.specs.Words.{fault_of}
use Rattle.clap.specs.declared.builder.action.ArgAction.TheVariants.{SetTrue}
use Rattle.audit_command.specs.Asking as audits
use Rattle.store_command.specs.declared.command.Aim.{Aim}
use Rattle.store_command.specs.declared.command.Aim.TheVariants as aims
use Rattle.store_command.specs.declared.command.Asked.{Asked}
use Rattle.store_command.specs.declared.command.Task.{Task}
use Rattle.store_command.specs.declared.command.Task.TheVariants as tasks

-- the option that a word names: what stands before =, or all of it, as --store of --store=DIR
abbrev pub option_in : Text → Text
option_in word = before_first (λ b. b == 61) word

-- whether the option of this name is among the words before --
abbrev pub has_option : Text → List Text → Bool
has_option name [] = false
has_option name (word ∷ words) =
    if bytes_eq word (codes "--") then false
    else (bytes_eq (option_in word) name || has_option name words)

-- what words want of a store: its mark, if --mark is among them; else that a reply is judged over
-- it, if --store is; else they name none
abbrev pub aim_of : List Text → Option Aim
aim_of words =
    if has_option (codes "--mark") words then Some aims.Mark
    else if has_option (codes "--store") words then Some aims.Audit
    else None

-- a store is named, or directories, or neither
abbrev pub NamesOne : Option Text → List Text → Type 0
NamesOne store directories = (store ≡ None) ⊎ (directories ≡ [])

-- a store is named, and directories too
abbrev pub NamesBoth : Option Text → List Text → Type 0
NamesBoth store directories = (is_some store ≡ true) × (directories ≡ [] → ⊥)

-- the folder of the store, which must stand there
abbrev pub store_rule : Rule
store_rule = record (new_rule (codes "store")) {
  long = Some (codes "store");
  value_names = 1;
  required = true;
}

-- the option of a mark
abbrev pub since_rule : Rule
since_rule = record (new_rule (codes "since")) {
  long = Some (codes "since");
  value_names = 1;
}

-- the flag that asks for the mark
abbrev pub mark_rule : Rule
mark_rule = record (new_rule (codes "mark")) {
  long = Some (codes "mark");
  action = Some SetTrue;
}

-- --selector S [--from N] [--to N] --store DIR [--since MARK]
abbrev pub audit_app : App
audit_app = with_rule (with_rule (audits.with_query audits.named_app) store_rule) since_rule

-- --store DIR --mark
abbrev pub mark_app : App
mark_app = with_rule (with_rule audits.named_app store_rule) mark_rule

abbrev pub app_for : Aim → App
app_for aims.Audit = audit_app
app_for aims.Mark = mark_app

-- `clap` takes the words: it finds no fault in them
abbrev pub AreTaken : Aim → List Text → Type 0
AreTaken aim words = fault_of (app_for aim) words ≡ []

-- what the arguments give of an audit
pub record IsAskedIn (rows : List Row) (asked : Asked) : Type 0 where
  pub audit : audits.IsAskedIn rows asked.audit
  pub store : asked.store.now ≡ unwrap_or (first_of (codes "store") rows) []
  pub since : option_map (λ text. text.now) asked.since ≡ first_of (codes "since") rows

-- what the arguments ask for
abbrev pub IsTaskIn : Aim → List Row → Task → Type 0
IsTaskIn aims.Audit rows (tasks.Audit asked) = IsAskedIn rows asked
IsTaskIn aims.Audit rows (tasks.Mark folder) = ⊥
IsTaskIn aims.Mark rows (tasks.Audit asked) = ⊥
IsTaskIn aims.Mark rows (tasks.Mark folder) =
    folder.now ≡ unwrap_or (first_of (codes "store") rows) []

-- what the words ask for, as `clap` reads them
abbrev pub IsTaskBy : Aim → List Text → Task → Type 0
IsTaskBy aim words task = IsTaskIn aim (matches_of (app_for aim) words) task
