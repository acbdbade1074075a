-- Rules of arguments that several lines share.
use Rattle.std.specs.Prelude.{Some, codes}
use Rattle.clap.specs.Lexer.{usize_max}
use Rattle.clap.specs.Words.{Rule, new_rule}

-- the directories of `select` and `serve`, as many as there are
abbrev pub directories_rule : Rule
directories_rule = record (new_rule (codes "directories")) {
  value_names = 1;
  range = Some (record { start_inclusive = 0; end_inclusive = usize_max });
}
