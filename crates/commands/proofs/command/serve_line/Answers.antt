use Rattle.std.proofs.Common.{length, sym, ◌∙◌}
use Rattle.std.specs.Prelude.{is_some}
use Rattle.clap.specs.Words.{found_of, rows_of}
use Rattle.commands.proofs.CommandLines.{both_denied, both_stand, one_stands}
use Rattle.commands.proofs.command.serve_line.Goals as goal

pub returns-then-has_both : goal.returns-then-has_both
returns-then-has_both c =
    let serving = c.serving_in-serving.result in
    let reading = c.in_ok-reading.reading in
    let both =
    both_stand (is_some serving.folder) (length reading.directories.items)
    (sym c.has_both.ensures ∙ c.if-has_both.true) in
    both_denied (rows_of (found_of c.args.found.now)) serving reading c.serving_in-serving.ensures
    c.in_ok-reading.ensures both.0 both.1

pub returns : goal.returns
returns c =
    let serving = c.serving_in-serving.result in
    let reading = c.in_ok-reading.reading in
    record {
      asked = c.serving_in-serving.ensures;
      given = c.in_ok-reading.ensures;
      one =
          one_stands (is_some serving.folder) (length reading.directories.items)
          (sym c.has_both.ensures ∙ c.if-has_both.false);
    }
