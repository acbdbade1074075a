use Rattle.std.proofs.Common.{rules, codes, Some, ◌≡◌, ◌∙◌}
use Rattle.clap.specs.Words.{found_of, rows_of, subcommand_name_of, subcommand_rows_of}
use Rattle.commands.proofs.CommandLines.{backup_found, name_of_rows, select_found, serve_found}
use Rattle.commands.proofs.CommandLines.{journal_found}
use Rattle.commands.proofs.command.line_in.Goals as goal

pub returns : goal.returns
returns c =
    let named : subcommand_name_of c.args.found.now ≡ Some (codes "select") = search rules in
    let found = found_of c.in-Some-subcommand_matches-4.arguments.now in
    select_found (subcommand_rows_of c.args.found.now) (rows_of found) _ _ _ _
    (name_of_rows c.args.found.now ∙ named) c.in-Some-subcommand_matches-4.ensures.rows
    c.selection_in.ensures c.in_ok-reading.ensures

pub returns-in-Some-subcommand_matches : goal.returns-in-Some-subcommand_matches
returns-in-Some-subcommand_matches c =
    let named : subcommand_name_of c.args.found.now ≡ Some (codes "serve") = search rules in
    let found = found_of c.in-Some-subcommand_matches.arguments.now in
    serve_found (subcommand_rows_of c.args.found.now) (rows_of found) c.serve_line.result
    (name_of_rows c.args.found.now ∙ named) c.in-Some-subcommand_matches.ensures.rows
    c.serve_line.ensures

pub returns-in-Some-subcommand_matches-2 : goal.returns-in-Some-subcommand_matches-2
returns-in-Some-subcommand_matches-2 c =
    let named : subcommand_name_of c.args.found.now ≡ Some (codes "journal") = search rules in
    let found = found_of c.in-Some-subcommand_matches-2.arguments.now in
    journal_found (subcommand_rows_of c.args.found.now) (rows_of found) _
    (name_of_rows c.args.found.now ∙ named) c.in-Some-subcommand_matches-2.ensures.rows
    c.text_in.ensures

pub returns-in-Some-subcommand_matches-3 : goal.returns-in-Some-subcommand_matches-3
returns-in-Some-subcommand_matches-3 c =
    let named : subcommand_name_of c.args.found.now ≡ Some (codes "backup") = search rules in
    let found = found_of c.in-Some-subcommand_matches-3.arguments.now in
    backup_found (subcommand_rows_of c.args.found.now) (rows_of found) _ _
    (name_of_rows c.args.found.now ∙ named) c.in-Some-subcommand_matches-3.ensures.rows
    c.text_in-from.ensures c.text_in-out.ensures
