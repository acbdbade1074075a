use Rattle.std.proofs.Common.{◌≡◌, ◌++◌, drop, string_bytes}
use Rattle.store_command.specs.Printing.{lines_text}
use Rattle.store_command.proofs.report.lines_text.Given as goal

abbrev pub invariant-loop-line : goal.invariant-loop-line
invariant-loop-line l =
    lines_text l.lines ≡ string_bytes l.text ++ lines_text (drop l.line-index l.lines)
