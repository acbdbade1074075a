use Rattle.std.proofs.Common.{◌≡◌, ◌++◌, drop}
use Rattle.store_command.specs.Printing.{refused_lines}
use Rattle.store_command.proofs.report.refused_lines.Given as goal

abbrev pub invariant-loop-number : goal.invariant-loop-number
invariant-loop-number l =
    refused_lines 0 l.tables
    ≡ l.lines.items ++ refused_lines l.number (drop l.number l.tables)
