use Rattle.std.proofs.Common.{◌≡◌, drop}
use Rattle.audit_command.specs.Auditing.{has_fault}
use Rattle.audit_command.proofs.report.has_fault.Given as goal

abbrev pub invariant-loop-line : goal.invariant-loop-line
invariant-loop-line l = has_fault l.lines ≡ has_fault (drop l.line-index l.lines)
