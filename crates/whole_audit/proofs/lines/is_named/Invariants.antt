use Rattle.std.proofs.Common.{◌≡◌, drop}
use Rattle.auditor.specs.Judgements.{is_named}
use Rattle.whole_audit.proofs.lines.is_named.Given as goal

abbrev pub invariant-loop-part : goal.invariant-loop-part
invariant-loop-part l = is_named l.parts l.number ≡ is_named (drop l.part-index l.parts) l.number
