use Rattle.std.proofs.Common.{◌≡◌, drop}
use Rattle.page.specs.Places.{first_fault}
use Rattle.page.proofs.said.first_fault.Given as goal

abbrev pub invariant-loop-line : goal.invariant-loop-line
invariant-loop-line l =
    first_fault l.lines l.name ≡ first_fault (drop l.line-index l.lines) l.name
