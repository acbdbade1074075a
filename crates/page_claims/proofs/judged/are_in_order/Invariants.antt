use Rattle.std.proofs.Common.{◌≡◌, ◌-◌}
use Rattle.page_claims.specs.Judging.{same_names, names_from}
use Rattle.page_claims.proofs.judged.are_in_order.Given as goal

abbrev pub invariant-loop-number : goal.invariant-loop-number
invariant-loop-number l =
    same_names l.names (names_from 0 l.blocks)
    ≡ same_names l.rest (names_from l.number (l.blocks - l.number))
