use Rattle.std.proofs.Common.{◌≡◌, ◌++◌, length}
use Rattle.page_text.specs.Printing.{with_commas}
use Rattle.page_text.proofs.numbers.append_digits.Given as goal

abbrev pub invariant-loop-digit : goal.invariant-loop-digit
invariant-loop-digit l =
    l.out.items ++ with_commas l.rest ≡ l.fn.out.items ++ with_commas l.digits

abbrev pub decreases-loop-digit : goal.decreases-loop-digit
decreases-loop-digit l = length l.rest
