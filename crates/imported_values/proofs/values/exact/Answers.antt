use Rattle.imported_values.proofs.Parts.{found_whole, found_fraction, only_whole, only_fraction}
use Rattle.imported_values.proofs.Parts.{passed_on, none_not}
use Rattle.imported_values.proofs.values.exact.Goals as goal

pub returns-in-Some-clause-found : goal.returns-in-Some-clause-found
returns-in-Some-clause-found c =
    let same = passed_on c.in-Some.n c.in-Some.ensures.bound in
    found_whole c.args.digits c.args.bits c.in-Some.n c.in-Some.ensures.found
    c.in-Some.ensures.bound c.in_parts.result (rw same at c.in_parts.ensures.found)
    c.in_parts.ensures.bound

pub returns-in-Some-clause-only : goal.returns-in-Some-clause-only
returns-in-Some-clause-only c =
    let same = passed_on c.in-Some.n c.in-Some.ensures.bound in
    only_whole c.args.digits c.args.bits c.in-Some.n c.in-Some.ensures.only
    c.in-Some.ensures.found c.in-Some.ensures.bound c.in_parts.result
    (rw same at c.in_parts.ensures.only)

pub returns-in-None-clause-found : goal.returns-in-None-clause-found
returns-in-None-clause-found c =
    found_fraction c.args.digits c.args.bits
    (λ n small whole. none_not n (c.in-None.ensures.only n small whole))
    c.decimal.result (rw c.number.ensures.is at c.decimal.ensures.found) c.decimal.ensures.bound

pub returns-in-None-clause-only : goal.returns-in-None-clause-only
returns-in-None-clause-only c =
    only_fraction c.args.digits c.args.bits c.in-None.ensures.only c.decimal.result
    (rw c.number.ensures.is at c.decimal.ensures.only)
