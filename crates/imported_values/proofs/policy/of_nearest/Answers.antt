use Rattle.std.proofs.Common.{ℤ, ap, sym, subst, ◌∙◌}
use Rattle.imported_values.specs.declared.policy.Verdict.TheVariants.{Rounded}
use Rattle.imported_values.specs.Values.{IsNearestParts}
use Rattle.imported_values.proofs.Parts.{nearest_parts, none_not, passed_on, rounded_same}
use Rattle.imported_values.proofs.Parts.{some_same}
use Rattle.imported_values.proofs.policy.of_nearest.Goals as goal

pub returns-in-Some-clause-nearest : goal.returns-in-Some-clause-nearest
returns-in-Some-clause-nearest c = λ v e.
    let value = c.in-Some.value in
    rw (passed_on value c.in-Some.ensures.bound)
    (ap (λ (x : ℤ). Rounded x) (some_same value v
    (c.in-Some.ensures.only v e.fits (rw c.number.ensures.is e.nearest))))

pub returns-in-Some-clause-none : goal.returns-in-Some-clause-none
returns-in-Some-clause-none c = λ none.
    absurd (none c.in-Some.value (nearest_parts _ _ _ _ c.number.ensures.is c.in-Some.ensures.found
    c.in-Some.ensures.bound))

pub returns-in-Some-clause-rounded : goal.returns-in-Some-clause-rounded
returns-in-Some-clause-rounded c = λ v e.
    let value = c.in-Some.value in
    let same = sym (passed_on value c.in-Some.ensures.bound) ∙ rounded_same _ v e in
    subst (λ (x : ℤ). IsNearestParts c.args.digits c.args.bits x) same
    (nearest_parts _ _ _ _ c.number.ensures.is c.in-Some.ensures.found c.in-Some.ensures.bound)

pub returns-in-None-clause-nearest : goal.returns-in-None-clause-nearest
returns-in-None-clause-nearest c = λ v e.
    absurd (none_not v (c.in-None.ensures.only v e.fits (rw c.number.ensures.is e.nearest)))
