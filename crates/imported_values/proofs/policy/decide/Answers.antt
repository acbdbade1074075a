use Rattle.std.proofs.Common.{ℤ, ap}
use Rattle.imported_values.specs.declared.policy.Verdict.{Verdict}
use Rattle.imported_values.specs.declared.policy.Verdict.TheVariants.{Kept}
use Rattle.imported_values.proofs.Parts.{passed_on, some_same}
use Rattle.imported_values.proofs.policy.decide.Goals as goal

pub returns-in-Some-clause-kept : goal.returns-in-Some-clause-kept
returns-in-Some-clause-kept c = λ v e.
    let value = c.in-Some.value in
    let kept : Verdict = Kept v in
    rw (passed_on value c.in-Some.ensures.bound)
    (ap (λ (x : ℤ). Kept x) (some_same value v (c.in-Some.ensures.only v e)))
