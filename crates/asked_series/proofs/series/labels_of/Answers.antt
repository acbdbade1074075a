use Rattle.std.proofs.Common.{refl}
use Rattle.asked_series.proofs.Naming.{made, why_no_labels}
use Rattle.asked_series.proofs.series.labels_of.Goals as goal

pub returns-in-Ok-clause-ok : goal.returns-in-Ok-clause-ok
returns-in-Ok-clause-ok c = rw (← c.in_ok-pairs.ensures) (made _ _ _ c.in-Ok.ensures.refused c.in-Ok.ensures.made)

pub returns-in-Err-clause-err : goal.returns-in-Err-clause-err
returns-in-Err-clause-err c =
    rw c.labels_fault.ensures (why_no_labels _ _ refl _ (rw c.in_ok-pairs.ensures at c.in-Err.ensures.made))
