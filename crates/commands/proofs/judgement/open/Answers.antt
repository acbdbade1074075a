use Rattle.commands.proofs.Judgements.{IfOk_both, said_of_given}
use Rattle.commands.proofs.judgement.open.Goals as goal

pub returns-clause-found : goal.returns-clause-found
returns-clause-found g c =
    let said = said_of_given _ _ (rw c.as_slice.ensures.value at c.in_ok-range.ensures) in
    IfOk_both c.open_with.result _ _ _ (λ b block same.
    rw same (record { says = said; block = block }))
    (rw (c.as_slice-2.ensures.value, c.as_slice-3.ensures.value) at
    c.open_with.ensures.found) c.open_with.ensures.range
