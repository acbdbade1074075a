use Rattle.std.proofs.Common.{arith}
use Rattle.std.proofs.lemmas.Grind.{common_steps}
use Rattle.kept_walk.proofs.ByNumber.{cut_labels}
use Rattle.kept_walk.proofs.numbers.label_of.Goals as goal

pub returns-clause-text : goal.returns-clause-text
returns-clause-text c =
    let cut = cut_labels c.args.bytes.now c.in_ok-labels.labels c.in_ok-labels.rest.now
    (λ i. omega (arith, c.type_inv.bytes i)) c.in_ok-labels.ensures in
    grind (arith, common_steps, cut.text)
