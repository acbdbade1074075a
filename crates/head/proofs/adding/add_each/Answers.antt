use Rattle.std.specs.Prelude.{T}
use Rattle.std.specs.List.{list_all}
use Rattle.std.proofs.Common.{subst}
use Rattle.head.specs.BatchRows.{batch_in}
use Rattle.head.specs.declared.draft.Samples.{Samples}
use Rattle.head.proofs.SlotLaws.{on_ok}
use Rattle.head.proofs.adding.add_each.Goals as goal

pub returns-in-Pairs-clause-owners : goal.returns-in-Pairs-clause-owners
returns-in-Pairs-clause-owners c =
    on_ok c.add_pairs.result
    (λ own p all before. own p (subst (λ (s : Samples). T (list_all (λ x. p x.0) (batch_in s))) c.in-Pairs.is all) before)
    c.add_pairs.ensures.owners
