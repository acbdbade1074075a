use Rattle.std.proofs.Common.{ap, ◌∙◌, sym, Ok}
use Rattle.head.specs.Worlds.{Batch, added_each}
use Rattle.head.proofs.Sifts.{accepted, as_committed, all_kept}
use Rattle.head.proofs.laws.an_accepted_batch_is_kept.Goals as goal

pub returns-clause-accepted : goal.returns-clause-accepted
returns-clause-accepted c = λ w v xs e. (as_committed w v 0 xs e).0

pub returns-clause-whole : goal.returns-clause-whole
returns-clause-whole c = λ w v xs e. (as_committed w v 0 xs e).1

pub returns-clause-back : goal.returns-clause-back
returns-clause-back c = λ w xs held left.
    ap (λ (ks : Batch). added_each (Ok w) 0 ks) (sym (all_kept w 0 xs held left)) ∙ accepted w 0 0 xs
