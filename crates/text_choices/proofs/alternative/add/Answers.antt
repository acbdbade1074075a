use Rattle.std.proofs.Common.{rules}
use Rattle.text_choices.proofs.Front.{add_first, add_last}
use Rattle.text_choices.proofs.alternative.add.Goals as goal
use Rattle.text_choices.proofs.alternative.add.Goals.{in-Some, in-None}

pub returns-clause-shared : goal.returns-clause-shared
returns-clause-shared c =
    rw c.in_ok-push.ensures.items
    (elim c.match-last.branch [
      | in-Some w ↦ add_last c.args.alternatives.now.items (record { shared = c.match-last.shared; atoms = c.args.atoms }) w.in-Some.before.now c.requires (search rules)
          (rw (w.shared-is, ← w.deref-in-Some.ensures.value, ← w.deref-in-Some-2.ensures.value) w.shared-shared.ensures)
      | in-None w ↦ add_first c.args.alternatives.now.items (record { shared = c.match-last.shared; atoms = c.args.atoms }) w.shared-is c.requires
    ])
