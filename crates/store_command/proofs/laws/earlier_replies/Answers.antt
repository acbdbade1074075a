use Rattle.store_audit.specs.Reports.{first_of}
use Rattle.store_command.proofs.RightReplies.{of_earlier, such_place, to_earlier}
use Rattle.store_command.proofs.laws.earlier_replies.Goals as goal

pub returns-clause-exactly : goal.returns-clause-exactly
returns-clause-exactly c = λ query reply since store blocks said is. (
  of_earlier query reply since (first_of store blocks) store.events said.told said.lines.items said.found said.earlier is.found is.earlier,
  λ both. to_earlier query reply since (first_of store blocks) store.events said.told said.lines.items said.found said.earlier is.found is.earlier both.0 both.1,
)

pub returns-clause-such : goal.returns-clause-such
returns-clause-such c = λ query reply since store blocks said place is same.
    such_place query reply since (first_of store blocks) store.events said.told said.lines.items said.found said.earlier is.found is.earlier place same
