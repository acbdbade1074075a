use Rattle.store_audit.specs.Reports.{first_of}
use Rattle.store_command.proofs.RightReplies.{of_lines, to_lines}
use Rattle.store_command.proofs.laws.right_replies.Goals as goal

pub returns : goal.returns
returns c = λ query reply since store blocks said is. (
  of_lines query reply since (first_of store blocks) store.events said.told said.lines.items said.found is.found is.lines,
  to_lines query reply since (first_of store blocks) store.events said.told said.lines.items said.found is.found is.lines,
)
