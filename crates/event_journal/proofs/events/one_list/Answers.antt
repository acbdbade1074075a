use Rattle.event_journal.specs.FindingLaws.{one_list}
use Rattle.event_journal.proofs.events.one_list.Goals as goal

pub returns : goal.returns
returns c file f g a b fits h i = one_list file f g a b fits h i
