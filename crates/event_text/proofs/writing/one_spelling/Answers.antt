use Rattle.event_text.proofs.Events.{one_text}
use Rattle.event_text.proofs.writing.one_spelling.Goals as goal

pub returns : goal.returns
returns c a b h i e = one_text a b h i e
