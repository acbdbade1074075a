use Rattle.head.specs.Sifting.{sifted}
use Rattle.head.proofs.Sifts.{accepted}
use Rattle.head.proofs.Words.{replays, none_kept}
use Rattle.head.proofs.laws.a_sift_is_one_event_or_none.Goals as goal

pub returns-clause-replays : goal.returns-clause-replays
returns-clause-replays c = λ w v events xs e. replays w v events xs e

pub returns-clause-none : goal.returns-clause-none
returns-clause-none c = λ w xs e. none_kept w (sifted w xs).world (sifted w xs).kept (accepted w 0 0 xs) e
