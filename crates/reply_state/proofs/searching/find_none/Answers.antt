use Rattle.std.proofs.Common.{subst}
use Rattle.kept_world.specs.Changes.{IsReplay, events_of}
use Rattle.reply_state.proofs.searching.find_none.Goals as goal

pub returns-in-Refused : goal.returns-in-Refused
returns-in-Refused c since =
    subst (IsReplay c.args.world (events_of c.args.changes.now)) c.in-Refused.is c.in_ok-at.ensures

pub returns : goal.returns
returns c since n s after upto leads so = so
