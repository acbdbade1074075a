use Rattle.std.proofs.Common.{List, subst}
use Rattle.snapshots.specs.Asking.{AreAsked}
use Rattle.snapshots.specs.Marks.{tried_of}
use Rattle.snapshots.specs.declared.entry.Mark.{Mark}
use Rattle.snapshots.proofs.version.Version.of.Goals as goal

pub returns-clause-asked : goal.returns-clause-asked
returns-clause-asked g c =
    subst (λ (l : List Mark). AreAsked g.J.Naming.asked (tried_of l)) c.share_seen.ensures.0 c.share_seen.ensures.2
