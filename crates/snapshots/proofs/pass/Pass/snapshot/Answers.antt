use Rattle.snapshots.proofs.Asked.{accepted_asked, blocks_stay, shows_asked}
use Rattle.snapshots.proofs.Growing.{enters}
use Rattle.snapshots.proofs.pass.Pass.snapshot.Goals as goal
use Rattle.snapshots.proofs.pass.Pass.snapshot.Goals.{in-Some-taken, in-None}

pub enter_as-requires : goal.enter_as-requires
enter_as-requires g c = enters _ _ _ _ _ _

pub returns-after-taken-clause-told : goal.returns-after-taken-clause-told
returns-after-taken-clause-told g c = elim c.match-taken.branch [
  | in-Some-taken w ↦ (rw (w.result-is, ← c.self.view_is) (rw (
    c.log-seen.ensures.log,
    c.log-seen.ensures.whole,
  ) (w.in-Some-taken.ensures).told))
  | in-None w ↦ rw w.result-is tt
]

pub returns-after-taken-clause-asked : goal.returns-after-taken-clause-asked
returns-after-taken-clause-asked g c = elim c.match-taken.branch [
  | in-Some-taken w ↦ (rw w.result-is (accepted_asked g.J.Naming.asked c.log-seen.result
      (rw (c.log-seen.ensures.log, c.get.ensures) (c.in-Ok.ensures.1.0.3))))
  | in-None w ↦ rw w.result-is tt
]

pub returns-after-taken-clause-blocks : goal.returns-after-taken-clause-blocks
returns-after-taken-clause-blocks g c = elim c.match-taken.branch [
  | in-Some-taken w ↦
      let shows = c.in-Ok.ensures.1.0 in
      rw (w.result-is, w.in-Some-taken.ensures.parts, c.get.ensures)
      (blocks_stay g.J.Naming.asked g.J.Naming.opening _ _
      (shows_asked g.J.Naming.asked g.J.Naming.book g.J.Naming.opening g.J.Naming.kept
      c.in-Ok.reading.part.value.version _ shows) shows.2)
  | in-None w ↦ rw w.result-is tt
]
