use Rattle.std.proofs.Common.{◌≡◌, ◌≢◌, true, [], ◌∷◌, ◌++◌, subst, sym, rules}
use Rattle.head.specs.BatchRows.{batch_of_rows}
use Rattle.head.specs.Heads.{SnapshotParts, world_of}
use Rattle.head.specs.Laws.{reasons}
use Rattle.head.specs.Sifting.{sifted}
use Rattle.head.specs.Telling.{told_of}
use Rattle.head.specs.Worlds.{Batch, batch}
use Rattle.snapshots.specs.Asking.{AreAsked}
use Rattle.snapshots.specs.Marks.{tried_of}
use Rattle.snapshots.specs.Replays.{IsAfter}
use Rattle.snapshots.specs.Seats.{IsMetBy}
use Rattle.snapshots.specs.Sifts.{IsSiftedAt}
use Rattle.snapshots.proofs.Sifts.{sifted_some}
use Rattle.snapshots.proofs.tip.Tip.sift.Goals as goal

pub returns-clause-sifted : goal.returns-clause-sifted
returns-clause-sifted g c =
    let entries = c.args.self.now.entries in
    let number = c.args.seat.now.number in
    let xs = batch_of_rows c.args.rows.now in
    let at = c.snapshot.result.now in
    let ys = batch_of_rows c.in-Some.kept in
    let left = c.in_ok-next.field-0.left in
    let list = tried_of c.in_ok-trial.trial in
    let some : ys ≢ [] = search rules in
    let kept : ys ≡ (sifted (world_of at) xs).kept = search rules in
    let told : left ≡ told_of (reasons (sifted (world_of at) xs).left) = search rules in
    let more : list ≡ entries ++ record { event = batch ys; seat = number } ∷ [] = c.in_ok-trial.ensures.list in
    subst (λ (s : SnapshotParts). IsSiftedAt number entries s xs (record { list = list; left = left; joined = true })) c.snapshot.ensures
    (sifted_some number entries list at xs left told ys some kept more)

pub place-requires-clause-asked : goal.place-requires-clause-asked
place-requires-clause-asked g c =
    let xs = batch_of_rows c.args.rows.now in
    let at = c.snapshot.result.now in
    let ys = batch_of_rows c.in-Some.kept in
    let kept : ys ≡ (sifted (world_of at) xs).kept = search rules in
    let some : ys ≢ [] = search rules in
    let entries = c.args.self.now.entries in
    let opening = g.J.Naming.opening in
    let all : AreAsked g.J.Naming.asked entries = search rules in
    let met : IsMetBy c.args.seat.now entries = search rules in
    let after : IsAfter opening entries c.args.self.now.parts = search rules in
    subst (λ (zs : Batch). g.J.Naming.asked (batch zs) c.args.seat.now.number c.args.seat.now.count) (sym kept)
    (c.requires.asked entries at all (subst (λ (s : SnapshotParts). IsAfter opening entries s) (sym c.snapshot.ensures) after)
    met (subst (λ (zs : Batch). zs ≢ []) kept some))
