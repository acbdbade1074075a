use Rattle.std.proofs.Common.{◌≡◌, List, length, map, sym, subst, rules}
use Rattle.head.specs.Blocks.{part_in}
use Rattle.head.specs.Heads.{BlockPart}
use Rattle.head.specs.Joins.{HoldSame}
use Rattle.snapshots.proofs.Joins.{run_stands}
use Rattle.snapshots.proofs.joined_run.snapshot_with.Goals as goal

pub apply_joined-requires-clause-same : goal.apply_joined-requires-clause-same
apply_joined-requires-clause-same c =
    let run = c.run.inside in
    let was : c.deref.result.now ≡ run.was.items = search rules in
    let made : c.deref-3.result.now ≡ run.made.items = search rules in
    let long : c.len.result ≡ length c.deref.result.now = search rules in
    let is = run_stands c.blocks-2.result.now c.deref.result.now run.was.items c.args.at.now.blocks run.at c.len.result
    c.blocks-2.ensures was long c.if-not-stand_at.ensures.1 in
    subst (λ (z : List BlockPart). HoldSame z (map part_in c.deref-3.result.now)) (sym is)
    (subst (λ (z : List _). HoldSame (map part_in run.was.items) (map part_in z)) (sym made) c.run.invariant.same)
