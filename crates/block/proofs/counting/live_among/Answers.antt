use Rattle.std.proofs.Common.{true, false, sym, ap, ◌∙◌, arith}
use Rattle.std.specs.Int.{w64}
use Rattle.std.proofs.lemmas.Int.{to_z-of_z}
use Rattle.tombstones.specs.Covering.{covered}
use Rattle.block.proofs.Counts.{live_next}
use Rattle.block.proofs.counting.live_among.Goals.{then-not-deleted, else-not-deleted}
use Rattle.block.proofs.counting.live_among.Goals as goal

pub loop-at-preserved : goal.loop-at-preserved
loop-at-preserved c =
    let l = c.loop-at in
    let ds = c.args.tombstones.now in
    let r = c.args.reference in
    let time = to_z-of_z w64 c.t.result (record { sfits = c.t.type_inv }) ∙ c.t.ensures in
    let told = ap (covered ds r) (sym time) ∙ sym c.deleted.ensures in
    elim c.if-not-deleted.branch [
      | then-not-deleted w ↦
          let next =
          live_next ds r c.args.samples.now l.at c.get.result false c.get.ensures (told
          ∙ w.if-not-deleted.true) in
          let count = w.count-is in
          record {
            counted = omega (arith, next, count, l.invariant.counted);
            few = omega (arith, count, l.invariant.few);
          }
      | else-not-deleted w ↦
          let next =
          live_next ds r c.args.samples.now l.at c.get.result true c.get.ensures (told
          ∙ w.if-not-deleted.false) in
          let count = w.count-is in
          record {
            counted = omega (arith, next, count, l.invariant.counted);
            few = omega (arith, count, l.invariant.few);
          }
    ]
