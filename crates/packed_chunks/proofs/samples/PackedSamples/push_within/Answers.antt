use Rattle.std.proofs.Common.{◌∙◌, ◌≤◌, length, arith}
use Rattle.std.specs.Int.{w64}
use Rattle.std.proofs.lemmas.Int.{to_z-of_z}
use Rattle.packed_chunks.proofs.Passed.{kept_begin, kept_step, kept_stop, kept_end, same_kept}
use Rattle.packed_chunks.proofs.samples.PackedSamples.push_within.Goals as goal

pub loop-i-init : goal.loop-i-init
loop-i-init c = kept_begin c.args.self.now c.args.found.now.items _ _ c.place_from-start.result c.place_from-start.ensures.before

pub returns-then-to-t : goal.returns-then-to-t
returns-then-to-t c =
    let same = to_z-of_z w64 c.t.result (record { sfits = c.t.type_inv }) ∙ c.t.ensures in
    kept_stop c.args.self.now c.loop-i.found.items _ _ _ _ c.loop-i.i c.get-sample.result c.requires c.get-sample.ensures
    c.if-to-t.true same c.loop-i.invariant
    ∙ same_kept c.args.self.now c.args.found.now.items c.args.from c.args.to _ _ (to_z-of_z w64 c.args.from c.ranges.from) (to_z-of_z w64 c.args.to c.ranges.to)

pub loop-i-preserved : goal.loop-i-preserved
loop-i-preserved c =
    let same = to_z-of_z w64 c.t.result (record { sfits = c.t.type_inv }) ∙ c.t.ensures in
    kept_step c.args.self.now c.loop-i.found.items _ _ _ _ _ c.loop-i.i c.get-sample.result c.get-sample.ensures
    (c.place_from-start.ensures.from c.loop-i.i c.loop-i.auto.i (omega (arith, c.loop-i-test.true, c.len-i-end.ensures)))
    c.if-to-t.false same c.in_ok-push.ensures.items c.loop-i.invariant

pub returns : goal.returns
returns c =
    let end : length c.args.self.now ≤ c.loop-i.i = omega (arith, c.len-i-end.ensures, c.loop-i-test.false) in
    kept_end c.args.self.now c.loop-i.found.items _ _ _ c.loop-i.i end c.loop-i.invariant
    ∙ same_kept c.args.self.now c.args.found.now.items c.args.from c.args.to _ _ (to_z-of_z w64 c.args.from c.ranges.from) (to_z-of_z w64 c.args.to c.ranges.to)
