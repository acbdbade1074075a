use Rattle.std.proofs.Common.{sym, ◌∙◌, arith}
use Rattle.std.specs.Int.{w64}
use Rattle.std.proofs.lemmas.Int.{to_z-of_z}
use Rattle.chunk_reader.proofs.Rising.{goes_on, stops, rises_past}
use Rattle.chunk_reader.proofs.samples.are_rising.Goals as goal

pub returns-then-not-in_turn : goal.returns-then-not-in_turn
returns-then-not-in_turn c =
    let same =
    to_z-of_z w64 c.t-time.result (record { sfits = c.t-time.type_inv }) ∙ c.t-time.ensures in
    stops _ _ c.args.samples.now c.loop-i.i c.get.result _ c.get.ensures same
    c.if-not-in_turn.true c.loop-i.invariant

pub loop-i-preserved : goal.loop-i-preserved
loop-i-preserved c =
    let same =
    to_z-of_z w64 c.t-time.result (record { sfits = c.t-time.type_inv }) ∙ c.t-time.ensures in
    goes_on _ _ c.args.samples.now c.loop-i.i c.get.result _ c.get.ensures same
    c.if-not-in_turn.false c.loop-i.invariant

pub returns : goal.returns
returns c =
    sym (rises_past _ c.args.samples.now c.loop-i.i (omega (
      arith,
      c.len-i-end.ensures,
      c.loop-i-test.false,
    )))
    ∙ c.loop-i.invariant
