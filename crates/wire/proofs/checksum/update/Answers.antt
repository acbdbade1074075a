use Rattle.std.proofs.Common.{◌+◌, sym, ap, ◌∙◌, arith, drop}
use Rattle.std.proofs.lemmas.List.{drop_all}
use Rattle.wire.specs.Checksum.{register}
use Rattle.wire.proofs.Shifts.{register_nil, register_step}
use Rattle.wire.proofs.checksum.update.Goals as goal

pub loop-at-2-preserved : goal.loop-at-2-preserved
loop-at-2-preserved c =
    let l = c.loop-at-2 in
    let xs = c.args.bytes.now in (
      omega arith,
      ap (λ r. register r (drop (l.at + 1) xs)) c.step-state.ensures
          ∙ sym (register_step l.state xs l.at c.loop-at-2-test.true)
          ∙ l.invariant.1,
    )

pub returns : goal.returns
returns c =
    let l = c.loop-at-2 in
    let e = drop_all l.at c.args.bytes.now c.loop-at-2-test.false in
    sym (register_nil l.state) ∙ sym (ap (register l.state) e) ∙ l.invariant.1
