use Rattle.std.proofs.Common.{◌∙◌, refl}
use Rattle.remote_requests.proofs.LabelTurns.{pairs_fault, pairs_turn}
use Rattle.remote_requests.proofs.ReadTurns.{name_fault, value_fault}
use Rattle.remote_requests.proofs.label_sets.text_pairs.Goals as goal

pub returns-in_default : goal.returns-in_default
returns-in_default c =
    pairs_fault c.args.labels.now c.loop-label.label-index _ _ c.loop-label-test.true refl
    (name_fault _ _ c.in_default.ensures.cases.0)

pub returns-in_default-from_utf8 : goal.returns-in_default-from_utf8
returns-in_default-from_utf8 c =
    pairs_fault c.args.labels.now c.loop-label.label-index _ _ c.loop-label-test.true refl
    (value_fault _ _ c.in-Ok.ensures.cases.1 c.in_default-from_utf8.ensures.cases.0)

pub loop-label-preserved : goal.loop-label-preserved
loop-label-preserved c =
    pairs_turn c.args.labels.now c.loop-label.label-index _ _ c.loop-label.pairs.items _
    c.in_ok-from_str.field-0 c.in_ok-from_str-2.field-0 c.loop-label-test.true refl
    c.loop-label.invariant.0 c.loop-label.invariant.1 c.in_ok-push.ensures.items
    (c.in_ok-from_str.ensures.ok ∙ c.in-Ok.ensures.cases.0)
    (c.in_ok-from_str-2.ensures.ok ∙ c.in-Ok-from_utf8.ensures.cases.0)
    c.in-Ok.ensures.cases.1 c.in-Ok-from_utf8.ensures.cases.1
