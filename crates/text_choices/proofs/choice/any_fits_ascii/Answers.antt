use Rattle.std.proofs.Common.{◌∙◌, ap, rules}
use Rattle.text_choices.specs.Shared.{lead}
use Rattle.text_choices.proofs.Front.{scan_found, scan_misses, scan_skips, scan_tries}
use Rattle.text_choices.proofs.choice.any_fits_ascii.Goals as goal
use Rattle.text_choices.proofs.choice.any_fits_ascii.Goals.{then-one-lead+else-lead-len, else-lead-len-via-then-lead-len+else-lead-value, else-lead-len-via-else-lead-len, else-one-lead}

pub lead_from-lead-requires : goal.lead_from-lead-requires
lead_from-lead-requires c =
    let l = c.loop-one in
    rw c.deref.ensures.value
    (scan_tries c.args.alternatives.now c.args.value.now l.one-index l.lead c.one-item.result _
    c.loop-one-test.true c.one-item.is l.invariant c.if-one-lead.true)

pub returns-then-lead-value : goal.returns-then-lead-value
returns-then-lead-value c =
    let l = c.loop-one in
    scan_found c.args.alternatives.now c.args.value.now l.one-index l.lead c.lead_from-lead.result
    c.one-item.result _ c.loop-one-test.true c.one-item.is l.invariant
    (c.lead_from-lead.ensures ∙ ap (λ xs. lead xs c.args.value.now) c.deref.ensures.value)
    (search rules) (search rules)

pub loop-one-preserved : goal.loop-one-preserved
loop-one-preserved c =
    let l = c.loop-one in
    elim c.if-one-lead.branch [
      | then-one-lead+else-lead-len w ↦ rw w.lead-is
          (scan_misses c.args.alternatives.now c.args.value.now l.one-index l.lead
          w.lead_from-lead.result c.one-item.result _ c.loop-one-test.true c.one-item.is l.invariant
          (w.lead_from-lead.ensures ∙ ap (λ xs. lead xs c.args.value.now) w.deref.ensures.value)
          (elim w.else-lead-len.branch [
            | else-lead-len-via-then-lead-len+else-lead-value v ↦ (λ all whole. v.if-lead-value.false whole)
            | else-lead-len-via-else-lead-len v ↦ (λ all whole. v.if-lead-len.false (search rules))
          ]))
      | else-one-lead w ↦ rw w.lead-is
          (scan_skips c.args.alternatives.now c.args.value.now l.one-index l.lead
          c.one-item.result _ c.loop-one-test.true c.one-item.is l.invariant (search rules))
    ]
