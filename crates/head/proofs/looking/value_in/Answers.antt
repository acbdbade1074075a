use Rattle.std.specs.Prelude.{◌≡◌, false}
use Rattle.std.proofs.Common.{sym, ◌∙◌, ap, subst, rules, to_z, of_z, w64}
use Rattle.labels.specs.Parts.{Part, row_at, samples_within}
use Rattle.block.specs.Ranges.{covers}
use Rattle.head.specs.Looking.{first_value, IsReferenceOf}
use Rattle.head.proofs.LookUps.{absent_value, none_outside, value_under}
use Rattle.head.proofs.looking.value_in.Goals as goal

pub returns-then-not-covers : goal.returns-then-not-covers
returns-then-not-covers c =
    let out : covers c.args.block.now.range c.args.t ≡ false = search rules in
    sym (none_outside c.args.block.now.range c.args.labels.now c.args.t c.args.block.now.part out c.range.ensures.inside)

pub returns-in_ok-samples-in-Some : goal.returns-in_ok-samples-in-Some
returns-in_ok-samples-in-Some c =
    let part : Part = c.args.block.now.part in
    let r = c.in-Some.reference in
    let same : to_z w64 (of_z w64 c.args.t) ≡ c.args.t = search rules in
    c.first_value.ensures
    ∙ ap first_value (c.as_slice.ensures.value ∙ c.in_ok-samples-in-Some.ensures)
    ∙ (λ i. first_value (samples_within (same i) (same i) (row_at r (c.view.ensures i))))
    ∙ value_under c.args.labels.now c.args.t r part c.range.ensures.is_part
    (subst (IsReferenceOf c.args.labels.now part) c.in-Some.is c.in_ok-reference.ensures)

pub returns-in-None : goal.returns-in-None
returns-in-None c =
    let part : Part = c.args.block.now.part in
    sym (absent_value c.args.labels.now c.args.t part (subst (IsReferenceOf c.args.labels.now part) c.in-None.is c.in_ok-reference.ensures))
