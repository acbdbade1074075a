use Rattle.std.proofs.Common.{◌∷◌, [], ◌++◌, ap, sym, ◌∙◌}
use Rattle.std.specs.Prelude.{codes, decimal}
use Rattle.serde_json.specs.Written.{compact_text}
use Rattle.answers.specs.Body.{verdict_data}
use Rattle.answers.proofs.Objects.{joined_7, interval_text}
use Rattle.answers.proofs.parts.append_interval_after_comma.Goals as goal

pub returns : goal.returns
returns c =
    let interval = c.args.interval.now in
    joined_7 c.args.out.now.items
    (codes ",{\"from\":") (decimal interval.from) (codes ",\"until\":") (decimal interval.until)
    (codes ",\"verdict\":") (compact_text (verdict_data interval.verdict)) (125 ∷ [])
    _ c.append_natural.new.out.items _ c.append_natural-2.new.out.items _
    c.append_verdict.new.out.items _
    c.in_ok-extend_from_slice.ensures.items
    (c.in_ok-append_natural.ensures
    ∙ ap (λ n. c.extend_from_slice.new.self.items ++ decimal n) c.number.ensures)
    c.in_ok-extend_from_slice-2.ensures.items
    c.in_ok-append_natural-2.ensures
    c.in_ok-extend_from_slice-3.ensures.items
    c.in_ok-append_verdict.ensures
    c.in_ok-push.ensures.items
    ∙ ap (λ s. c.args.out.now.items ++ s) (sym (interval_text interval))
