use Rattle.std.proofs.Common.{◌++◌, ap, ◌∙◌}
use Rattle.std.specs.Prelude.{codes}
use Rattle.json.specs.Print.{quoted}
use Rattle.answers.specs.Body.{interval_data, json_list, name_text}
use Rattle.answers.proofs.Objects.{joined_5}
use Rattle.answers.proofs.parts.append_searched_front.Goals as goal

pub returns : goal.returns
returns c =
    let answer = c.args.answer.now in
    joined_5 c.args.out.now.items
    (codes "{\"intervals\":") (json_list interval_data answer.cover.certificate.items)
    (codes ",\"part\":") (quoted (name_text answer.part)) (codes ",\"rows\":")
    _ c.append_intervals.new.out.items _ c.append_string.new.out.items _
    c.in_ok-extend_from_slice.ensures.items
    (c.in_ok-append_intervals.ensures
    ∙ ap (λ xs. c.extend_from_slice.new.self.items ++ json_list interval_data xs)
    c.as_slice.ensures.value)
    c.in_ok-extend_from_slice-2.ensures.items
    (c.in_ok-append_string.ensures
    ∙ ap (λ s. c.extend_from_slice-2.new.self.items ++ quoted s) (c.as_str.ensures.value
    ∙ c.in_ok-name.ensures))
    c.in_ok-extend_from_slice-3.ensures.items
