use Rattle.std.proofs.Common.{◌++◌, ap, sym, ◌∙◌}
use Rattle.std.proofs.lemmas.Result.{on_ok_weaker}
use Rattle.answers.specs.AfterCommas.{searched_front, searched_back}
use Rattle.answers.specs.Body.{json_list, row_data}
use Rattle.answers.proofs.Objects.{joined_3}
use Rattle.answers.proofs.Runs.{searched_around}
use Rattle.answers.proofs.parts.append_searched.Goals as goal

pub returns : goal.returns
returns c =
    let answer = c.args.answer.now in
    on_ok_weaker c.append_searched_back.result
    (λ last. joined_3 c.args.out.now.items
    (searched_front answer) (json_list row_data answer.rows.items) (searched_back answer)
    c.append_searched_front.new.out.items c.append_rows.new.out.items _
    c.in_ok-append_searched_front.ensures
    (c.in_ok-append_rows.ensures
    ∙ ap (λ rows. c.append_searched_front.new.out.items ++ json_list row_data rows)
    c.as_slice.ensures.value)
    last
    ∙ ap (λ s. c.args.out.now.items ++ s) (sym (searched_around answer)))
    c.append_searched_back.ensures
