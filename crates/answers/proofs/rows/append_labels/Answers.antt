use Rattle.std.proofs.Common.{◌∙◌, ◌++◌, arith, ap}
use Rattle.std.proofs.lemmas.Result.{on_ok_weaker}
use Rattle.answers.specs.AfterCommas.{labels_after_commas}
use Rattle.answers.proofs.Lists.{bracketed}
use Rattle.answers.proofs.Objects.{opened_labels}
use Rattle.answers.proofs.rows.append_labels.Goals as goal

pub returns : goal.returns
returns c =
    let old = c.args.out.now.items in
    let labels = c.args.labels.now in
    on_ok_weaker c.close_list.result
    (λ e. e
    ∙ bracketed old (labels_after_commas labels) c.append_labels_after_commas.new.out.items
    c.len-start.result 123 125
    (omega (arith, c.len-start.ensures)) c.in_ok-append_labels_after_commas.ensures
    ∙ ap (λ s. old ++ s) (opened_labels labels c.len-count.ensures.label_set.by_name))
    c.close_list.ensures
