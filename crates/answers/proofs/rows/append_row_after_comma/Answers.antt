use Rattle.std.proofs.Common.{◌∷◌, [], ◌++◌, ap, sym, ◌∙◌}
use Rattle.std.specs.Prelude.{codes}
use Rattle.serde_json.specs.Data.{object}
use Rattle.serde_json.specs.Written.{compact_text}
use Rattle.answers.specs.Body.{label_members, list_data, sample_data}
use Rattle.answers.proofs.Objects.{joined_5, row_text}
use Rattle.answers.proofs.rows.append_row_after_comma.Goals as goal

pub returns : goal.returns
returns c =
    let row = c.args.row.now in
    joined_5 c.args.out.now.items
    (codes ",{\"labels\":") (compact_text (object (label_members row.0))) (codes ",\"samples\":")
    (compact_text (list_data sample_data row.1)) (125 ∷ [])
    _ c.append_labels.new.out.items _ c.append_samples.new.out.items _
    c.in_ok-extend_from_slice.ensures.items
    (c.in_ok-append_labels.ensures
    ∙ ap (λ l. c.extend_from_slice.new.self.items ++ compact_text (object (label_members l)))
    c.labels.ensures)
    c.in_ok-extend_from_slice-2.ensures.items
    (c.in_ok-append_samples.ensures
    ∙ ap (λ l. c.extend_from_slice-2.new.self.items ++ compact_text (list_data sample_data l))
    c.samples.ensures)
    c.in_ok-push.ensures.items
    ∙ ap (λ s. c.args.out.now.items ++ s) (sym (row_text row))
