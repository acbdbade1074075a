use Rattle.std.proofs.Common.{ap, ◌∙◌, ◌++◌, ℕ, List}
use Rattle.std.proofs.lemmas.Result.{on_ok_weaker}
use Rattle.remote_write.specs.Writing.{text_field}
use Rattle.remote_rows.proofs.Adds.{reply_more}
use Rattle.remote_rows.proofs.answer.put_answer.Goals as goal

pub returns : goal.returns
returns c = λ front r.
    let old = c.args.out.now.items in
    on_ok_weaker c.put_text.result
    (λ e. reply_more front (c.args.names_alone, c.args.rows.now) old c.new-result.result.items c.put_rows.new.out.items
    c.put_text.new.out.items c.new-result.ensures.items r c.in_ok-put_rows.ensures
    (e ∙ ap (λ (t : List ℕ). old ++ text_field 1 t) c.as_slice.ensures.value))
    c.put_text.ensures
