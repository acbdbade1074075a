use Rattle.std.proofs.Common.{sym, ◌∙◌, rules}
use Rattle.serde_json.proofs.Views.{items_len-items_view}
use Rattle.requests.proofs.RowTexts.{sample_unless, sample_when}
use Rattle.requests.proofs.write.sample_in.Goals as goal

pub returns-then-len-ne2 : goal.returns-then-len-ne2
returns-then-len-ne2 c =
    sym (sample_unless _ _ c.in_ok-as_array.ensures
    (λ two. c.if-len-ne2.true (c.len.ensures ∙ c.in_ok-as_array.field-0.now.ok.0
    ∙ sym (items_len-items_view _) ∙ two)))

pub returns : goal.returns
returns c =
    let two = items_len-items_view _ ∙ sym c.in_ok-as_array.field-0.now.ok.0 ∙ sym c.len.ensures
    ∙ c.if-len-ne2.false in
    let read = sample_when _ _ c.in_ok-as_array.ensures two in
    rw (read, ← c.in_ok-t.ensures, ← c.in_ok-v.ensures) (search rules)
