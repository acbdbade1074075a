use Rattle.std.proofs.Common.{◌≡◌, ◌++◌, ℕ, List, length, ap, ◌∙◌}
use Rattle.std.proofs.lemmas.Result.{IfOk-weaker}
use Rattle.requests.specs.Replies.{reply_text, success_head}
use Rattle.requests.specs.declared.status.Status.TheVariants.{Done}
use Rattle.answers.specs.Body.{body_text}
use Rattle.answers.specs.Kept.{whole_of}
use Rattle.answers.specs.MergedRows.{rows_of}
use Rattle.query_http.proofs.actions.answer_reply.Goals as goal

-- the first bytes of a reply, and the body behind them
put_together : (head body text : List ℕ) (len : ℕ) → head ≡ success_head len
    → len ≡ length body → body ≡ text → head ++ body ≡ reply_text Done text
put_together head body text len e l is =
    ap (λ (s : List ℕ). s ++ body) (e ∙ ap success_head l)
    ∙ ap (λ (s : List ℕ). reply_text Done s) is

pub returns-then-size-le-SHORT-clause-spelled : goal.returns-then-size-le-SHORT-clause-spelled
returns-then-size-le-SHORT-clause-spelled g c =
    let body = whole_of c.in_ok-text.text in
    let text = body_text c.args.answer.now.parts.items (rows_of c.args.answer.now) in
    IfOk-weaker c.joined_reply.result _ _
    (λ r h. h ∙ put_together _ body text c.in_ok-size.size
    (c.in_ok-append_success_head.ensures
    ∙ ap (λ (s : List ℕ). s ++ success_head c.in_ok-size.size) c.take_head-head.ensures.empty)
    c.in_ok-size.ensures
    c.in_ok-text.ensures)
    c.joined_reply.ensures.spelled

pub returns-clause-spelled : goal.returns-clause-spelled
returns-clause-spelled g c =
    let body = whole_of c.in_ok-text.text in
    let text = body_text c.args.answer.now.parts.items (rows_of c.args.answer.now) in
    put_together _ body text c.in_ok-size.size
    (c.in_ok-append_success_head.ensures
    ∙ ap (λ (s : List ℕ). s ++ success_head c.in_ok-size.size) c.take_head-head.ensures.empty)
    c.in_ok-size.ensures
    c.in_ok-text.ensures
