use Rattle.std.proofs.Common.{inl, inr}
use Rattle.std.proofs.lemmas.Result.{IfOk-weaker}
use Rattle.remote_http.proofs.paging.page.Goals as goal

pub returns-in-Ok-clause-reply : goal.returns-in-Ok-clause-reply
returns-in-Ok-clause-reply g c =
    IfOk-weaker c.page_of.result _ _ (λ r h.
    inl (record { audited = c.in-Ok.found; headline = c.in-Ok.ensures.headline; reply = h })) c.page_of.ensures

pub returns-in-Err-Snapshot-clause-reply : goal.returns-in-Err-Snapshot-clause-reply
returns-in-Err-Snapshot-clause-reply g c = IfOk-weaker c.refusal_reply.result _ _ (λ r h. inr h) c.refusal_reply.ensures
