use Rattle.remote_http.proofs.Paged.{page_shown, page_unread}
use Rattle.remote_http.proofs.paging.page_of.Goals as goal

pub returns-in-Ok : goal.returns-in-Ok
returns-in-Ok c =
    page_shown c.args.question.now c.args.found.now c.in-Ok.bytes.items c.html_reply.result c.in-Ok.ensures.ok
    c.html_reply.ensures.number c.html_reply.ensures.spelled

pub returns-in-Err-Unread : goal.returns-in-Err-Unread
returns-in-Err-Unread c =
    page_unread c.args.question.now c.args.found.now c.refusal_reply.result
    (rw c.in-Err-Unread.field-0-is at c.in-Err-Unread.ensures.err) c.refusal_reply.ensures
