use Rattle.remote_http.proofs.Paged.{form_replied}
use Rattle.remote_http.proofs.paging.home.Goals as goal

pub returns : goal.returns
returns c =
    form_replied c.in_ok-bytes.bytes.items c.html_reply.result c.in_ok-bytes.ensures c.html_reply.ensures.number
    c.html_reply.ensures.spelled
