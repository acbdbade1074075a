use Rattle.std.proofs.Common.{List, take}
use Rattle.remote_rows.specs.Sent.{Answer, IsReplyTo}
use Rattle.remote_http.specs.Answering.{HasAnswers}
use Rattle.remote_http.proofs.read.add_answers.Given as goal

abbrev pub invariant-loop-reading : goal.invariant-loop-reading
invariant-loop-reading g l = (front : List Answer) → IsReplyTo front l.fn.text.items
    → HasAnswers front l.snapshot (take l.reading-index l.readings) l.text.items
