use Rattle.std.proofs.Common.{◌≤◌, length, vec_len}
use Rattle.requests.proofs.AdmittedTexts.{admitted, denied}
use Rattle.requests.proofs.TakenTexts.{takes_both}
use Rattle.requests.proofs.admit.read_admitted_into.Goals as goal

pub returns-in-Ok-clause-means : goal.returns-in-Ok-clause-means
returns-in-Ok-clause-means g c =
    let short : length c.read_head.new.buf.items ≤ 8192 = rw c.read_head.new.buf.ok.0
    at c.in_ok-read_head.ensures.short in
    admitted c.args.rules.now (g.R.Inlet.input c.args.reader.now)
    (g.R.Inlet.input c.read_head.new.reader) c.read_head.new.buf.items _ c.read_after.result
    c.in_ok-read_head.ensures.taken short
    (rw c.as_slice.ensures.value at c.in-Ok.ensures.admission) c.read_after.ensures.means

pub returns-in-Ok-clause-few : goal.returns-in-Ok-clause-few
returns-in-Ok-clause-few g c =
    takes_both c.read_head.new.buf.items (vec_len c.read_head.new.buf)
    (g.R.Inlet.input c.args.reader.now) (g.R.Inlet.input c.read_head.new.reader)
    (g.R.Inlet.input c.read_after.new.reader) c.read_after.result c.read_head.new.buf.ok.0
    c.in_ok-read_head.ensures.taken c.in_ok-read_head.ensures.short
    c.read_after.ensures.few

pub returns-in-Err-clause-means : goal.returns-in-Err-clause-means
returns-in-Err-clause-means g c =
    let short : length c.read_head.new.buf.items ≤ 8192 = rw c.read_head.new.buf.ok.0
    at c.in_ok-read_head.ensures.short in
    denied c.args.rules.now (g.R.Inlet.input c.args.reader.now)
    (g.R.Inlet.input c.read_head.new.reader) c.read_head.new.buf.items c.in-Err.refusal
    c.in_ok-read_head.ensures.taken short
    (rw c.as_slice.ensures.value at c.in-Err.ensures.admission)
