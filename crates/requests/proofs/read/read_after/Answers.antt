use Rattle.std.proofs.Common.{◌≡◌, ◌+◌, ◌≤◌, false, length, vec_len, rules, sym, ap, ◌∙◌}
use Rattle.std.proofs.Common.{slice_range, arith}
use Rattle.requests.specs.Fields.{fields_of}
use Rattle.requests.specs.Targets.{takes_query}
use Rattle.requests.specs.Reading.{BodyMeans}
use Rattle.requests.proofs.FitTexts.{told_fit, body_fit}
use Rattle.requests.specs.Selecting.{SelectMeans}
use Rattle.requests.proofs.Endings.{told_ends, body_ends, select_ends}
use Rattle.requests.proofs.ReadTexts.{asked_body}
use Rattle.requests.proofs.TakenTexts.{takes_none, takes_body, takes_read, length_few}
use Rattle.requests.proofs.read.read_after.Goals as goal

pub returns-clause-means : goal.returns-clause-means
returns-clause-means g c =
    let head = c.head_of-head.ensures in
    let more = c.in_ok-read_body.ensures.bytes in
    let post : takes_query c.in-Ok.path ≡ false = search rules in
    let whole : c.head_of-head.result.end + c.in-Ok-length.length ≤ length c.read_body.new.buf.items
    =
    rw c.read_body.new.buf.ok.0 at c.in_ok-read_body.ensures.whole in
    asked_body c.args.buf.now.items c.read_body.new.buf.items more.0 _ (g.R.Inlet.input
    c.args.reader.now) (g.R.Inlet.input c.read_body.new.reader)
    c.head_of-head.result head.0 c.in-Ok.path c.in-Ok-length.length c.body_request.result
    (rw c.as_slice.ensures.value at head.1) c.in-Ok.ensures.value post c.in-Ok-length.is more.1
    more.2 whole
    (ap (λ l. slice_range l c.head_of-head.result.end (c.head_of-head.result.end
    + c.in-Ok-length.length)) c.deref.ensures.value)
    c.body_request.ensures

pub returns-clause-fits : goal.returns-clause-fits
returns-clause-fits g c =
    let body = slice_range c.deref.result.now c.head_of-head.result.end
    (c.head_of-head.result.end + c.in-Ok-length.length) in
    told_fit (BodyMeans c.in-Ok.path body) (body_fit c.in-Ok.path body) c.body_request.result
    c.body_request.ensures

pub returns-clause-refusal : goal.returns-clause-refusal
returns-clause-refusal g c =
    let body = slice_range c.deref.result.now c.head_of-head.result.end
    (c.head_of-head.result.end + c.in-Ok-length.length) in
    told_ends (BodyMeans c.in-Ok.path body) (body_ends c.in-Ok.path body) c.body_request.result
    c.body_request.ensures

pub returns-then-takes_query-clause-few : goal.returns-then-takes_query-clause-few
returns-then-takes_query-clause-few g c =
    takes_none (vec_len c.args.buf.now) (g.R.Inlet.input c.args.reader.now) c.select.result

pub returns-clause-few : goal.returns-clause-few
returns-clause-few g c =
    let head = c.head_of-head.ensures in
    let post : takes_query c.in-Ok.path ≡ false = search rules in
    let length : c.in-Ok-length.length ≤ 1048576 =
    length_few (fields_of head.0) c.in-Ok-length.length
    (sym head.1.length_is ∙ c.in-Ok-length.is) in
    let start : c.head_of-head.result.end ≤ 8192 = grind arith in
    takes_body c.in-Ok.path _ c.body_request.result (vec_len c.args.buf.now)
    (g.R.Inlet.input c.args.reader.now) (g.R.Inlet.input c.read_body.new.reader) post
    c.body_request.ensures
    (takes_read c.args.buf.now.items c.read_body.new.buf.items (vec_len c.args.buf.now)
    (vec_len c.read_body.new.buf) (g.R.Inlet.input c.args.reader.now)
    (g.R.Inlet.input c.read_body.new.reader)
    (c.head_of-head.result.end + c.in-Ok-length.length) 1056768
    c.args.buf.now.ok.0 c.read_body.new.buf.ok.0 c.in_ok-read_body.ensures.bytes
    c.in_ok-read_body.ensures.few (omega (arith, length, start))
    (omega (arith, c.requires.short)))

pub returns-then-takes_query-clause-refusal : goal.returns-then-takes_query-clause-refusal
returns-then-takes_query-clause-refusal g c =
    let query = c.query_text.result.now in
    told_ends (SelectMeans query) (select_ends query) c.select.result c.select.ensures
