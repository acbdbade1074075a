use Rattle.std.proofs.Common.{◌∙◌, sym, ap}
use Rattle.remote_http.specs.Reading.{are_named}
use Rattle.remote_http.proofs.Answered.{answer_added, found_unnamed, nothing_added}
use Rattle.remote_http.proofs.read.add_answer.Goals as goal

pub returns-in_ok-put_answer-in-None : goal.returns-in_ok-put_answer-in-None
returns-in_ok-put_answer-in-None g c =
    nothing_added c.args.snapshot.now c.args.reading.now c.args.text.now.items c.put_answer.new.out.items c.in-None.is
    c.in_ok-put_answer-in-None.ensures

pub returns-then-not-are_named : goal.returns-then-not-are_named
returns-then-not-are_named g c =
    let found = c.in_ok-answer-in-Some.ensures in
    found_unnamed c.args.snapshot.now c.args.reading.now c.in-Some.query c.in_ok-answer-in-Some.answer c.rows.result.now
    c.in-Some.is (record { each = found.each; rows = found.rows }) found.whole c.rows.ensures
    (sym c.are_named.ensures ∙ c.if-not-are_named.true)

pub returns-in_ok-put_answer-in-Some : goal.returns-in_ok-put_answer-in-Some
returns-in_ok-put_answer-in-Some g c =
    let found = c.in_ok-answer-in-Some.ensures in
    answer_added c.args.snapshot.now c.args.reading.now c.in-Some.query c.in_ok-answer-in-Some.answer c.rows-in-Some.result.now
    c.args.text.now.items c.put_answer-in-Some.new.out.items c.in-Some.is (record { each = found.each; rows = found.rows })
    found.whole c.rows-in-Some.ensures
    (ap are_named (c.rows-in-Some.ensures ∙ sym c.rows.ensures) ∙ sym c.are_named.ensures ∙ c.if-not-are_named.false)
    c.in_ok-put_answer-in-Some.ensures
