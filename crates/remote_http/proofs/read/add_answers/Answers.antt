use Rattle.std.proofs.Common.{List, arith, subst}
use Rattle.std.proofs.lemmas.List.{take_all}
use Rattle.remote_requests.specs.declared.asked.Reading.{Reading}
use Rattle.remote_http.specs.Answering.{HasAnswers}
use Rattle.remote_http.proofs.Answered.{none_answered, one_answered, one_unnamed}
use Rattle.remote_http.proofs.read.add_answers.Goals as goal

pub returns-then-not-branch : goal.returns-then-not-branch
returns-then-not-branch g c = λ front r.
    one_unnamed c.args.snapshot.now c.args.readings.now c.loop-reading.reading-index c.reading-item.result (omega arith) c.reading-item.is
    (rw c.if-not-branch.true at c.in_ok-add_answer.ensures)

pub loop-reading-init : goal.loop-reading-init
loop-reading-init g c = λ front r. none_answered front c.args.snapshot.now c.args.text.now.items r

pub loop-reading-preserved : goal.loop-reading-preserved
loop-reading-preserved g c = λ front r.
    one_answered front c.args.snapshot.now c.args.readings.now c.loop-reading.reading-index c.reading-item.result
    c.loop-reading.text.items c.add_answer.new.text.items (omega arith) c.reading-item.is (c.loop-reading.invariant front r)
    (rw c.if-not-branch.false at c.in_ok-add_answer.ensures)

pub returns : goal.returns
returns g c = λ front r.
    subst (λ (rs : List Reading). HasAnswers front c.args.snapshot.now rs c.loop-reading.text.items)
    (take_all c.loop-reading.reading-index c.args.readings.now (omega arith)) (c.loop-reading.invariant front r)
