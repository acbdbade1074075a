use Rattle.remote_requests.proofs.HeadFronts.{whole_head, no_head_ever, ends_early, too_long}
use Rattle.remote_requests.proofs.head.head_in.Goals as goal
use Rattle.remote_requests.proofs.head.head_in.Goals.{then-most-lt-MAX_HEAD, else-most-lt-MAX_HEAD}

pub returns-in-Whole-clause-ok : goal.returns-in-Whole-clause-ok
returns-in-Whole-clause-ok c =
    whole_head c.args.bytes.now c.min-most.result c.in-Whole.head c.min-most.ensures
    c.in-Whole.ensures

pub returns-in-Never-clause-err : goal.returns-in-Never-clause-err
returns-in-Never-clause-err c =
    no_head_ever c.args.bytes.now c.min-most.result c.min-most.ensures c.in-Never.ensures

pub returns-after-most-lt-MAX_HEAD-clause-err : goal.returns-after-most-lt-MAX_HEAD-clause-err
returns-after-most-lt-MAX_HEAD-clause-err c =
    elim c.if-most-lt-MAX_HEAD.branch [
      | then-most-lt-MAX_HEAD w ↦
          rw w.result-is (ends_early c.args.bytes.now c.min-most.result c.min-most.ensures
          c.requires w.if-most-lt-MAX_HEAD.true c.in-More.ensures.0)
      | else-most-lt-MAX_HEAD w ↦
          rw w.result-is (too_long c.args.bytes.now c.min-most.result c.min-most.ensures
          w.if-most-lt-MAX_HEAD.false c.in-More.ensures.0 c.in-More.ensures.1)
    ]
