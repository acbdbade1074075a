use Rattle.std.proofs.Common.{map, refl}
use Rattle.std.proofs.lemmas.Result.{err_from_is_err_and}
use Rattle.remote_read.specs.Reading.{matcher_seen}
use Rattle.remote_requests.specs.Queries.{IsMatcherOf}
use Rattle.remote_requests.proofs.Lists.{parted, zip_turn}
use Rattle.remote_requests.proofs.ReadTurns.{matcher_fault}
use Rattle.remote_requests.proofs.reads.matchers_of.Goals as goal

pub returns-in_err-matcher_of : goal.returns-in_err-matcher_of
returns-in_err-matcher_of c =
    let p = err_from_is_err_and c.from_residual-in_err-matcher_of.result
    c.from_residual-in_err-matcher_of.ensures.1 in
    rw (p.1, p.2) (matcher_fault (map matcher_seen c.args.sent.now) _ _ _
    c.loop-matcher.matchers.items _
    (parted matcher_seen c.args.sent.now c.loop-matcher.matcher-index _ _ c.loop-matcher-test.true
    refl) c.loop-matcher.invariant c.in_err-matcher_of.ensures)

pub loop-matcher-preserved : goal.loop-matcher-preserved
loop-matcher-preserved c =
    zip_turn IsMatcherOf matcher_seen c.args.sent.now c.loop-matcher.matcher-index _ _
    c.loop-matcher.matchers.items _ c.in_ok-matcher_of.field-0 c.loop-matcher-test.true refl
    c.loop-matcher.invariant c.in_ok-matcher_of.ensures c.in_ok-push.ensures.items
