use denote.Param.{param}
use denote.Param.Send.{IsSend, IsSync, sendable}
use Rattle.std.proofs.Crossing as heap
use Rattle.std.proofs.Common.{rules, ◌≡◌, ◌/◌, ◌++◌, [], ap, ℕ, Vec, Global, length, arith}
use Rattle.std.proofs.lemmas.Result.{IfOk-at_ok}
use Rattle.answers.specs.AfterCommas.{run_text}
use Rattle.answers.specs.Joined.{joined}
use Rattle.answers.proofs.Crossing.{Row-sync}
use Rattle.answers.proofs.Runs.{run_halves}
use Rattle.answers.proofs.pieces.+runs.Given.{Over}
use Rattle.answers.proofs.pieces.+runs.Lts-runs_of as lts
use Rattle.answers.proofs.pieces.+runs.Goals as goal

-- Threads may share what the closures capture. It stands by itself, since the search for it also
-- walks all that a goal knows.
closure-send : (g : Over) (κs : _) → IsSync (param 0 g.row.R)
    → IsSend (param 1 (lts.arg-3-1 g.row.R g.R.laws g.R.Threads-dict κs))
closure-send g κs sync = search (sendable, heap.crosses, Row-sync) depth 60 fits 20000

pub join-early-requires-send-F : goal.join-early-requires-send-F
join-early-requires-send-F g t c κs within = closure-send g κs (search rules)

pub returns : goal.returns
returns g t c =
    let rows = c.args.rows.now in
    let half = length rows / 2 in
    let front = IfOk-at_ok (λ (pieces : Vec (Vec ℕ Global) Global).
    joined pieces.items ≡ run_text c.args.first c.split_at.result.0.now ++ []) c.in_ok-pieces.was
    c.join-early.ensures.first in
    let back = IfOk-at_ok (λ (pieces : Vec (Vec ℕ Global) Global).
    joined pieces.items ≡ run_text 44 c.split_at.result.1.now ++ c.args.last.now) c.in_ok-more.was
    c.join-early.ensures.second in
    run_halves c.args.first c.args.last.now rows c.split_at.result.0.now
    c.split_at.result.1.now half _ c.in_ok-pieces.pieces.items c.in_ok-more.more.items
    c.in_ok-append.ensures.items
    c.split_at.ensures.front c.split_at.ensures.back
    (omega (arith, ap length c.split_at.ensures.front, c.if-count-lt2.false))
    (omega (arith, ap length c.split_at.ensures.back, c.if-count-lt2.false))
    front back
