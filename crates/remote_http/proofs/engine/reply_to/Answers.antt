use Rattle.std.proofs.Common.{refl, rules, w64}
use Rattle.std.proofs.lemmas.Int.{to_z-of_z}
use Rattle.remote_http.specs.Workers.{worker}
use Rattle.remote_http.proofs.Means.{means_fit}
use Rattle.remote_http.proofs.Served.{asked_replied, asked_silent, refused_replied}
use Rattle.remote_http.proofs.engine.reply_to.Goals as goal

pub do_asked-requires : goal.do_asked-requires
do_asked-requires g c =
    let asks = rw (to_z-of_z w64 c.args.now c.ranges.now) at c.in-Ok.ensures in
    (search rules, means_fit c.args.rules.now c.args.now c.args.came.bytes.now c.in-Ok.asked asks.1)

pub returns-in-Ok-clause-reply : goal.returns-in-Ok-clause-reply
returns-in-Ok-clause-reply g c =
    let asks = rw (to_z-of_z w64 c.args.now c.ranges.now) at c.in-Ok.ensures in
    asked_replied c.args.rules.now c.args.version.now c.args.now c.args.came g.J.Naming.opening g.K.Keeper.idle
    (worker c.args.pass.now c.args.seat.now) (worker c.do_asked.new.pass c.do_asked.new.seat) c.do_asked.result c.in-Ok.asked
    asks.0 asks.1 (rw (to_z-of_z w64 c.args.now c.ranges.now) at c.do_asked.ensures.reply)

pub returns-in-Ok-clause-silent : goal.returns-in-Ok-clause-silent
returns-in-Ok-clause-silent g c =
    let asks = rw (to_z-of_z w64 c.args.now c.ranges.now) at c.in-Ok.ensures in
    asked_silent c.args.rules.now c.args.version.now c.args.now c.args.came g.J.Naming.opening g.K.Keeper.idle
    (worker c.args.pass.now c.args.seat.now) (worker c.do_asked.new.pass c.do_asked.new.seat) c.do_asked.result c.in-Ok.asked
    asks.0 asks.1 c.do_asked.ensures.front

pub returns-in-Err-Refused-clause-reply : goal.returns-in-Err-Refused-clause-reply
returns-in-Err-Refused-clause-reply g c =
    let told = rw c.in-Err-Refused.field-0-is at c.in-Err-Refused.ensures in
    let asks = rw (to_z-of_z w64 c.args.now c.ranges.now) at told in
    refused_replied c.args.rules.now c.args.version.now c.args.now c.args.came g.J.Naming.opening g.K.Keeper.idle
    (worker c.args.pass.now c.args.seat.now) (worker c.args.pass.now c.args.seat.now) c.turn_away.result c.in-Err-Refused.refusal
    asks.0 asks.1 refl c.turn_away.ensures.refused
