use Rattle.std.proofs.Common.{w64}
use Rattle.std.proofs.lemmas.Int.{to_z-of_z}
use Rattle.remote_http.specs.Workers.{worker}
use Rattle.remote_http.proofs.Served.{barred_idle}
use Rattle.remote_http.proofs.engine.answer.Goals as goal

pub returns-clause-barred : goal.returns-clause-barred
returns-clause-barred g c =
    barred_idle c.args.rules.now c.args.version.now c.args.now c.args.came g.J.Naming.opening g.K.Keeper.idle
    (worker c.args.pass.now c.args.seat.now) (worker c.reply_to.new.pass c.reply_to.new.seat)
    c.reply_to.result (rw (to_z-of_z w64 c.args.now c.ranges.now) at c.reply_to.ensures.reply)
    (rw (to_z-of_z w64 c.args.now c.ranges.now) at c.reply_to.ensures.silent)
