use Rattle.std.proofs.Common.{ap}
use Rattle.commands.proofs.Sendings.{more, stayed}
use Rattle.commands.proofs.sending.write_text.Goals.{in-Ok, in-Err}
use Rattle.commands.proofs.sending.write_text.Goals as goal

pub loop-preserved : goal.loop-preserved
loop-preserved g c =
    elim c.match-write.branch [
      | in-Ok w ↦
          more _ _ _ _ _ _ _ c.loop.invariant w.in-Ok.ensures.bytes (ap (λ r. r.now) w.rest-is)
      | in-Err w ↦
          stayed _ _ _ _ _ _ c.loop.invariant w.in-Err.ensures.bytes (ap (λ r. r.now) w.rest-is)
    ]
