use Rattle.std.proofs.Common.{◌≡◌, ◌∙◌, true, false, sym}
use Rattle.std.proofs.lemmas.Int.{to_z-of_z}
use mir.Syntax.{w64}
use Rattle.join_schedule.proofs.expiring.expired_end.Goals as goal

not_so : true ≡ false → ⊥
not_so b = cc

pub returns-then-has_expired-clause-some : goal.returns-then-has_expired-clause-some
returns-then-has_expired-clause-some c =
    rw (← to_z-of_z w64 c.args.floor c.ranges.floor, ← to_z-of_z w64 c.args.now c.ranges.now)
    (c.has_expired.ensures.0 c.if-has_expired.true)

pub returns-else-has_expired-clause-none : goal.returns-else-has_expired-clause-none
returns-else-has_expired-clause-none c =
    rw (← to_z-of_z w64 c.args.floor c.ranges.floor, ← to_z-of_z w64 c.args.now c.ranges.now)
    (λ e. not_so (sym (c.has_expired.ensures.1 e) ∙ c.if-has_expired.false))
