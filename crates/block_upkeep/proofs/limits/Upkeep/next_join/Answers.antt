use Rattle.std.proofs.Common.{subst, Option, None, Some, IfNone}
use Rattle.std.specs.Prelude.{ℤ}
use Rattle.std.proofs.lemmas.Int.{to_z-of_z}
use mir.Syntax.{w64}
use Rattle.join_schedule.specs.declared.blocks.Limits.{Limits}
use Rattle.join_schedule.specs.Windows.{NoWindowFits}
use Rattle.block_upkeep.proofs.limits.Upkeep.next_join.Goals as goal

none_so : {V P Q : Type 0} (o : Option V) → (P → Q) → IfNone o P → IfNone o Q
none_so None f h = f h
none_so (Some v) f h = tt

pub returns-clause-none : goal.returns-clause-none
returns-clause-none c =
    none_so c.plan.result
    (λ both some. subst (λ (l : Limits). NoWindowFits l c.args.floor c.args.blocks.now)
    c.limits.ensures
    (subst (λ (f : ℤ). NoWindowFits c.limits.result f c.args.blocks.now)
    (to_z-of_z w64 c.args.floor c.ranges.floor) both.0))
    c.plan.ensures.none
