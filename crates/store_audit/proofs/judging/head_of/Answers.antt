use Rattle.std.proofs.Common.{ℕ, ap, ◌∙◌}
use Rattle.kept_world.specs.Births.{came_by}
use Rattle.kept_world.specs.States.{numbered}
use Rattle.kept_world.proofs.Growing.{came-all}
use Rattle.store_audit.proofs.judging.head_of.Goals as goal

pub returns : goal.returns
returns c =
    let world = c.args.world.now in
    c.in_ok-head_at.ensures.came
    ∙ (ap (λ (n : ℕ). numbered 1 (came_by n world.head)) c.number.ensures
    ∙ ap (numbered 1) (came-all world.number world.head c.requires))
