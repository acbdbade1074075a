use Rattle.std.proofs.Common.{◌∙◌, ap}
use Rattle.kept_world.specs.States.{State, numbered}
use Rattle.kept_world.specs.Births.{came_by}
use Rattle.kept_world.proofs.Growing.{head_at}
use Rattle.kept_world.proofs.world.World.head_at.Goals as goal

pub returns-clause-of_run : goal.returns-clause-of_run
returns-clause-of_run c = λ first bs p born run l e.
    let w = head_at bs first c.args.self.now p born run l in (
      w.0,
      w.1,
      c.in_ok-came_by.ensures
          ∙ ap (λ (z : State). numbered 1 (came_by c.args.number z.head)) c.self.view_is
          ∙ ap (λ n. numbered 1 (came_by n c.args.self.now.head)) e ∙ ap (numbered 1) w.2,
    )
