use Rattle.world_tests.proofs.restarts.running.Running.roll_if_due.Goals as goal

pub roll_if_due-requires : goal.roll_if_due-requires
roll_if_due-requires g c = record {
  made = λ keeps. (c.self.invariant.0, c.self.invariant.1, c.self.invariant.2);
}

pub invariant_of-self : goal.invariant_of-self
invariant_of-self g c = (
  c.self.invariant.0,
  c.roll_if_due.ensures.held c.self.invariant.0 c.self.invariant.1 (λ keeps. c.self.invariant.2),
  c.self.invariant.2,
  c.self.invariant.3,
)
