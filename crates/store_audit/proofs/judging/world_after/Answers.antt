use Rattle.std.proofs.Common.{◌≡◌, Option, Some, subst}
use Rattle.std.specs.Prelude.{IfSome}
use Rattle.kept_world.specs.Births.{AreBornBy}
use Rattle.kept_world.specs.Changes.{IsRefusedAt, IsReplay, events_of}
use Rattle.kept_world.specs.States.{State, state_after}
use Rattle.store_audit.specs.Reports.{first_in}
use Rattle.store_audit.proofs.Born.{born_after}
use Rattle.store_audit.proofs.judging.world_after.Goals as goal

pub returns-in-Last : goal.returns-in-Last
returns-in-Last c =
    let events = events_of c.args.changes.now in
    let first = first_in c.args.beginning in
    let begun : c.in-Some.world ≡ first =
    subst (λ (o : Option State). IfSome o (λ s. s ≡ first)) c.in-Some.is c.in_ok-world.ensures.some in
    let leads = subst (IsReplay c.in-Some.world events) c.in-Last.is c.in_ok-world-in-Some.ensures in (
      subst (λ (s : State). state_after events s ≡ Some c.in-Last.world) begun leads,
      born_after events c.in-Some.world c.in-Last.world
          (subst (λ (o : Option State). IfSome o (λ s. AreBornBy s.number s.head)) c.in-Some.is
          c.in_ok-world.ensures.born) leads,
    )

pub returns-in-Refused : goal.returns-in-Refused
returns-in-Refused c =
    let events = events_of c.args.changes.now in
    let first = first_in c.args.beginning in
    let begun : c.in-Some.world ≡ first =
    subst (λ (o : Option State). IfSome o (λ s. s ≡ first)) c.in-Some.is c.in_ok-world.ensures.some in
    subst (λ (s : State). IsRefusedAt s events c.in-Refused.at) begun
    (subst (IsReplay c.in-Some.world events) c.in-Refused.is c.in_ok-world-in-Some.ensures)
