use Rattle.std.proofs.Common.{◌≡◌, List, ℕ, Some, length, max, subst, sym, ◌∙◌}
use Rattle.logged_folder.specs.Logged.{Pushes, state_of}
use Rattle.logged_folder.proofs.LogCalls.{same_some}
use Rattle.logged_folder.proofs.LoggedFolder.settled.Goals as goal

pub returns-then-settle-clause-done : goal.returns-then-settle-clause-done
returns-then-settle-clause-done c =
    let d = c.settle.ensures.done c.if-settle.true in
    let old = c.args.self.now.log.items in
    let name = c.args.name.now in
    let same : d.0 ≡ c.in-Some.bytes.items =
    same_some d.0 c.in-Some.bytes.items (sym d.1 ∙ c.in-Some.ensures.0) in (
      c.in-Some.ensures.0,
      subst (λ (b : List ℕ). Pushes name (record {
        bytes = Some b;
        synced = max (state_of name old).synced (length b);
      }) old c.settle.new.self.log.items) same d.2,
    )
