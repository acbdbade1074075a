use Rattle.std.proofs.Common.{◌≤◌, length, ap, sym, subst, ◌∙◌}
use Rattle.data_folder.specs.Folders.{IsOneOf}
use Rattle.logged_folder.specs.Logged.{State, logged_kept, logged_shows}
use Rattle.logged_folder.proofs.Logs.{all_same, others_kept, others_time, own_state, same_time}
use Rattle.logged_folder.proofs.LogCalls.{linked}
use Rattle.logged_folder.proofs.LoggedFolderFolder.replace.Goals as goal

pub returns-then-link-clause-replaced : goal.returns-then-link-clause-replaced
returns-then-link-clause-replaced c bytes has =
    let d = c.link.ensures.done c.if-link.true in
    let is = own_state c.args.to.now _ c.args.self.now.log.items _ d.2 in
    record {
      shown = ap (λ (s : State). s.bytes) is ∙ (sym d.1 ∙ has.shown);
      durable = subst (λ (s : State). length bytes ≤ s.synced) (sym is) has.durable;
    }

pub returns-then-link-clause-others : goal.returns-then-link-clause-others
returns-then-link-clause-others c =
    let d = c.link.ensures.done c.if-link.true in
    others_kept c.args.self.now _ c.args.from.now c.args.to.now _ d.2

pub returns-then-link-clause-time : goal.returns-then-link-clause-time
returns-then-link-clause-time c =
    let d = c.link.ensures.done c.if-link.true in
    others_time c.args.self.now _ c.args.from.now c.args.to.now _
    (IsOneOf logged_shows logged_kept c.args.self.now c.args.from.now c.args.to.now) d.2
    (λ left m x n bytes shown kept has. linked c.args.self.now c.args.from.now bytes d.0
    (left c.args.to.now) n x (sym d.1 ∙ has.shown) has.durable m)

pub returns-clause-others : goal.returns-clause-others
returns-clause-others c =
    all_same c.args.self.now _ c.args.from.now c.args.to.now (c.link.ensures.not_done c.if-link.false)

pub returns-clause-time : goal.returns-clause-time
returns-clause-time c = same_time c.args.self.now.log.items _ _ (c.link.ensures.not_done c.if-link.false)
