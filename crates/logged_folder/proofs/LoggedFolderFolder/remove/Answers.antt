use Rattle.std.proofs.Common.{ap, arith}
use Rattle.data_folder.specs.Folders.{Left}
use Rattle.logged_folder.specs.Logged.{State}
use Rattle.logged_folder.proofs.Logs.{all_same, others_kept, others_time, own_state, same_time}
use Rattle.logged_folder.proofs.LoggedFolderFolder.remove.Goals as goal

pub returns-then-erase-clause-removed : goal.returns-then-erase-clause-removed
returns-then-erase-clause-removed c =
    let is = own_state c.args.name.now _ c.args.self.now.log.items _
    (c.erase.ensures.done c.if-erase.true) in
    (ap (λ (s : State). s.bytes) is, omega arith)

pub returns-then-erase-clause-others : goal.returns-then-erase-clause-others
returns-then-erase-clause-others c =
    others_kept c.args.self.now _ c.args.name.now c.args.name.now _
    (c.erase.ensures.done c.if-erase.true)

pub returns-then-erase-clause-time : goal.returns-then-erase-clause-time
returns-then-erase-clause-time c =
    others_time c.args.self.now _ c.args.name.now c.args.name.now _ (λ (left : Left). Unit {0})
    (c.erase.ensures.done c.if-erase.true) (λ left m. tt)

pub returns-clause-others : goal.returns-clause-others
returns-clause-others c =
    all_same c.args.self.now _ c.args.name.now c.args.name.now (c.erase.ensures.not_done c.if-erase.false)

pub returns-clause-time : goal.returns-clause-time
returns-clause-time c = same_time c.args.self.now.log.items _ _ (c.erase.ensures.not_done c.if-erase.false)
