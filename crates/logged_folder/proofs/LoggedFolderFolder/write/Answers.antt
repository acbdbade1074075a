use Rattle.std.proofs.Common.{◌≤◌, length, ap, sym, subst, arith}
use Rattle.data_folder.specs.Folders.{Left}
use Rattle.logged_folder.specs.Logged.{State}
use Rattle.logged_folder.proofs.Logs.{all_same, others_kept, others_time, own_state, same_time}
use Rattle.logged_folder.proofs.LoggedFolderFolder.write.Goals as goal

pub returns-then-put-clause-written : goal.returns-then-put-clause-written
returns-then-put-clause-written c =
    let d = c.put.ensures.done c.if-put.true in
    let is = own_state c.args.name.now _ c.args.self.now.log.items _ d in
    record {
      shown = ap (λ (s : State). s.bytes) is;
      durable = subst (λ (s : State). length c.args.bytes.now ≤ s.synced) (sym is) (omega arith);
    }

pub returns-then-put-clause-others : goal.returns-then-put-clause-others
returns-then-put-clause-others c =
    others_kept c.args.self.now _ c.args.name.now c.args.name.now _
    (c.put.ensures.done c.if-put.true)

pub returns-then-put-clause-time : goal.returns-then-put-clause-time
returns-then-put-clause-time c =
    others_time c.args.self.now _ c.args.name.now c.args.name.now _ (λ (left : Left). Unit {0})
    (c.put.ensures.done c.if-put.true) (λ left m. tt)

pub returns-clause-others : goal.returns-clause-others
returns-clause-others c =
    all_same c.args.self.now _ c.args.name.now c.args.name.now (c.put.ensures.not_done c.if-put.false)

pub returns-clause-time : goal.returns-clause-time
returns-clause-time c = same_time c.args.self.now.log.items _ _ (c.put.ensures.not_done c.if-put.false)
