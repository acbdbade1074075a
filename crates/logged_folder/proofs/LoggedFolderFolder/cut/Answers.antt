use Rattle.std.proofs.Common.{◌≤◌, min, sym, subst, ◌∙◌, arith}
use Rattle.data_folder.specs.Folders.{MayGrow}
use Rattle.logged_folder.specs.Logged.{State, logged_kept, logged_shows}
use Rattle.logged_folder.proofs.Logs.{all_same, others_kept, others_time, own_state, same_time}
use Rattle.logged_folder.proofs.LogCalls.{cut_left, cut_so}
use Rattle.logged_folder.proofs.LoggedFolderFolder.cut.Goals as goal

pub returns-then-shorten-clause-cut : goal.returns-then-shorten-clause-cut
returns-then-shorten-clause-cut c old shown =
    let d = c.shorten.ensures.done c.if-shorten.true in
    cut_so c.args.self.now.log.items _ c.args.name.now c.args.len d.0 old d.1 d.2 shown

pub returns-then-shorten-clause-durable : goal.returns-then-shorten-clause-durable
returns-then-shorten-clause-durable c =
    let d = c.shorten.ensures.done c.if-shorten.true in
    subst (λ (s : State). c.args.len ≤ s.synced) (sym (own_state _ _ _ _ d.2)) (omega arith)

pub returns-then-shorten-clause-others : goal.returns-then-shorten-clause-others
returns-then-shorten-clause-others c =
    let d = c.shorten.ensures.done c.if-shorten.true in
    others_kept c.args.self.now _ c.args.name.now c.args.name.now _ d.2

pub returns-then-shorten-clause-time : goal.returns-then-shorten-clause-time
returns-then-shorten-clause-time c =
    let d = c.shorten.ensures.done c.if-shorten.true in
    others_time c.args.self.now _ c.args.name.now c.args.name.now _
    (MayGrow logged_shows logged_kept c.args.self.now c.args.name.now (λ old. old)
    (λ n. min c.args.len n)) d.2
    (λ left m bytes n shown kept. cut_left c.args.len n d.0 bytes (left c.args.name.now)
    (sym d.1 ∙ shown) m)

pub returns-clause-others : goal.returns-clause-others
returns-clause-others c =
    all_same c.args.self.now _ c.args.name.now c.args.name.now (c.shorten.ensures.not_done c.if-shorten.false)

pub returns-clause-time : goal.returns-clause-time
returns-clause-time c = same_time c.args.self.now.log.items _ _ (c.shorten.ensures.not_done c.if-shorten.false)
