use Rattle.std.proofs.Common.{length, max, sym, ◌∙◌, arith}
use Rattle.data_folder.specs.Folders.{MayGrow}
use Rattle.logged_folder.specs.Logged.{logged_kept, logged_shows, state_of}
use Rattle.logged_folder.proofs.Logs.{all_same, others_kept, others_time, same_time}
use Rattle.logged_folder.proofs.LogCalls.{grown, settled}
use Rattle.logged_folder.proofs.LoggedFolderFolder.sync.Goals as goal

pub returns-then-settle-clause-same : goal.returns-then-settle-clause-same
returns-then-settle-clause-same c old shown =
    let d = c.settle.ensures.done c.if-settle.true in
    settled c.args.self.now _ c.args.name.now d.0 old d.1 d.2 shown

pub returns-then-settle-clause-others : goal.returns-then-settle-clause-others
returns-then-settle-clause-others c =
    let d = c.settle.ensures.done c.if-settle.true in
    others_kept c.args.self.now _ c.args.name.now c.args.name.now _ d.2

pub returns-then-settle-clause-time : goal.returns-then-settle-clause-time
returns-then-settle-clause-time c =
    let d = c.settle.ensures.done c.if-settle.true in
    others_time c.args.self.now _ c.args.name.now c.args.name.now _
    (MayGrow logged_shows logged_kept c.args.self.now c.args.name.now (λ old. old) (λ n. n)) d.2
    (λ left m bytes n shown kept. grown (λ old. old) n
    (max (state_of c.args.name.now c.args.self.now.log.items).synced (length d.0)) d.0 bytes
    (left c.args.name.now) (sym d.1 ∙ shown) (omega (arith, kept)) m)

pub returns-clause-others : goal.returns-clause-others
returns-clause-others c =
    all_same c.args.self.now _ c.args.name.now c.args.name.now (c.settle.ensures.not_done c.if-settle.false)

pub returns-clause-time : goal.returns-clause-time
returns-clause-time c = same_time c.args.self.now.log.items _ _ (c.settle.ensures.not_done c.if-settle.false)
