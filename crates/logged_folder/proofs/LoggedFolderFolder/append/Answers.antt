use Rattle.std.proofs.Common.{◌++◌, ◌≤◌, sym, subst, ◌∙◌}
use Rattle.data_folder.specs.Folders.{MayGrow}
use Rattle.logged_folder.specs.Logged.{State, logged_kept, logged_shows, state_of}
use Rattle.logged_folder.proofs.LogCalls.{grown, grown_so}
use Rattle.logged_folder.proofs.Logs.{others_kept, others_time, own_state}
use Rattle.logged_folder.proofs.Parts.{part_from, part_kept, part_others, part_shown, part_time}
use Rattle.logged_folder.proofs.LoggedFolderFolder.append.Goals as goal

pub returns-then-grow-clause-written : goal.returns-then-grow-clause-written
returns-then-grow-clause-written c old shown =
    let d = c.grow.ensures.done c.if-grow.true in
    grown_so c.args.self.now.log.items _ c.args.name.now c.args.bytes.now d.0 old d.1 d.2 shown

pub returns-then-grow-clause-kept : goal.returns-then-grow-clause-kept
returns-then-grow-clause-kept c n kept =
    let d = c.grow.ensures.done c.if-grow.true in
    subst (λ (s : State). n ≤ s.synced) (sym (own_state _ _ _ _ d.2)) kept

pub returns-then-grow-clause-others : goal.returns-then-grow-clause-others
returns-then-grow-clause-others c =
    let d = c.grow.ensures.done c.if-grow.true in
    others_kept c.args.self.now _ c.args.name.now c.args.name.now _ d.2

pub returns-then-grow-clause-time : goal.returns-then-grow-clause-time
returns-then-grow-clause-time c =
    let d = c.grow.ensures.done c.if-grow.true in
    others_time c.args.self.now _ c.args.name.now c.args.name.now _
    (MayGrow logged_shows logged_kept c.args.self.now c.args.name.now
    (λ old. old ++ c.args.bytes.now) (λ n. n)) d.2
    (λ left m bytes n shown kept. grown (λ old. old ++ c.args.bytes.now) n
    (state_of c.args.name.now c.args.self.now.log.items).synced d.0 bytes
    (left c.args.name.now) (sym d.1 ∙ shown) kept m)

pub returns-clause-part : goal.returns-clause-part
returns-clause-part c old shown =
    part_shown c.args.self.now.log.items _ c.args.name.now c.args.bytes.now old
    (part_from c.args.self.now.log.items _ _ c.args.name.now c.args.bytes.now
    (c.grow.ensures.not_done c.if-grow.false) c.grow_by_half.ensures.grown) shown

pub returns-clause-kept : goal.returns-clause-kept
returns-clause-kept c n kept =
    part_kept c.args.self.now.log.items _ c.args.name.now c.args.bytes.now n
    (part_from c.args.self.now.log.items _ _ c.args.name.now c.args.bytes.now
    (c.grow.ensures.not_done c.if-grow.false) c.grow_by_half.ensures.grown) kept

pub returns-clause-others : goal.returns-clause-others
returns-clause-others c =
    part_others c.args.self.now _ c.args.name.now c.args.bytes.now
    (part_from c.args.self.now.log.items _ _ c.args.name.now c.args.bytes.now
    (c.grow.ensures.not_done c.if-grow.false) c.grow_by_half.ensures.grown)

pub returns-clause-time : goal.returns-clause-time
returns-clause-time c =
    part_time c.args.self.now _ c.args.name.now c.args.bytes.now
    (part_from c.args.self.now.log.items _ _ c.args.name.now c.args.bytes.now
    (c.grow.ensures.not_done c.if-grow.false) c.grow_by_half.ensures.grown)
