use Rattle.std.proofs.Common.{◌+◌, ◌<◌, List, length, refl, rules, subst, sym, take}
use Rattle.std.proofs.lemmas.Option.{slice_get_read}
use Rattle.logged_folder.specs.declared.Entry.{Entry}
use Rattle.logged_folder.specs.Logged.{MayLeaveAll, files_of}
use Rattle.logged_folder.proofs.Leavings.{left_further}
use Rattle.logged_folder.proofs.LoggedFolder.left.Goals as goal

pub loop-at-preserved : goal.loop-at-preserved
loop-at-preserved c =
    let log = c.args.self.now.log.items in
    let at = c.loop-at.at in
    let e = c.index.result.now in
    let lt : at < length log = search rules in
    subst (λ (l : List Entry). MayLeaveAll (take (at + 1) log) (files_of l))
    (sym {A = List Entry} c.in_ok-push.ensures.items)
    (left_further log c.loop-at.log.items at e c.in_ok-entry_left.field-0
    (slice_get_read log (length log) at e refl lt c.index.ensures) c.in_ok-entry_left.ensures
    c.loop-at.invariant)
