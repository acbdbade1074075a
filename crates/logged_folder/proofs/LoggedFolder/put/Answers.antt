use Rattle.std.proofs.Common.{Some, length, rules}
use Rattle.logged_folder.proofs.Logs.{push_from, state_with}
use Rattle.logged_folder.proofs.LoggedFolder.put.Goals as goal

pub returns-in-Ok-clause-done : goal.returns-in-Ok-clause-done
returns-in-Ok-clause-done c told =
    push_from c.args.name.now _ _ c.args.self.now.log.items c.goes_well.new.self.log.items _
    (c.push.ensures.done told) (search rules)
    (state_with (Some c.in-Ok.copy.items) (Some c.args.bytes.now) _ (length c.args.bytes.now)
    (search rules) (search rules))
