use Rattle.std.proofs.Common.{rules}
use Rattle.logged_folder.proofs.Logs.{one_pushed}
use Rattle.logged_folder.proofs.LoggedFolder.push.Goals as goal

pub returns-clause-done : goal.returns-clause-done
returns-clause-done c told =
    one_pushed _ c.args.name.now c.args.self.now.log.items _ c.in-Ok-push.ensures.items
    (search rules)
