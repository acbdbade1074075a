use Rattle.std.proofs.Common.{refl, rules}
use Rattle.logged_folder.proofs.Logs.{push_from}
use Rattle.logged_folder.proofs.LoggedFolder.erase.Goals as goal

pub returns-clause-done : goal.returns-clause-done
returns-clause-done c told =
    push_from c.args.name.now _ _ c.args.self.now.log.items c.goes_well.new.self.log.items _
    (c.push.ensures.done told) (search rules) refl
