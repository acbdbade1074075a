use Rattle.std.proofs.Common.{refl}
use Rattle.logged_folder.proofs.Logs.{all_kept, same_time}
use Rattle.logged_folder.proofs.LoggedFolderFolder.names.Goals as goal

pub returns-in-Ok-clause-all : goal.returns-in-Ok-clause-all
returns-in-Ok-clause-all c = all_kept c.args.self.now _ refl

pub returns-in-Ok-clause-time : goal.returns-in-Ok-clause-time
returns-in-Ok-clause-time c =
    same_time c.args.self.now.log.items c.args.self.now.log.items _ refl

pub returns-in-Err-clause-all : goal.returns-in-Err-clause-all
returns-in-Err-clause-all c = all_kept c.args.self.now _ refl

pub returns-in-Err-clause-time : goal.returns-in-Err-clause-time
returns-in-Err-clause-time c =
    same_time c.args.self.now.log.items c.args.self.now.log.items _ refl
