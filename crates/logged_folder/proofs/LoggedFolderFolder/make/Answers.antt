use Rattle.std.proofs.Common.{refl}
use Rattle.logged_folder.proofs.Logs.{all_kept, same_time}
use Rattle.logged_folder.proofs.LoggedFolderFolder.make.Goals as goal

pub returns-clause-all : goal.returns-clause-all
returns-clause-all c = all_kept c.args.self.now _ refl

pub returns-clause-time : goal.returns-clause-time
returns-clause-time c = same_time c.args.self.now.log.items c.args.self.now.log.items _ refl
