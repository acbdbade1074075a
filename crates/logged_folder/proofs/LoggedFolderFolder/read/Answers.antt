use Rattle.std.proofs.Common.{refl, arith}
use Rattle.logged_folder.proofs.LogCalls.{all_settled, found_so, read_time}
use Rattle.logged_folder.proofs.Logs.{all_kept, same_time}
use Rattle.logged_folder.proofs.LoggedFolderFolder.read.Goals as goal

pub returns-then-is_free-clause-all : goal.returns-then-is_free-clause-all
returns-then-is_free-clause-all c = all_kept c.args.self.now _ refl

pub returns-then-is_free-clause-time : goal.returns-then-is_free-clause-time
returns-then-is_free-clause-time c = same_time c.args.self.now.log.items c.args.self.now.log.items _ refl

pub returns-then-is_free-clause-found : goal.returns-then-is_free-clause-found
returns-then-is_free-clause-found c = (c.is_free.ensures c.if-is_free.true, omega arith)

pub returns-in-Some-clause-found : goal.returns-in-Some-clause-found
returns-in-Some-clause-found c =
    found_so c.settled.new.self c.args.self.now c.args.name.now c.in-Some.bytes.items
    c.in-Some.ensures.done.1

pub returns-in-Some-clause-all : goal.returns-in-Some-clause-all
returns-in-Some-clause-all c =
    all_settled c.args.self.now c.settled.new.self c.args.name.now c.in-Some.bytes.items
    c.in-Some.ensures.done.0 c.in-Some.ensures.done.1

pub returns-in-Some-clause-time : goal.returns-in-Some-clause-time
returns-in-Some-clause-time c =
    read_time c.args.self.now c.settled.new.self c.args.name.now c.in-Some.bytes.items
    c.in-Some.ensures.done.0 c.in-Some.ensures.done.1

pub returns-in-None-clause-all : goal.returns-in-None-clause-all
returns-in-None-clause-all c = all_kept c.args.self.now _ c.in-None.ensures.not_done

pub returns-in-None-clause-time : goal.returns-in-None-clause-time
returns-in-None-clause-time c = same_time c.args.self.now.log.items _ _ c.in-None.ensures.not_done
