use Rattle.logged_folder.specs.Logged.{IsAtAmong}
use Rattle.logged_folder.proofs.last_of.Given as goal

abbrev pub invariant-loop-i : goal.invariant-loop-i
invariant-loop-i l = IsAtAmong l.log l.name l.i l.found
