use Rattle.std.proofs.Common.{map, take}
use Rattle.std.specs.List.{AllZip}
use Rattle.remote_read.specs.Reading.{matcher_seen}
use Rattle.remote_requests.specs.Queries.{IsMatcherOf}
use Rattle.remote_requests.proofs.reads.matchers_of.Given as goal

abbrev pub invariant-loop-matcher : goal.invariant-loop-matcher
invariant-loop-matcher l =
    AllZip IsMatcherOf (map matcher_seen (take l.matcher-index l.sent)) l.matchers.items
