use Rattle.std.proofs.Common.{◌≡◌, ◌++◌, refl, rules}
use Rattle.journal.proofs.memory_medium.remember.Goals as goal

pub returns-clause-ok : goal.returns-clause-ok
returns-clause-ok c =
    let all : c.extend_from_slice.new.self.items ≡ c.args.bytes.now ++ c.args.more.now = search rules in
    ((c.extend_from_slice.new.self, c.args.low), all, refl, c.in_ok-push.ensures.items)
