use Rattle.std.proofs.Common.{◌≡◌, ◌++◌, drop}
use Rattle.std.specs.Prelude.{if◌then◌else◌}
use Rattle.commands.specs.Listing.{inner_text, further_text}
use Rattle.commands.proofs.listing.append_matchers.Given as goal

-- what was written, and what is left
abbrev pub invariant-loop-matcher : goal.invariant-loop-matcher
invariant-loop-matcher l =
    l.out.items ++ (if l.is_first then inner_text (drop l.matcher-index l.matchers)
    else further_text (drop l.matcher-index l.matchers))
    ≡ l.initial.out.items ++ inner_text l.matchers
