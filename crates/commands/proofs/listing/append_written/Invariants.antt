use Rattle.std.proofs.Common.{◌≡◌, ◌++◌, drop}
use Rattle.matchers.specs.Grammar.{written}
use Rattle.commands.proofs.listing.append_written.Given as goal

-- what was written, and what is left
abbrev pub invariant-loop-byte : goal.invariant-loop-byte
invariant-loop-byte l =
    l.out.items ++ written (drop l.byte-index l.text) ≡ l.initial.out.items ++ written l.text
