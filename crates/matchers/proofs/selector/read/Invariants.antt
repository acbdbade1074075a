use Rattle.std.proofs.Common.{length}
use Rattle.std.specs.Str.Iter.{chars_rest}
use Rattle.matchers.specs.Scanner.{ReadUpTo}
use Rattle.matchers.proofs.selector.read.Given as goal

abbrev pub invariant-loop-c : goal.invariant-loop-c
invariant-loop-c l = ReadUpTo l.text (chars_rest l.chars) l.state l.reading l.at

abbrev pub decreases-loop-c : goal.decreases-loop-c
decreases-loop-c l = length (chars_rest l.chars)
