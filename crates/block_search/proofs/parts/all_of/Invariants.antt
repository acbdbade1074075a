use Rattle.std.proofs.Common.{◌≡◌, map, Ok}
use Rattle.block_search.proofs.parts.all_of.Given as goal

abbrev pub invariant-loop-answer : goal.invariant-loop-answer
invariant-loop-answer l = map Ok l.answers.items ≡ l.yielded
