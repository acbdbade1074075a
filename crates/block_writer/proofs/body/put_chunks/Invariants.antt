use Rattle.std.proofs.Common.{◌≡◌, ◌-◌, ◌++◌, drop, get_or}
use Rattle.block_writer.specs.EntryBodies.{later_texts, places_text}
use Rattle.block_writer.proofs.Placing.{none}
use Rattle.block_writer.proofs.body.put_chunks.Given as goal

abbrev pub invariant-loop-i : goal.invariant-loop-i
invariant-loop-i l =
    l.out.items ++ later_texts (get_or l.chunks (l.i - 1) none) (drop l.i l.chunks)
    ≡ l.fn.out.items ++ places_text l.chunks
