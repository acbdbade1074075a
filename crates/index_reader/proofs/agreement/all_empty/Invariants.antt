use Rattle.std.proofs.Common.{◌≡◌, drop}
use Rattle.index_reader.specs.Reading.Carried.{all_empty}
use Rattle.index_reader.specs.Seen.{references_in_each}
use Rattle.index_reader.proofs.agreement.all_empty.Given as goal

abbrev pub invariant-loop-rest : goal.invariant-loop-rest
invariant-loop-rest l =
    all_empty (drop l.rest-index (references_in_each l.rests))
    ≡ all_empty (references_in_each l.rests)
