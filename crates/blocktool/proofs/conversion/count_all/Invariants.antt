use Rattle.std.proofs.Common.{◌≡◌, take}
use Rattle.block_outputs.specs.Joined.{lists_in}
use Rattle.blocktool.specs.Conversion.{samples_in_all, capped}
use Rattle.blocktool.proofs.conversion.count_all.Given as goal

abbrev pub invariant-loop-rows : goal.invariant-loop-rows
invariant-loop-rows l = l.count ≡ capped (samples_in_all (lists_in (take l.rows-index l.lists)))
