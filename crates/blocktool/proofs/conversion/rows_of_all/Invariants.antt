use Rattle.std.proofs.Common.{take}
use Rattle.block_outputs.specs.Joined.{lists_in}
use Rattle.blocktool.specs.Conversion.{AreGiven}
use Rattle.blocktool.proofs.conversion.rows_of_all.Given as goal

abbrev pub invariant-loop-input : goal.invariant-loop-input
invariant-loop-input g l =
    AreGiven g.I.Input.may_give (take l.input-index l.inputs) l.times (lists_in l.lists.items)
    l.initial.tally l.tally
