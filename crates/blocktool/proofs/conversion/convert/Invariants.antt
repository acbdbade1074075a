use Rattle.std.proofs.Common.{◌≡◌, ◌<◌, List, length, take}
use Rattle.labels.specs.Rows.{Row}
use Rattle.blocktool.specs.Conversion.{AreConvertedFrom, nothing}
use Rattle.blocktool.proofs.conversion.convert.Given as goal

abbrev pub invariant-loop-at : goal.invariant-loop-at
invariant-loop-at g l = record {
  converted : (outputs : List (List Row))
      × AreConvertedFrom g.I.Input.may_give g.D.Disk.did l.fn.inputs.items l.target.into.now l.target.values
      (take l.at l.tiles) outputs nothing l.account l.initial.disk l.disk;
  kept : l.at < length l.tiles → l.left.items ≡ l.fn.inputs.items;
}
