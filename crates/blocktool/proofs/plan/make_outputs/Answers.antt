use Rattle.std.proofs.Common.{List, subst}
use Rattle.block_outputs.specs.declared.tiles.Stretch.{Stretch}
use Rattle.blocktool.specs.Conversion.{AreConverted}
use Rattle.blocktool.proofs.plan.make_outputs.Goals as goal

pub returns-in-Some : goal.returns-in-Some
returns-in-Some g c = record {
  account = c.in_ok-account.account;
  converted =
      subst (λ (ts : List Stretch). AreConverted g.I.Input.may_give g.D.Disk.did c.args.inputs.items
      c.args.target.now.into.now c.args.target.now.values ts c.in_ok-account.account c.args.disk.now c.convert.new.disk)
      c.as_slice.ensures.value c.in_ok-account.ensures;
  told = c.in-Some.ensures;
}
