use Rattle.std.proofs.Common.{◌+◌, List, [], ◌∷◌, ◌++◌, length, subst, refl, ◌∙◌, arith}
use Rattle.std.proofs.lemmas.List.{take_all}
use Rattle.labels.specs.Rows.{Row}
use Rattle.block_outputs.specs.declared.tiles.Stretch.{Stretch}
use Rattle.blocktool.specs.Conversion.{AreConvertedFrom, nothing}
use Rattle.blocktool.proofs.Contents.{whole_content}
use Rattle.blocktool.proofs.Given.{converted_as, converted_more, not_last}
use Rattle.blocktool.proofs.conversion.convert.Goals as goal

pub loop-at-init : goal.loop-at-init
loop-at-init g c = record {
  converted = ([], (refl, λ log d. d));
  kept = λ lt. refl;
}

pub loop-at-preserved : goal.loop-at-preserved
loop-at-preserved g c =
    let l = c.loop-at in
    let here = l.invariant.kept c.loop-at-test.true in
    let one = c.in_ok-convert_one.ensures.converted in
    record {
      converted = (
        l.invariant.converted.0 ++ one.0 ∷ [],
        converted_more g.I.Input.may_give g.D.Disk.did c.args.inputs.items
            c.args.target.now.into.now c.args.target.now.values c.args.tiles.now l.at _ l.invariant.converted.0 one.0 _ _ _
            _ _ _ c.loop-at-test.true l.invariant.converted.1
            (converted_as g.I.Input.may_give g.D.Disk.did _ _ _ _ _ _ _ _ _ _ here one.1),
      );
      kept = λ lt.
          c.in_ok-convert_one.ensures.kept (not_last c.is_last_of.result (l.at + 1)
          (length c.args.tiles.now) c.is_last_of.ensures lt)
          ∙ here;
    }

pub returns : goal.returns
returns g c =
    let l = c.loop-at in
    let outputs = l.invariant.converted.0 in
    let each =
    subst (λ (ts : List Stretch). AreConvertedFrom g.I.Input.may_give g.D.Disk.did
    c.args.inputs.items c.args.target.now.into.now c.args.target.now.values ts outputs nothing l.account c.args.disk.now
    l.disk)
    (take_all l.at c.args.tiles.now (omega arith)) l.invariant.converted.1 in
    record {
      outputs = outputs;
      each = each;
      whole =
          whole_content g.I.Input.may_give g.D.Disk.did c.args.inputs.items
          c.args.target.now.into.now c.args.target.now.values c.args.tiles.now outputs nothing l.account
          c.args.disk.now l.disk each;
    }
