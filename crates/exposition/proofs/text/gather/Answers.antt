use Rattle.std.proofs.Common.{arith}
use Rattle.std.proofs.lemmas.Result.{err_from_is_err_and}
use Rattle.exposition.specs.Reading.{said_in, unsaid}
use Rattle.exposition.proofs.AllLines.{all_more, exemplars_few, exemplars_more, first_wrong}
use Rattle.exposition.proofs.text.gather.Goals as goal

pub loop-line-preserved : goal.loop-line-preserved
loop-line-preserved c =
    let l = c.loop-line in
    let has = c.in_ok-has.has in
    record {
      number = omega (arith, l.invariant.number);
      adds =
          all_more c.args.format c.args.places c.args.reading c.args.lines.now l.line-index
          l.number _ unsaid (said_in l.gathered) (said_in c.add_line.new.gathered)
          c.loop-line-test.true l.invariant.number l.invariant.adds c.in_ok-has.ensures.adds;
      few = exemplars_few has _ l.line-index l.exemplars c.from-exemplars.ensures l.invariant.few;
      counted =
          exemplars_more c.args.format c.args.places c.args.lines.now l.line-index l.exemplars _ has
          _ c.loop-line-test.true l.invariant.counted c.in_ok-has.ensures.told
          c.from-exemplars.ensures;
    }

pub returns-in_err-has-clause-wrong : goal.returns-in_err-has-clause-wrong
returns-in_err-has-clause-wrong c =
    let p = err_from_is_err_and c.from_residual.result c.from_residual.ensures.1 in
    let l = c.loop-line in
    rw (p.1, p.2) (first_wrong c.in_err-has.field-0.0 c.args.format c.args.places
    c.args.reading c.args.lines.now l.line-index l.number _ (said_in l.gathered) c.loop-line-test.true
    l.invariant.number l.invariant.adds c.in_err-has.ensures.wrong)
