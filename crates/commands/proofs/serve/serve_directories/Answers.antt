use Rattle.std.proofs.Common.{map, arith, inr}
use Rattle.std.proofs.lemmas.Result.{err_from_is_err_and}
use Rattle.head.specs.Blocks.{part_in}
use Rattle.commands.specs.ServingRuns.{by_opening, by_serving}
use Rattle.commands.proofs.LineEnds.{unused}
use Rattle.commands.proofs.Openings.{as_many}
use Rattle.commands.proofs.Servings.{all_counted}
use Rattle.commands.proofs.serve.serve_directories.Goals as goal

pub returns-in_err-blocks-clause-err : goal.returns-in_err-blocks-clause-err
returns-in_err-blocks-clause-err g c =
    let p = err_from_is_err_and c.from_residual.result c.from_residual.ensures.1 in
    rw (p.1, p.2)
    (by_opening c.in_err-blocks.ensures.err (unused _ (g.W.Write.contents c.args.out.now)))

pub returns-in_err-shifts-clause-err : goal.returns-in_err-shifts-clause-err
returns-in_err-shifts-clause-err g c =
    let p =
    err_from_is_err_and c.from_residual-in_err-shifts.result
    c.from_residual-in_err-shifts.ensures.1 in
    let same = as_many _ _ _ c.in_ok-blocks.ensures.ok in
    rw (p.1, p.2) (by_serving (record {
      blocks = map part_in c.in_ok-blocks.blocks.items;
      opened = c.in_ok-blocks.ensures.ok;
      few = omega (arith, same, c.in_ok-blocks.ensures.few);
    }) c.in_err-shifts.ensures.err)

pub returns-in_err-counts-clause-err : goal.returns-in_err-counts-clause-err
returns-in_err-counts-clause-err g c =
    let p =
    err_from_is_err_and c.from_residual-in_err-counts.result
    c.from_residual-in_err-counts.ensures.1 in
    let same = as_many _ _ _ c.in_ok-blocks.ensures.ok in
    rw (p.1, p.2) (by_serving (record {
      blocks = map part_in c.in_ok-blocks.blocks.items;
      opened = c.in_ok-blocks.ensures.ok;
      few = omega (arith, same, c.in_ok-blocks.ensures.few);
    }) (inr (c.in_ok-shifts.ensures.ok, tt)))

pub returns-clause-ok : goal.returns-clause-ok
returns-clause-ok g c =
    let same = as_many _ _ _ c.in_ok-blocks.ensures.ok in
    record {
      rules = c.args.rules.now;
      ruled = c.requires.asked;
      servable = record {
        blocks = map part_in c.in_ok-blocks.blocks.items;
        opened = c.in_ok-blocks.ensures.ok;
        few = omega (arith, same, c.in_ok-blocks.ensures.few);
      };
      told = c.in_ok-shifts.ensures.ok;
    }

pub returns-clause-served : goal.returns-clause-served
returns-clause-served g c =
    all_counted c.as_slice.result.now c.in_ok-counts.counts.items c.args.serving.requests
    c.in_ok-counts.ensures (rw c.as_slice.ensures.value c.in_ok-shifts.ensures.served)
