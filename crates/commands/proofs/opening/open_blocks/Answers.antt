use Rattle.std.proofs.Common.{map, arith}
use Rattle.std.proofs.lemmas.Result.{err_from_is_err_and}
use Rattle.head.specs.Blocks.{part_in}
use Rattle.commands.proofs.Openings.{as_many, first_is_opening}
use Rattle.commands.proofs.opening.open_blocks.Goals as goal

pub returns-then-len-gt-MAX_BLOCKS-clause-err : goal.returns-then-len-gt-MAX_BLOCKS-clause-err
returns-then-len-gt-MAX_BLOCKS-clause-err g c =
    let same = as_many _ _ _ c.in_ok-opened.ensures.ok in
    record {
      blocks = map part_in c.in_ok-opened.opened.items;
      opened = c.in_ok-opened.ensures.ok;
      many = omega (arith, same);
    }

pub returns-in_err-opened-clause-err : goal.returns-in_err-opened-clause-err
returns-in_err-opened-clause-err g c =
    let p = err_from_is_err_and c.from_residual.result c.from_residual.ensures.1 in
    rw (p.1, p.2) (first_is_opening _ _ _ c.in_err-opened.ensures.err)
