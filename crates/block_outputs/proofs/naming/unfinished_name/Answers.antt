use Rattle.std.proofs.Common.{ap, ◌∙◌, ◌++◌, List, ℕ}
use Rattle.std.specs.Prelude.{codes}
use Rattle.std.specs.Fmt.{styled_decimal}
use Rattle.block_outputs.specs.Names.{output_name, unfinished_name}
use Rattle.block_outputs.proofs.Digits.{four_digits, told_as}
use Rattle.block_outputs.proofs.naming.unfinished_name.Goals as goal

pub returns : goal.returns
returns c =
    let path = λ (ds : List ℕ). c.args.into.now ++ (codes "/." ++ (ds ++ codes "-unfinished")) in
    told_as c.format.result (path (styled_decimal c.laid_out.result c.args.number))
    (path (output_name c.args.number))
    (ap path (ap (λ s. styled_decimal s c.args.number) c.laid_out.ensures
    ∙ four_digits c.args.number))
    c.format.ensures.ok
