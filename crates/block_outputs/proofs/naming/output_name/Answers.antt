use Rattle.std.proofs.Common.{ap, ◌∙◌, ◌++◌, List, ℕ}
use Rattle.std.specs.Prelude.{codes}
use Rattle.std.specs.Fmt.{styled_decimal}
use Rattle.block_outputs.specs.Names.{output_name}
use Rattle.block_outputs.proofs.Digits.{four_digits, told_as}
use Rattle.block_outputs.proofs.naming.output_name.Goals as goal

pub returns : goal.returns
returns c =
    told_as c.format.result
    (c.args.into.now ++ (codes "/" ++ styled_decimal c.laid_out.result c.args.number))
    (c.args.into.now ++ (codes "/" ++ output_name c.args.number))
    (ap (λ (ds : List ℕ). c.args.into.now ++ (codes "/" ++ ds))
    (ap (λ s. styled_decimal s c.args.number) c.laid_out.ensures ∙ four_digits c.args.number))
    c.format.ensures.ok
