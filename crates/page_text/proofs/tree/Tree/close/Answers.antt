use Rattle.std.proofs.Common.{arith, rules}
use Rattle.std.proofs.lemmas.Grind.{common_steps}
use Rattle.page_text.specs.Growing.{printed, open_tags}
use Rattle.page_text.proofs.Growth.{growth}
use Rattle.page_text.proofs.tree.Tree.close.Goals as goal

pub returns-in_default-clause-printed : goal.returns-in_default-clause-printed
unfolding printed open_tags
returns-in_default-clause-printed c =
    first_of (search rules, grind (arith, common_steps), grind (arith, growth))
