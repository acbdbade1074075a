use Rattle.std.proofs.Common.{arith, rules}
use Rattle.std.proofs.lemmas.Grind.{common_steps}
use Rattle.page_text.specs.Printing.{head_text, attribute_text, open_attribute}
use Rattle.page.specs.Cells.{labelled_front}
use Rattle.page.proofs.cells.labelled.Goals as goal

pub returns-clause-printed : goal.returns-clause-printed
unfolding labelled_front head_text attribute_text open_attribute
returns-clause-printed c = first_of (search rules, grind (arith, common_steps))
