use Rattle.page_marks.proofs.Sums.{stack, columns_add, verdicts_add, samples_append}
use Rattle.page_marks.proofs.laws.marks_law.Goals as goal

pub returns-clause-stacks : goal.returns-clause-stacks
returns-clause-stacks c = stack

pub returns-clause-columns : goal.returns-clause-columns
returns-clause-columns c = columns_add

pub returns-clause-verdicts : goal.returns-clause-verdicts
returns-clause-verdicts c = verdicts_add

pub returns-clause-samples : goal.returns-clause-samples
returns-clause-samples c = samples_append
