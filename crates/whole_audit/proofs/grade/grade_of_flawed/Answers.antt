use Rattle.auditor.proofs.Excluding.{sound_not}
use Rattle.whole_audit.proofs.grade.grade_of_flawed.Goals as goal

pub returns-then-branch : goal.returns-then-branch
returns-then-branch c = (
  λ sound. sound_not c.args.table.now c.args.query.now c.args.answer.now c.args.flaw sound c.requires,
  c.in_ok-is_explained_block.ensures.0 c.if-branch.true,
)
