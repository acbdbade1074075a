use Rattle.std.proofs.Common.{sym, ◌∙◌}
use Rattle.whole_audit.proofs.Right.{right_of_grade, grade_of_right}
use Rattle.whole_audit.proofs.wholes.is_right.Goals as goal

pub returns : goal.returns
returns c =
    let query = c.args.query.now in
    let part = c.args.table.now in
    let told = c.args.told.now in (
      λ h. right_of_grade query part told c.in_ok-grade.grade c.in_ok-grade.ensures
          (sym c.is_right.ensures ∙ h),
      λ r. c.is_right.ensures
          ∙ grade_of_right query part told c.in_ok-grade.grade c.in_ok-grade.ensures r,
    )
