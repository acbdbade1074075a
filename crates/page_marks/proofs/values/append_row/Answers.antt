use Rattle.page_marks.specs.Values.{figure_values}
use Rattle.page_marks.proofs.Shown.{with_figures}
use Rattle.page_marks.proofs.values.append_row.Goals as goal

pub returns-in_ok-append_figures-in-Some : goal.returns-in_ok-append_figures-in-Some
returns-in_ok-append_figures-in-Some c =
    let f = c.in-Some.figures in
    let are = c.in-Some.ensures.figures in (
      figure_values c.args.values f,
      c.in_ok-append_figures-in-Some.ensures,
      with_figures c.args.values c.args.samples.now f are.0 are.1,
    )
