use Rattle.std.proofs.Common.{◌≡◌, None, Some, List, length, sym, ◌∙◌, ap, subst}
use Rattle.std.specs.Prelude.{◌==◌, ◌&&◌}
use Rattle.labels.specs.Rows.{AreRows}
use Rattle.labels.proofs.RowLaws.{same_rows as one_content}
use Rattle.labels.proofs.Times.{true_not_false}
use Rattle.matchers.specs.Views.{QueryView}
use Rattle.cover.specs.declared.certificate.Interval.{Interval}
use Rattle.auditor.specs.declared.flaw.Flaw.{Flaw}
use Rattle.auditor.specs.Auditing.{IsFlaw, selected_content}
use Rattle.auditor.specs.Looking.{first_misfit, are_picked, shared_at}
use Rattle.auditor.proofs.Judging.{partitioned, all_fit, misfit_is, counted_of, not_counted, shared_is, separated_of, sound_of}
use Rattle.auditor.proofs.answer.flaw_of_cut.Goals as goal
use Rattle.auditor.proofs.answer.flaw_of_cut.Goals.{After-are_counted, After-first_shared, After-same_rows}

pub returns-in-Some : goal.returns-in-Some
returns-in-Some c =
    let some : first_misfit c.args.looks.now c.args.answer.now.cover.certificate.items
    c.args.series.now ≡ Some c.in-Some.verdict =
    ap (λ (xs : List Interval). first_misfit c.args.looks.now xs c.args.series.now)
    (sym c.as_slice-certificate.ensures.value)
    ∙ sym c.in-Some.ensures.misfit in
    subst (λ (f : Flaw). IsFlaw c.args.series.now c.args.looks.now c.args.answer.now f)
    (sym c.misfit_flaw.ensures)
    (misfit_is c.args.series.now c.args.looks.now c.requires.part c.args.answer.now
    c.in-Some.verdict c.requires.known c.requires.cut some)

none_is : (c : After-are_counted)
    → first_misfit c.args.looks.now c.args.answer.now.cover.certificate.items c.args.series.now
    ≡ None
none_is c =
    ap (λ (xs : List Interval). first_misfit c.args.looks.now xs c.args.series.now)
    (sym c.as_slice-certificate.ensures.value)
    ∙ sym c.in_default.ensures.misfit

count_is : (c : After-are_counted)
    → c.are_counted.result ≡ ((length c.args.answer.now.cover.separators.items
    == length c.args.answer.now.cover.certificate.items)
    && are_picked c.args.answer.now.cover.separators.items c.args.series.now)
count_is c = cc (
  c.are_counted.ensures,
  c.as_slice-certificate.ensures.value,
  c.as_slice-separators.ensures.value,
)

pub returns-then-not-are_counted : goal.returns-then-not-are_counted
returns-then-not-are_counted c =
    let d = (goal.at.returns-then-not-are_counted c).After-are_counted in
    let certificate = c.args.answer.now.cover.certificate.items in (
      partitioned c.args.series.now c.args.looks.now c.requires.part certificate
          c.requires.known c.requires.cut,
      all_fit c.args.series.now c.args.looks.now c.requires.part certificate c.requires.known
          c.requires.cut (none_is d),
      not_counted c.args.series.now c.args.looks.now c.requires.part
          c.args.answer.now.cover.separators.items certificate (sym (count_is d)
          ∙ c.if-not-are_counted.true),
    )

pub returns-in-Some-first_shared : goal.returns-in-Some-first_shared
returns-in-Some-first_shared c =
    let d = (goal.at.returns-in-Some-first_shared c).After-are_counted in
    let certificate = c.args.answer.now.cover.certificate.items in
    let separators = c.args.answer.now.cover.separators.items in
    let counted =
    counted_of c.args.series.now c.args.looks.now c.requires.part separators certificate
    (sym (count_is d) ∙ c.if-not-are_counted.false) in
    let shared : shared_at c.args.looks.now separators c.args.series.now
    ≡ Some c.in-Some-first_shared.at =
    cc (
      c.in-Some-first_shared.ensures.shared,
      c.as_slice-separators.ensures.value,
      c.first_misfit.ensures.same,
    ) in (
      partitioned c.args.series.now c.args.looks.now c.requires.part certificate
          c.requires.known c.requires.cut,
      all_fit c.args.series.now c.args.looks.now c.requires.part certificate c.requires.known
          c.requires.cut (none_is d),
      counted,
      shared_is c.args.series.now c.args.looks.now c.requires.part separators certificate
          c.in-Some-first_shared.at counted shared,
    )

apart_is : (c : After-same_rows)
    → shared_at c.args.looks.now c.args.answer.now.cover.separators.items c.args.series.now ≡ None
apart_is c = cc (
  c.in_default-first_shared.ensures.shared,
  c.as_slice-separators.ensures.value,
  c.first_misfit.ensures.same,
)

looks_are : (c : After-same_rows) → c.first_shared.new.looks ≡ c.args.looks.now
looks_are c = c.first_shared.ensures.same ∙ c.first_misfit.ensures.same

rows_are : (c : After-same_rows)
    → AreRows c.in_ok-rows.rows.items (selected_content c.args.series.now c.args.looks.now)
rows_are c =
    subst (λ (q : QueryView). AreRows c.in_ok-rows.rows.items
    (selected_content c.args.series.now q)) (looks_are c) c.in_ok-rows.ensures

pub returns-then-not-same_rows : goal.returns-then-not-same_rows
returns-then-not-same_rows c =
    let at = goal.at.returns-then-not-same_rows c in
    let certificate = c.args.answer.now.cover.certificate.items in
    let separators = c.args.answer.now.cover.separators.items in
    let counted = counted_of c.args.series.now c.args.looks.now c.requires.part separators
    certificate (sym (count_is at.After-are_counted) ∙ c.if-not-are_counted.false) in (
      partitioned c.args.series.now c.args.looks.now c.requires.part certificate
          c.requires.known c.requires.cut,
      all_fit c.args.series.now c.args.looks.now c.requires.part certificate c.requires.known
          c.requires.cut (none_is at.After-are_counted),
      counted,
      separated_of c.args.series.now c.args.looks.now c.requires.part separators certificate counted
          (apart_is at.After-same_rows),
      λ are. true_not_false (sym (c.same_rows.ensures.1 (c.as_slice.ensures.value
          ∙ one_content c.in_ok-rows.rows.items c.args.answer.now.rows.items
          (selected_content c.args.series.now c.args.looks.now) (rows_are at.After-same_rows) are
          ∙ sym c.as_slice-2.ensures.value))
          ∙ c.if-not-same_rows.true),
    )

pub returns : goal.returns
returns c =
    let at = goal.at.returns c in
    sound_of c.args.series.now c.args.looks.now c.requires.part c.args.answer.now
    c.in_ok-rows.rows.items c.requires.known c.requires.cut (none_is at.After-are_counted)
    (sym (count_is at.After-are_counted) ∙ c.if-not-are_counted.false) (apart_is at.After-same_rows)
    (rows_are at.After-same_rows)
    (sym c.as_slice.ensures.value
    ∙ c.same_rows.ensures.0 c.if-not-same_rows.false
    ∙ c.as_slice-2.ensures.value)
