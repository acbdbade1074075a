use Rattle.std.proofs.Common.{◌≡◌, Some, length, sym, ◌∙◌, subst}
use Rattle.labels.proofs.Times.{true_not_false}
use Rattle.labels.specs.Rows.{AreRows}
use Rattle.auditor.specs.Auditing.{selected_content}
use Rattle.whole_audit.specs.Explaining.{sampled}
use Rattle.whole_audit.specs.Taking.{are_taken_from, is_shaped}
use Rattle.whole_audit.proofs.Explained.{shaped_of, taken_of, explained_of}
use Rattle.whole_audit.proofs.explaining.is_explained.Goals as goal
use Rattle.whole_audit.proofs.explaining.is_explained.Goals.{After-is_shaped, After-are_taken, After-are_selected}

shaped_is : (c : After-is_shaped) → c.is_shaped.result ≡ is_shaped (length c.args.query.now.matchers)
    c.args.answer.now.cover.certificate.items c.args.answer.now.cover.separators.items
shaped_is c = cc (
  c.is_shaped.ensures,
  c.as_slice-certificate.ensures.value,
  c.as_slice-separators.ensures.value,
  c.matchers.ensures.items,
)

taken_is : (c : After-are_taken) → c.are_taken.result
    ≡ are_taken_from c.args.query.now (Some c.args.answer.now.cover.certificate.items)
    (sampled c.args.table.now)
taken_is c = cc (
  c.are_taken.ensures.taken,
  c.in_ok-looks.ensures,
  c.as_slice-certificate.ensures.value,
  c.series-series.ensures.items,
)

pub returns-then-not-is_shaped : goal.returns-then-not-is_shaped
returns-then-not-is_shaped c = (
  λ h. absurd (true_not_false (sym h)),
  λ e. absurd (true_not_false
      (sym (shaped_of c.args.table.now c.args.query.now c.args.answer.now e)
      ∙ sym (shaped_is (goal.at.returns-then-not-is_shaped c).After-is_shaped)
      ∙ c.if-not-is_shaped.true)),
)

pub returns-then-not-are_taken : goal.returns-then-not-are_taken
returns-then-not-are_taken c = (
  λ h. absurd (true_not_false (sym h)),
  λ e. absurd (true_not_false
      (sym (taken_of c.args.table.now c.args.query.now c.args.answer.now e)
      ∙ sym (taken_is (goal.at.returns-then-not-are_taken c).After-are_taken)
      ∙ c.if-not-are_taken.true)),
)

pub returns : goal.returns
returns c =
    let part = c.args.table.now in
    let query = c.args.query.now in
    let answer = c.args.answer.now in
    let at = goal.at.returns c in
    let looks : c.are_taken.new.looks ≡ query = c.are_taken.ensures.same ∙ c.in_ok-looks.ensures in
    let content : selected_content c.series-series.result.now c.are_taken.new.looks
    ≡ selected_content part query = cc (looks, c.series-series.ensures.items) in
    let shaped = sym (shaped_is at.After-is_shaped) ∙ c.if-not-is_shaped.false in
    let taken = sym (taken_is at.After-are_taken) ∙ c.if-not-are_taken.false in (
      λ h. explained_of part query answer shaped taken
          (subst (AreRows answer.rows.items) content
          (subst (λ rows. AreRows rows (selected_content c.series-series.result.now c.are_taken.new.looks))
          c.as_slice.ensures.value (c.in_ok-are_selected.ensures.0 h))),
      λ e. c.in_ok-are_selected.ensures.1
          (subst (λ rows. AreRows rows (selected_content c.series-series.result.now c.are_taken.new.looks))
          (sym c.as_slice.ensures.value) (subst (AreRows answer.rows.items) (sym content) e.rows)),
    )
