use Rattle.std.proofs.Common.{◌≡◌, true, false, take, refl, sym, ◌∙◌, ap, arith}
use Rattle.std.specs.List.{list_any}
use Rattle.std.proofs.lemmas.List.{take_all}
use Rattle.std.proofs.lemmas.List.Folds.{list_any_at}
use Rattle.labels.specs.Parts.{Part}
use Rattle.matchers.specs.Satisfies.{satisfies_all}
use Rattle.matchers.specs.Views.{QueryView}
use Rattle.auditor.specs.Looking.{answers}
use Rattle.auditor.proofs.SelectedRows.{selected_some, selected_none}
use Rattle.auditor.proofs.skip.audit_skip.Goals as goal

pub returns-then-answers-clause-hidden : goal.returns-then-answers-clause-hidden
returns-then-answers-clause-hidden c =
    let q = c.args.query.now in
    let entry = c.entry-item.result in
    let yes : answers q entry ≡ true =
    ap (λ (p : QueryView). answers p entry)
    (sym (c.loop-entry.invariant.same ∙ c.in_ok-looks.ensures))
    ∙ sym c.answers.ensures.answers
    ∙ c.if-answers.true in
    let at : list_any (answers q) c.series-series.result.now ≡ true =
    list_any_at (answers q) c.series-series.result.now c.loop-entry.entry-index entry
    c.loop-entry-test.true (ap (answers q) (sym c.entry-item.is) ∙ yes) in
    let some : list_any (answers q) c.args.table.now ≡ true =
    ap (λ (rows : Part). list_any (answers q) rows) (sym c.series-series.ensures.items) ∙ at in
    (refl, selected_some (satisfies_all q.matchers) q.from q.to c.args.table.now some)

pub returns-clause-empty : goal.returns-clause-empty
returns-clause-empty c =
    let q = c.args.query.now in
    let whole : take c.loop-entry.entry-index c.series-series.result.now ≡ c.args.table.now =
    take_all c.loop-entry.entry-index c.series-series.result.now (omega arith)
    ∙ c.series-series.ensures.items in
    let none : list_any (answers q) c.args.table.now ≡ false =
    ap (λ (rows : Part). list_any (answers q) rows) (sym whole)
    ∙ ap (λ (p : QueryView). list_any (answers p)
    (take c.loop-entry.entry-index c.series-series.result.now)) (sym c.in_ok-looks.ensures)
    ∙ c.loop-entry.invariant.none in
    selected_none (satisfies_all q.matchers) q.from q.to c.args.table.now none
