use Rattle.std.proofs.Common.{◌≡◌, ◌++◌, ap, subst, ◌∙◌}
use Rattle.head.specs.BatchRows.{batch_of_rows}
use Rattle.head.specs.Worlds.{Batch, batch}
use Rattle.event_text.specs.Spelling.{event_text, HasSpelling}
use Rattle.event_text.proofs.RunLaws.{batch_rows}
use Rattle.event_text.proofs.Spelled.{on_ok}
use Rattle.event_text.proofs.writing.put_rows.Goals as goal

pub returns-clause-text : goal.returns-clause-text
returns-clause-text c =
    let rows = c.args.rows.now in
    let same : c.deref.result.now ≡ batch_of_rows rows =
    c.deref.ensures.value ∙ (c.in_ok-batch.ensures ∙ batch_rows rows) in
    on_ok c.put_batch.result _ _
    (λ wrote. wrote
    ∙ ap (λ (xs : Batch). c.args.out.now.items ++ event_text (batch xs)) same)
    c.put_batch.ensures.text

pub returns-clause-spelled : goal.returns-clause-spelled
returns-clause-spelled c =
    let rows = c.args.rows.now in
    let same : c.deref.result.now ≡ batch_of_rows rows =
    c.deref.ensures.value ∙ (c.in_ok-batch.ensures ∙ batch_rows rows) in
    on_ok c.put_batch.result _ _
    (λ spelled. subst (λ (xs : Batch). HasSpelling (batch xs)) same spelled)
    c.put_batch.ensures.spelled
