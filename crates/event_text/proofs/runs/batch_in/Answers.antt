use Rattle.std.proofs.Common.{◌≡◌, ◌+◌, ◌++◌, ◌∷◌, [], ℤ, List, take, sym, ap, ◌∙◌, arith}
use Rattle.labels.specs.Labels.{Labels}
use Rattle.head.specs.Worlds.{Batch}
use Rattle.event_text.specs.Runs.{before, batch_in}
use Rattle.event_text.proofs.RunLaws.{batch_more, take_read}
use Rattle.event_text.proofs.runs.batch_in.Goals as goal

pub loop-row-preserved : goal.loop-row-preserved
loop-row-preserved c =
    let rows = c.args.rows.now in
    let i = c.loop-row.row-index in
    let r = c.row-item.result in
    let labels = c.labels.result.now in
    let samples = c.samples.result.now in
    let more : take (i + 1) rows ≡ take i rows ++ r ∷ [] =
    take_read rows i r (omega (arith, c.loop-row-test.true)) c.row-item.is in
    let own : before labels samples [] ≡ before r.0 r.1 [] =
    ap (λ (l : Labels). before l samples []) c.labels.ensures
    ∙ ap (λ (ss : List (ℤ × ℤ)). before r.0 ss []) c.samples.ensures in
    c.in_ok-push_each.ensures
    ∙ (ap (λ (xs : Batch). xs ++ before labels samples []) c.loop-row.invariant
    ∙ (ap (λ (xs : Batch). batch_in (take i rows) ++ xs) own
    ∙ (sym (batch_more (take i rows) r) ∙ ap batch_in (sym more))))
