use Rattle.std.proofs.Common.{◌∙◌, List, Result, sym, subst}
use Rattle.protobuf_fields.specs.Reading as fields
use Rattle.remote_write.specs.Format.{SeriesValue}
use Rattle.remote_write.specs.Reading.{is_memory, or_error, request_at}
use Rattle.wire.specs.Outcome.{Fails}
use Rattle.remote_requests.specs.declared.asked.ReadError.{ReadError}
use Rattle.remote_requests.specs.Writing.{IsTold, spelled}
use Rattle.remote_requests.proofs.CountTurns.{from_nothing, told_fault}
use Rattle.remote_requests.proofs.body.counts_of.Goals as goal

pub returns-in-Ok-None : goal.returns-in-Ok-None
returns-in-Ok-None c =
    let so_far = c.loop-after.invariant in
    let ends = rw c.in-Ok-None.field-0-is at c.in-Ok-None.ensures.exact in
    (so_far.0, from_nothing c.args.text.now ∙ so_far.2 ∙ ends so_far.0, so_far.1)

pub returns-in-Err : goal.returns-in-Err
returns-in-Err c =
    let so_far = c.loop-after.invariant in
    let text = c.args.text.now in
    let fails = subst (λ (r : Result (List SeriesValue) fields.Refusal). Fails is_memory
    c.in-Err.error (or_error r)) (sym (from_nothing text ∙ so_far.2))
    (c.in-Err.ensures.exact so_far.0) in
    subst (λ (e : ReadError). IsTold e (spelled (request_at text))) (sym c.misspelled.ensures)
    (told_fault c.in-Err.error (request_at text) fails)
