use Rattle.std.proofs.Common.{rules, SFits, w64, ◌∙◌, to_z, of_z}
use Rattle.std.proofs.lemmas.Int.{to_z-of_z}
use Rattle.remote_requests.proofs.ReadTurns.{no_query}
use Rattle.remote_requests.proofs.reads.query_over.Goals as goal

pub returns-in-Err : goal.returns-in-Err
returns-in-Err c =
    let from_fits : SFits w64 c.first_time-from.result = search rules in
    let to_fits : SFits w64 c.last_time-to.result = search rules in
    absurd (no_query c.in-Err.field-0 (to_z w64 (of_z w64 c.first_time-from.result))
    (to_z w64 (of_z w64 c.last_time-to.result)) (to_z w64 (of_z w64 c.args.start))
    (to_z w64 (of_z w64 c.args.end)) c.args.matchers.items
    (to_z-of_z w64 _ from_fits ∙ c.first_time-from.ensures)
    (to_z-of_z w64 _ to_fits ∙ c.last_time-to.ensures) c.if-to-from.false c.requires
    c.in-Err.ensures.bad_range.0 c.in-Err.ensures.too_many.0)
