use Rattle.std.proofs.Common.{arith, List, Result, subst, map}
use Rattle.wire.specs.Outcome.{Gives}
use Rattle.protobuf_fields.specs.Reading.{Refusal}
use Rattle.remote_write.specs.Format.{SeriesValue}
use Rattle.remote_write.specs.Reading.{is_memory, or_error, series_seen}
use Rattle.remote_write.proofs.Requests.{is_found, whole}
use Rattle.remote_write.proofs.Laws.{request_again}
use Rattle.remote_write.proofs.request.read_request.Goals as goal

pub returns-clause-exact : goal.returns-clause-exact
returns-clause-exact c =
    subst (λ (r : Result (List SeriesValue) Refusal). Gives is_memory (λ v. map series_seen v.items) c.all_series.result (or_error r))
    (whole c.args.bytes.now) c.all_series.ensures

pub returns-clause-found : goal.returns-clause-found
returns-clause-found c =
    is_found (λ v. map series_seen v.items) c.args.bytes.now c.all_series.result (λ i. omega (arith, c.type_inv.bytes i)) (returns-clause-exact c)

pub returns-clause-only : goal.returns-clause-only
returns-clause-only c all x =
    subst (λ (r : Result (List SeriesValue) Refusal). Gives is_memory (λ v. map series_seen v.items) c.all_series.result (or_error r))
    (request_again c.args.bytes.now all x) (returns-clause-exact c)
