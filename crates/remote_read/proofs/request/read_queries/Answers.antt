use Rattle.std.proofs.Common.{arith, List, Result, subst, map}
use Rattle.wire.specs.Outcome.{Gives}
use Rattle.protobuf_fields.specs.Reading.{Refusal}
use Rattle.remote_write.specs.Reading.{is_memory, or_error}
use Rattle.remote_read.specs.Format.{QueryValue}
use Rattle.remote_read.specs.Reading.{query_seen}
use Rattle.remote_read.proofs.Laws.{is_found, request_again}
use Rattle.remote_read.proofs.request.read_queries.Goals as goal

pub returns-clause-found : goal.returns-clause-found
returns-clause-found c =
    is_found (λ v. map query_seen v.items) c.args.bytes.now c.all_queries.result (λ i. omega (arith, c.type_inv.bytes i)) c.all_queries.ensures

pub returns-clause-only : goal.returns-clause-only
returns-clause-only c all x =
    subst (λ (r : Result (List QueryValue) Refusal). Gives is_memory (λ v. map query_seen v.items) c.all_queries.result (or_error r))
    (request_again c.args.bytes.now all x) c.all_queries.ensures
