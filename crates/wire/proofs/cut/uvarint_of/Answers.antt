use Rattle.std.proofs.Common.{ℕ, List, Result, Ok, Err, arith}
use Rattle.std.specs.Prelude.{IfOk}
use Rattle.wire.specs.Spelling.{uvarint, IsBytes}
use Rattle.wire.specs.Reading.{uvarint_at}
use Rattle.wire.specs.Outcome.{Answers, Takes}
use Rattle.wire.specs.declared.error.WireError.{WireError}
use Rattle.wire.proofs.Laws.{uvarint_takes}
use Rattle.wire.proofs.cut.uvarint_of.Goals as goal

pub is_found : {X : Type 0} (view : X → ℕ × List ℕ) (r : Result X WireError) (bytes : List ℕ)
    → IsBytes bytes → Answers view r (uvarint_at bytes)
    → IfOk r (λ x. Takes (uvarint (view x).0) bytes (view x).1)
is_found view (Ok x) bytes fits h = (uvarint_takes bytes (view x).0 (view x).1 fits h).0
is_found view (Err e) bytes fits h = tt

pub returns-clause-found : goal.returns-clause-found
returns-clause-found c =
    is_found (λ x. (x.0, x.1.now)) c.sevens.result c.args.bytes.now
    (λ i. omega (arith, c.type_inv.bytes i)) c.sevens.ensures
