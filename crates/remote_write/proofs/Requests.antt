-- A body, a series at a time.
use Rattle.std.proofs.Common.{◌≡◌, ℕ, ◌+◌, ◌-◌, ◌<◌, List, [], ◌∷◌, ◌++◌, length, Result, Ok, Err, refl, ap, ◌∙◌, arith}
use Rattle.std.specs.Prelude.{IfOk}
use Rattle.wire.specs.Outcome.{◌>>=◌, Gives}
use Rattle.wire.specs.Spelling.{IsBytes}
use Rattle.protobuf_fields.specs.declared.error.Fault.{Fault}
use Rattle.protobuf_fields.specs.Format.{Value, Text}
use Rattle.protobuf_fields.specs.Reading.{Refusal, known_at}
use Rattle.protobuf_fields.proofs.Messages.{ends, refused, goes_on, inner, enough, left_behind}
use Rattle.remote_write.specs.declared.error.ReadError.{ReadError}
use Rattle.remote_write.specs.Format.{SeriesValue, request_allows, IsRequest}
use Rattle.remote_write.proofs.Laws.{request_took}
use Rattle.remote_write.proofs.Steps.{given}
use Rattle.remote_write.specs.Reading.{request_step, request_from, request_at, series_at, IsSkipped, is_memory, or_error}

pub from_end : (front : List SeriesValue) (bytes : List ℕ) → length bytes ≡ 0 → request_from front bytes ≡ Ok front
from_end front bytes e = ends request_allows request_step (length bytes) front bytes e

pub from_fault : (front : List SeriesValue) (bytes : List ℕ) (f : Fault) → 0 < length bytes → known_at request_allows bytes ≡ Err f → request_from front bytes ≡ Err (f, length bytes)
from_fault front bytes f some e = refused request_allows request_step (length bytes) front bytes f some (omega arith) e

from_step : (front next : List SeriesValue) (bytes : List ℕ) (x : Value × List ℕ) → IsBytes bytes → 0 < length bytes → known_at request_allows bytes ≡ Ok x → request_step front x.0 ≡ Ok next
    → request_from front bytes ≡ request_from next x.1
from_step front next bytes x fits some e f =
    let b = left_behind request_allows bytes x fits e in
    let lt = b.1 in
    goes_on request_allows request_step (length bytes) front next bytes x some (omega arith) e f
    ∙ enough request_allows request_step (length bytes - 1) (length x.1) next x.1 b.0 (omega arith) (omega arith)

pub from_skip : (front : List SeriesValue) (bytes : List ℕ) (x : Value × List ℕ) → IsBytes bytes → 0 < length bytes → known_at request_allows bytes ≡ Ok x → IsSkipped x.0
    → request_from front bytes ≡ request_from front x.1
from_skip front bytes x fits some e skip = from_step front front bytes x fits some e (skip front)

series_step_is : (front : List SeriesValue) (t : List ℕ) → request_step front (Text 1 t) ≡ (series_at t >>= λ s. Ok (front ++ s ∷ []))
unfolding request_step
series_step_is front t = refl

pub from_series : (front : List SeriesValue) (bytes rest t : List ℕ) (v : Value) (s : SeriesValue) → IsBytes bytes → 0 < length bytes → known_at request_allows bytes ≡ Ok (v, rest)
    → v ≡ Text 1 t → series_at t ≡ Ok s → request_from front bytes ≡ request_from (front ++ s ∷ []) rest
from_series front bytes rest t v s fits some e is f =
    from_step front (front ++ s ∷ []) bytes (v, rest) fits some e
    (ap (request_step front) is ∙ series_step_is front t ∙ ap (λ (r : Result SeriesValue Refusal). r >>= λ s. Ok (front ++ s ∷ [])) f)

pub from_inner : (front : List SeriesValue) (bytes rest t : List ℕ) (v : Value) (r : Refusal) → 0 < length bytes → known_at request_allows bytes ≡ Ok (v, rest)
    → v ≡ Text 1 t → series_at t ≡ Err r → request_from front bytes ≡ Err (r.0, r.1 + length rest)
from_inner front bytes rest t v r some e is f =
    inner request_allows request_step (length bytes) front bytes (v, rest) r some (omega arith) e
    (ap (request_step front) is ∙ series_step_is front t ∙ ap (λ (r : Result SeriesValue Refusal). r >>= λ s. Ok (front ++ s ∷ [])) f)

pub whole : (bytes : List ℕ) → request_from [] bytes ≡ request_at bytes
unfolding request_at
whole bytes = refl

pub is_found : {X : Type 0} (view : X → List SeriesValue) (bytes : List ℕ) (r : Result X ReadError) → IsBytes bytes
    → Gives is_memory view r (or_error (request_at bytes)) → IfOk r (λ x. IsRequest bytes (view x))
is_found view bytes (Ok x) fits h = request_took bytes (view x) fits (given (request_at bytes) (view x) h)
is_found view bytes (Err e) fits h = tt
