-- An answer that is written is read again.
use Rattle.std.proofs.Common.{◌≡◌, ◌^◌, ◌<◌, ℕ, Bool, true, false, eqb, cond, List, [], ◌∷◌, ◌++◌, length, Result, Ok, refl, sym, subst, ◌∙◌, arith, append_assoc, length-append}
use Rattle.std.specs.Prelude.{◌==◌, if◌then◌else◌}
use Rattle.std.proofs.lemmas.List.{append-nil}
use Rattle.wire.specs.Outcome.{◌>>=◌}
use Rattle.protobuf_fields.specs.Reading.{Refusal, message_at}
use Rattle.protobuf_fields.proofs.Messages.{Steps, message_again}
use Rattle.remote_write.specs.Reading.{request_at}
use Rattle.remote_write.proofs.Laws.{request_again}
use Rattle.protobuf_fields.specs.Format.{Value, Number, Eight, Text, Four, AreFields, AreKnown, EachIs, texts}
use Rattle.remote_write.specs.Format.{SeriesValue, IsRequest}
use Rattle.remote_write.specs.Writing.{body_text, text_field}
use Rattle.remote_write.proofs.Written.{body_read, inside, is_text}
use Rattle.remote_read.specs.Answer.{IsResponse, FitResults, Fits, response_allows, response_text}

abbrev result_fields : List (List SeriesValue) → List Value
result_fields [] = []
result_fields (r ∷ results) = Text 1 (body_text r) ∷ result_fields results

spelled : (results : List (List SeriesValue)) → length (response_text results) < 2 ^ 64 → AreFields (response_text results) (result_fields results)
spelled [] short = refl
spelled (r ∷ results) short =
    let first = text_field 1 (body_text r) in
    let a = length-append first (response_text results) in
    let b = inside 1 (body_text r) in
    (first, response_text results, is_text 1 (body_text r) (omega arith) (omega arith) (omega arith), refl, spelled results (omega arith))

known : (results : List (List SeriesValue)) → AreKnown response_allows (result_fields results)
known [] = tt
known (r ∷ results) = (refl, known results)

each : (results : List (List SeriesValue)) → FitResults results → length (response_text results) < 2 ^ 64 → EachIs IsRequest (texts 1 (result_fields results)) results
each [] f short = tt
each (r ∷ results) f short =
    let first = text_field 1 (body_text r) in
    let a = length-append first (response_text results) in
    let b = inside 1 (body_text r) in
    (body_read r (record { series = f.0; length = omega arith }), each results f.1 (omega arith))

pub response_read : (results : List (List SeriesValue)) → Fits results → IsResponse (response_text results) results
response_read results f = record {
  fields = result_fields results;
  spelled = spelled results f.length;
  known = known results;
  results_are = each results f.each f.length;
}

-- No bytes mean two: what is read of them is one.
response_step : List (List SeriesValue) → Value → Result (List (List SeriesValue)) Refusal
response_step all (Text n t) = if n == 1 then (request_at t >>= λ r. Ok (all ++ r ∷ [])) else Ok all
response_step all (Number n v) = Ok all
response_step all (Eight n v) = Ok all
response_step all (Four n v) = Ok all

result_by : (a : List (List SeriesValue)) (n : ℕ) (t : List ℕ) (r : List SeriesValue) → eqb n 1 ≡ true → request_at t ≡ Ok r → response_step a (Text n t) ≡ Ok (a ++ r ∷ [])
unfolding response_step
result_by a n t r e f = rw (e, f) refl

skip_by : (a : List (List SeriesValue)) (n : ℕ) (t : List ℕ) → eqb n 1 ≡ false → response_step a (Text n t) ≡ Ok a
unfolding response_step
skip_by a n t e = rw e refl

abbrev Runs : List Value → Type 0
Runs vs = (a all : List (List SeriesValue)) → EachIs IsRequest (texts 1 vs) all → Steps response_step a vs (a ++ all)

text_runs : (a : List (List SeriesValue)) (n : ℕ) (t : List ℕ) (vs : List Value) (all : List (List SeriesValue)) (p : Bool) → eqb n 1 ≡ p
    → EachIs IsRequest (cond p (t ∷ texts 1 vs) (texts 1 vs)) all → Runs vs → Steps response_step a (Text n t ∷ vs) (a ++ all)
text_runs a n t vs [] true e x more = absurd x
text_runs a n t vs (r ∷ all) true e x more = (
  a ++ r ∷ [],
  result_by a n t r e (request_again t r x.0),
  subst (λ (z : List (List SeriesValue)). Steps response_step (a ++ r ∷ []) vs z) (append_assoc a (r ∷ []) all) (more (a ++ r ∷ []) all x.1),
)
text_runs a n t vs all false e x more = (a, skip_by a n t e, more a all x)

response_runs : (vs : List Value) → Runs vs
unfolding response_step
response_runs [] a [] x = sym (append-nil a)
response_runs [] a (r ∷ all) x = absurd x
response_runs (Text n t ∷ vs) a all x = text_runs a n t vs all (eqb n 1) refl x (response_runs vs)
response_runs (Number n v ∷ vs) a all x = (a, refl, response_runs vs a all x)
response_runs (Eight n v ∷ vs) a all x = (a, refl, response_runs vs a all x)
response_runs (Four n v ∷ vs) a all x = (a, refl, response_runs vs a all x)

response_again : (bytes : List ℕ) (all : List (List SeriesValue)) → IsResponse bytes all
    → message_at response_allows response_step (length bytes) [] bytes ≡ Ok all
response_again bytes all x =
    message_again response_allows response_step (length bytes) [] all bytes x.fields (omega arith) x.spelled x.known
    (response_runs x.fields [] all x.results_are)

abbrev ok_of : {A : Type 0} → A → Result A Refusal
ok_of a = Ok a

same_ok : {A : Type 0} (a b : A) → ok_of a ≡ ok_of b → a ≡ b
same_ok a b e = cc

pub response_once : (bytes : List ℕ) (results others : List (List SeriesValue)) → IsResponse bytes results → IsResponse bytes others → results ≡ others
response_once bytes results others x y =
    same_ok results others (sym (response_again bytes results x) ∙ response_again bytes others y)
