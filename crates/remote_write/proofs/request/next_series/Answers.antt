use Rattle.std.proofs.Common.{◌≡◌, ◌<◌, ◌+◌, ℕ, List, length, sym, ap, ◌∙◌, arith, rules, refl, Ok, Err, Result}
use Rattle.protobuf_fields.specs.Reading.{Refusal, message_at, seen, text_len}
use Rattle.protobuf_fields.proofs.Messages.{left_behind}
use Rattle.remote_write.specs.Format.{SeriesValue, series_allows, request_allows}
use Rattle.remote_write.specs.Reading.{or_error, series_seen, series_step, series_at, no_series, request_from}
use Rattle.remote_write.proofs.Steps.{fails_behind, given}
use Rattle.remote_write.proofs.Requests.{from_end, from_fault, from_skip, from_series, from_inner}
use Rattle.remote_write.proofs.request.next_series.Goals as goal

pub loop-rest-init : goal.loop-rest-init
loop-rest-init c = record {
  most = omega arith;
  fits = λ i. omega (arith, c.type_inv.bytes i);
  none = search rules;
  so_far = λ front. refl;
}

pub returns-in-Err-clause-exact : goal.returns-in-Err-clause-exact
returns-in-Err-clause-exact c front =
    let l = c.loop-rest in
    ap (or_error {A = List SeriesValue}) (l.invariant.so_far front ∙ from_fault front l.rest.now c.in-Err.fault (grind arith) c.in-Err.ensures.exact)

pub behind-requires : goal.behind-requires
behind-requires c =
    let s = c.in-Ok.ensures.shorter in
    let e : text_len (seen c.in-Ok.x.0) ≡ length c.in-Some.text.now = ap text_len c.in-Some.ensures in
    (length c.in-Some.text.now, c.in-Err-add_series.ensures.place, omega arith)

-- what the bytes of a series are, from none
from_none : (s : SeriesValue) (text : List ℕ) (r : Result SeriesValue Refusal) → s ≡ no_series
    → message_at series_allows series_step (length text) s text ≡ r → series_at text ≡ r
unfolding series_at
from_none s text r e h = sym (ap (λ (z : SeriesValue). message_at series_allows series_step (length text) z text) e) ∙ h

pub returns-in-Ok-add_series-clause-exact : goal.returns-in-Ok-add_series-clause-exact
returns-in-Ok-add_series-clause-exact c front =
    let l = c.loop-rest in
    let x = c.in-Ok.x in
    let text = c.in-Some.text.now in
    let some : 0 < length l.rest.now = grind arith in
    let made = series_seen c.add_series.new.series in
    let s = given (message_at series_allows series_step (length text) (series_seen l.series) text) made c.in-Ok-add_series.ensures.exact in
    l.invariant.so_far front
    ∙ from_series front l.rest.now x.1.now text (seen x.0) made l.invariant.fits some c.in-Ok.ensures.exact c.in-Some.ensures
    (from_none (series_seen l.series) text (Ok made) l.invariant.none s)

pub returns-in-Err-add_series-clause-exact : goal.returns-in-Err-add_series-clause-exact
returns-in-Err-add_series-clause-exact c front =
    let l = c.loop-rest in
    let x = c.in-Ok.x in
    let text = c.in-Some.text.now in
    let some : 0 < length l.rest.now = grind arith in
    let read = message_at series_allows series_step (length text) (series_seen l.series) text in
    let within : (r : Refusal) → read ≡ Err r → request_from front c.args.bytes.now ≡ Err (r.0, r.1 + length x.1.now) =
    λ r e. l.invariant.so_far front
    ∙ from_inner front l.rest.now x.1.now text (seen x.0) r some c.in-Ok.ensures.exact c.in-Some.ensures
    (from_none (series_seen l.series) text (Err r) l.invariant.none e) in
    rw c.behind.ensures (fails_behind (length x.1.now) c.in-Err-add_series.error read (request_from front c.args.bytes.now) c.in-Err-add_series.ensures.exact within)

pub loop-rest-preserved : goal.loop-rest-preserved
loop-rest-preserved c =
    let l = c.loop-rest in
    let x = c.in-Ok.x in
    let some : 0 < length l.rest.now = grind arith in
    let s = c.in-Ok.ensures.shorter in
    let b = left_behind request_allows l.rest.now (seen x.0, x.1.now) l.invariant.fits c.in-Ok.ensures.exact in
    record {
      most = omega arith;
      fits = b.0;
      none = l.invariant.none;
      so_far = λ front. l.invariant.so_far front ∙ from_skip front l.rest.now (seen x.0, x.1.now) l.invariant.fits some c.in-Ok.ensures.exact c.in_default.ensures;
    }

pub returns-clause-exact : goal.returns-clause-exact
returns-clause-exact c front =
    let l = c.loop-rest in
    l.invariant.so_far front ∙ from_end front l.rest.now (grind arith)
