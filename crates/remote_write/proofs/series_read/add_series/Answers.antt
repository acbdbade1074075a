use Rattle.std.proofs.Common.{◌≡◌, ◌<◌, ◌-◌, ◌+◌, length, sym, ap, ◌∙◌, arith, Err}
use Rattle.protobuf_fields.specs.Reading.{Refusal, message_at, seen, text_len}
use Rattle.protobuf_fields.proofs.Messages.{ends, refused, goes_on, inner}
use Rattle.remote_write.specs.Format.{SeriesValue, series_allows}
use Rattle.remote_write.specs.Reading.{or_error, series_seen, series_step}
use Rattle.remote_write.proofs.Steps.{fails_behind, given}
use Rattle.remote_write.proofs.series_read.add_series.Goals as goal

pub returns-then-is_empty-clause-exact : goal.returns-then-is_empty-clause-exact
returns-then-is_empty-clause-exact c =
    let l = c.loop in
    ap (or_error {A = SeriesValue}) (sym l.invariant.so_far ∙ ends series_allows series_step (length c.args.bytes.now - l.counter) (series_seen l.series) l.rest.now (grind arith))

pub returns-in-Err-clause-exact : goal.returns-in-Err-clause-exact
returns-in-Err-clause-exact c =
    let l = c.loop in
    ap (or_error {A = SeriesValue}) (sym l.invariant.so_far
    ∙ refused series_allows series_step (length c.args.bytes.now - l.counter) (series_seen l.series) l.rest.now c.in-Err.fault (grind arith) l.invariant.short c.in-Err.ensures.exact)

pub returns-in-Err-add_field-clause-exact : goal.returns-in-Err-add_field-clause-exact
returns-in-Err-add_field-clause-exact c =
    let l = c.loop in
    let x = c.in-Ok.x in
    let some : 0 < length l.rest.now = grind arith in
    let most = length c.args.bytes.now - l.counter in
    let within : (r : Refusal) → series_step (series_seen l.series) (seen x.0) ≡ Err r
    → message_at series_allows series_step (length c.args.bytes.now) (series_seen c.args.series.now) c.args.bytes.now ≡ Err (r.0, r.1 + length x.1.now) =
    λ r e. sym l.invariant.so_far ∙ inner series_allows series_step most (series_seen l.series) l.rest.now (seen x.0, x.1.now) r some l.invariant.short c.in-Ok.ensures.exact e in
    rw c.behind.ensures
    (fails_behind (length x.1.now) c.in-Err-add_field.error (series_step (series_seen l.series) (seen x.0)) _ c.in-Err-add_field.ensures.exact within)

pub behind-requires : goal.behind-requires
behind-requires c =
    let s = c.in-Ok.ensures.shorter in
    (text_len (seen c.in-Ok.x.0), c.in-Err-add_field.ensures.place, omega arith)

pub loop-preserved : goal.loop-preserved
loop-preserved c =
    let l = c.loop in
    let x = c.in-Ok.x in
    let some : 0 < length l.rest.now = grind arith in
    let s = c.in-Ok.ensures.shorter in
    let h = goes_on series_allows series_step (length c.args.bytes.now - l.counter) (series_seen l.series) (series_seen c.add_field.new.series) l.rest.now
    (seen x.0, x.1.now) some l.invariant.short c.in-Ok.ensures.exact (given (series_step (series_seen l.series) (seen x.0)) (series_seen c.add_field.new.series) c.in-Ok-add_field.ensures.exact) in
    let k : length c.args.bytes.now - (l.counter + 1) ≡ length c.args.bytes.now - l.counter - 1 = omega arith in
    record {
      short = omega arith;
      most = omega arith;
      count = omega (arith, c.in-Ok-add_field.ensures.count);
      so_far = rw k (sym h ∙ l.invariant.so_far);
    }

pub returns-clause-exact : goal.returns-clause-exact
returns-clause-exact c =
    let l = c.loop in
    ap (or_error {A = SeriesValue}) (sym l.invariant.so_far ∙ ends series_allows series_step (length c.args.bytes.now - l.counter) (series_seen l.series) l.rest.now (omega arith))
