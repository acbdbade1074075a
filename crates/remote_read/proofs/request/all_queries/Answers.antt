use Rattle.std.proofs.Common.{◌≡◌, ◌<◌, ◌-◌, ◌+◌, List, length, map, sym, ap, ◌∙◌, arith, Err}
use Rattle.protobuf_fields.specs.Reading.{Refusal, seen, text_len}
use Rattle.protobuf_fields.proofs.Messages.{ends, refused, goes_on, inner}
use Rattle.remote_write.specs.Reading.{or_error}
use Rattle.remote_write.proofs.Steps.{fails_behind, given}
use Rattle.remote_read.specs.Format.{QueryValue, request_allows}
use Rattle.remote_read.specs.Reading.{query_seen, request_step, request_at}
use Rattle.remote_read.proofs.request.all_queries.Goals as goal

pub returns-then-is_empty : goal.returns-then-is_empty
returns-then-is_empty c =
    let l = c.loop in
    ap (or_error {A = List QueryValue}) (sym l.invariant.so_far ∙ ends request_allows request_step (length c.args.bytes.now - l.counter) (map query_seen l.all.items) l.rest.now (grind arith))

pub returns-in-Err : goal.returns-in-Err
returns-in-Err c =
    let l = c.loop in
    ap (or_error {A = List QueryValue}) (sym l.invariant.so_far
    ∙ refused request_allows request_step (length c.args.bytes.now - l.counter) (map query_seen l.all.items) l.rest.now c.in-Err.fault (grind arith) l.invariant.short c.in-Err.ensures.exact)

pub returns-in-Err-add_field : goal.returns-in-Err-add_field
returns-in-Err-add_field c =
    let l = c.loop in
    let x = c.in-Ok.x in
    let some : 0 < length l.rest.now = grind arith in
    let most = length c.args.bytes.now - l.counter in
    let within : (r : Refusal) → request_step (map query_seen l.all.items) (seen x.0) ≡ Err r
    → request_at c.args.bytes.now ≡ Err (r.0, r.1 + length x.1.now) =
    λ r e. sym l.invariant.so_far ∙ inner request_allows request_step most (map query_seen l.all.items) l.rest.now (seen x.0, x.1.now) r some l.invariant.short c.in-Ok.ensures.exact e in
    rw c.behind.ensures
    (fails_behind (length x.1.now) c.in-Err-add_field.error (request_step (map query_seen l.all.items) (seen x.0)) (request_at c.args.bytes.now) c.in-Err-add_field.ensures.exact within)

pub behind-requires : goal.behind-requires
behind-requires c =
    let s = c.in-Ok.ensures.shorter in
    (text_len (seen c.in-Ok.x.0), c.in-Err-add_field.ensures.place, omega arith)

pub loop-preserved : goal.loop-preserved
loop-preserved c =
    let l = c.loop in
    let x = c.in-Ok.x in
    let some : 0 < length l.rest.now = grind arith in
    let s = c.in-Ok.ensures.shorter in
    let made = map query_seen c.add_field.new.all.items in
    let h = goes_on request_allows request_step (length c.args.bytes.now - l.counter) (map query_seen l.all.items) made l.rest.now
    (seen x.0, x.1.now) some l.invariant.short c.in-Ok.ensures.exact (given (request_step (map query_seen l.all.items) (seen x.0)) made c.in-Ok-add_field.ensures.exact) in
    let k : length c.args.bytes.now - (l.counter + 1) ≡ length c.args.bytes.now - l.counter - 1 = omega arith in
    record {
      short = omega arith;
      most = omega arith;
      so_far = rw k (sym h ∙ l.invariant.so_far);
    }

pub returns : goal.returns
returns c =
    let l = c.loop in
    ap (or_error {A = List QueryValue}) (sym l.invariant.so_far ∙ ends request_allows request_step (length c.args.bytes.now - l.counter) (map query_seen l.all.items) l.rest.now (omega arith))
