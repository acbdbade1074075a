use Rattle.std.proofs.Common.{◌≡◌, ◌<◌, ◌-◌, ◌+◌, length, sym, ◌∙◌, arith, refl}
use Rattle.protobuf_fields.specs.Reading.{seen}
use Rattle.protobuf_fields.proofs.Messages.{ends, refused, goes_on}
use Rattle.remote_read.specs.Format.{matcher_allows}
use Rattle.remote_read.specs.Reading.{matcher_at, matcher_seen, matcher_step}
use Rattle.remote_read.proofs.matcher_read.matcher_of.Goals as goal

pub loop-init : goal.loop-init
unfolding matcher_at
loop-init c = record { short = omega arith; most = omega arith; so_far = (let e : length c.args.bytes.now - 0 ≡ length c.args.bytes.now = omega arith in rw e refl) }

pub returns-then-is_empty-clause-exact : goal.returns-then-is_empty-clause-exact
returns-then-is_empty-clause-exact c =
    let l = c.loop in
    sym l.invariant.so_far ∙ ends matcher_allows matcher_step (length c.args.bytes.now - l.counter) (matcher_seen l.matcher) l.rest.now (grind arith)

pub returns-in-Err-clause-exact : goal.returns-in-Err-clause-exact
returns-in-Err-clause-exact c =
    let l = c.loop in
    sym l.invariant.so_far
    ∙ refused matcher_allows matcher_step (length c.args.bytes.now - l.counter) (matcher_seen l.matcher) l.rest.now c.in-Err.fault (grind arith) l.invariant.short c.in-Err.ensures.exact

pub loop-preserved : goal.loop-preserved
loop-preserved c =
    let l = c.loop in
    let x = c.in-Ok.x in
    let some : 0 < length l.rest.now = grind arith in
    let s = c.in-Ok.ensures.shorter in
    let h = goes_on matcher_allows matcher_step (length c.args.bytes.now - l.counter) (matcher_seen l.matcher) (matcher_seen c.with_field-matcher.result) l.rest.now
    (seen x.0, x.1.now) some l.invariant.short c.in-Ok.ensures.exact c.with_field-matcher.ensures in
    let k : length c.args.bytes.now - (l.counter + 1) ≡ length c.args.bytes.now - l.counter - 1 = omega arith in
    record {
      short = omega arith;
      most = omega arith;
      so_far = rw k (sym h ∙ l.invariant.so_far);
    }

pub returns-clause-exact : goal.returns-clause-exact
returns-clause-exact c =
    let l = c.loop in
    sym l.invariant.so_far ∙ ends matcher_allows matcher_step (length c.args.bytes.now - l.counter) (matcher_seen l.matcher) l.rest.now (omega arith)
