use Rattle.std.proofs.Common.{◌+◌, rules, arith, ap, ◌∙◌, drop}
use Rattle.std.proofs.Common.{slice_index_or}
use Rattle.std.proofs.lemmas.List.{drop_more, drop_all, nil_from_length}
use Rattle.std.specs.Prelude.{Bool, ◌&&◌}
use Rattle.std.specs.Str.{bytes_eq}
use Rattle.guard.proofs.Tests.{one_more, shorter, all_read}
use Rattle.guard.proofs.token.is_same.Goals as goal

pub returns-in_default : goal.returns-in_default
returns-in_default c =
    let i = c.loop-byte.byte-index in
    let one = c.args.one.now in
    shorter (drop i one) c.loop-byte.left.now (drop (i + 1) one) (slice_index_or one i 0)
    c.loop-byte.same (bytes_eq one c.args.other.now) (drop_more one i 0 (omega arith))
    (nil_from_length c.loop-byte.left.now c.in_default.ensures.cases) c.loop-byte.invariant

pub loop-byte-preserved : goal.loop-byte-preserved
loop-byte-preserved c =
    let i = c.loop-byte.byte-index in
    let one = c.args.one.now in
    one_more (drop i one) c.loop-byte.left.now (drop (i + 1) one) c.in-Some.rest.now
    (slice_index_or one i 0) c.in-Some.first.now c.loop-byte.same (bytes_eq one c.args.other.now)
    (drop_more one i 0 (omega arith)) (search rules) c.loop-byte.invariant

pub returns : goal.returns
returns c =
    let i = c.loop-byte.byte-index in
    let one = c.args.one.now in
    ap (λ (t : Bool). c.loop-byte.same && t) c.is_empty.ensures
    ∙ all_read (drop i one) c.loop-byte.left.now c.loop-byte.same
    (bytes_eq one c.args.other.now) (drop_all i one (omega arith)) c.loop-byte.invariant
