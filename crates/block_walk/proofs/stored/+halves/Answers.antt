use Rattle.std.proofs.Common.{◌+◌, ◌-◌, ◌/◌, refl, subst, arith}
use Rattle.std.proofs.lemmas.Result.{err_from_is_err_and}
use Rattle.block_walk.specs.IndexFile.Series.{chunk_lists}
use Rattle.block_walk.specs.BlockFiles.Shared.{AreLookedAt, stretch}
use Rattle.block_walk.proofs.BlockFiles.Shared.{stretch_both, looked_front, looked_back, looked_both}
use Rattle.block_walk.proofs.stored.+halves.Goals as goal

pub returns-in_err-few : goal.returns-in_err-few
returns-in_err-few g t c =
    let low = c.args.count / 2 in
    let high = c.args.count - low in
    let all = chunk_lists c.args.entries.now in
    let file = c.args.chunks.now in
    let front = stretch c.args.from low all in
    let back = stretch (c.args.from + low) high all in
    let whole =
    stretch_both all c.args.from low high (c.args.from + low) c.args.count (omega arith) refl in
    let p = err_from_is_err_and c.from_residual.result c.from_residual.ensures.1 in
    rw (p.1, p.2, whole) (looked_front file front back _
    (subst (AreLookedAt file front) c.in_err-few.was c.join-first.ensures.first))

pub returns-in_err-more : goal.returns-in_err-more
returns-in_err-more g t c =
    let low = c.args.count / 2 in
    let high = c.args.count - low in
    let all = chunk_lists c.args.entries.now in
    let file = c.args.chunks.now in
    let front = stretch c.args.from low all in
    let back = stretch (c.args.from + low) high all in
    let whole =
    stretch_both all c.args.from low high (c.args.from + low) c.args.count (omega arith) refl in
    let p =
    err_from_is_err_and c.from_residual-in_err-more.result c.from_residual-in_err-more.ensures.1 in
    rw (p.1, p.2, whole) (looked_back file front back _ _
    (subst (AreLookedAt file front) c.in_ok-few.was c.join-first.ensures.first)
    (subst (AreLookedAt file back) c.in_err-more.was c.join-first.ensures.second))

pub returns : goal.returns
returns g t c =
    let low = c.args.count / 2 in
    let high = c.args.count - low in
    let all = chunk_lists c.args.entries.now in
    let file = c.args.chunks.now in
    let front = stretch c.args.from low all in
    let back = stretch (c.args.from + low) high all in
    let whole =
    stretch_both all c.args.from low high (c.args.from + low) c.args.count (omega arith) refl in
    rw whole (looked_both file front back _ _
    (subst (AreLookedAt file front) c.in_ok-few.was c.join-first.ensures.first)
    (subst (AreLookedAt file back) c.in_ok-more.was c.join-first.ensures.second))
