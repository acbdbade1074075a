use Rattle.std.proofs.Common.{◌≡◌, ℕ, ◌+◌, ◌*◌, ◌≤◌, length, ap, subst, slice_index_or, arith}
use Rattle.cover.proofs.part_cover.sum_moves.Goals as goal

pub loop-list-preserved : goal.loop-list-preserved
loop-list-preserved g c = λ n h.
    let here : (slice_index_or c.args.lists.now c.loop-list.list-index c.list-item.result).1 ≤ n =
    h c.loop-list.list-index c.list-item.result (omega (arith, c.loop-list-test.true)) in
    let same : c.list-item.result.1
    ≡ (slice_index_or c.args.lists.now c.loop-list.list-index c.list-item.result).1 =
    ap (λ x. x.1) c.list-item.is in
    let so_far : c.loop-list.sum ≤ c.args.first + n * c.loop-list.list-index =
    c.loop-list.invariant n h in
    omega (arith, c.saturating_add-sum.ensures, c.moves.ensures, same, here, so_far)

pub returns : goal.returns
returns g c = λ n h.
    let so_far : c.loop-list.sum ≤ c.args.first + n * c.loop-list.list-index =
    c.loop-list.invariant n h in
    let all : c.loop-list.list-index ≡ length c.args.lists.now =
    omega (arith, c.loop-list-test.false, c.loop-list.auto.list-index-end) in
    subst (λ (k : ℕ). c.loop-list.sum ≤ c.args.first + n * k) all so_far
