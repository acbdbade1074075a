use Rattle.std.proofs.Common.{◌≡◌, ◌+◌, ◌-◌, ◌/◌, ◌++◌, ◌∙◌, Vec, Global, List, refl, sym, ap}
use Rattle.std.proofs.Common.{arith}
use Rattle.std.specs.Prelude.{ℕ}
use Rattle.std.proofs.lemmas.Result.{IfOk-at_ok}
use Rattle.labels.specs.Rows.{Row}
use Rattle.block_walk.specs.BlockFiles.Samples.{part_of}
use Rattle.block_walk.specs.BlockFiles.Shared.{stretch}
use Rattle.block_walk.proofs.BlockFiles.Shared.{stretch_both}
use Rattle.block_walk.proofs.samples.+halves.Goals as goal

pub returns : goal.returns
returns g t c =
    let low = c.args.count / 2 in
    let high = c.args.count - low in
    let part = part_of c.args.chunks.now c.args.tombstones.now c.args.entries.now in
    let front = stretch c.args.from low part in
    let back = stretch (c.args.from + low) high part in
    let whole =
    stretch_both part c.args.from low high (c.args.from + low) c.args.count (omega arith) refl in
    let first = IfOk-at_ok (λ (v : Vec (ℕ × Row) Global). v.items ≡ front) c.in_ok-rows.was
    c.join-first.ensures.first in
    let second = IfOk-at_ok (λ (v : Vec (ℕ × Row) Global). v.items ≡ back) c.in_ok-more.was
    c.join-first.ensures.second in
    c.in_ok-append.ensures.items
    ∙ ap (λ (xs : List (ℕ × Row)). xs ++ c.in_ok-more.more.items) first
    ∙ ap (λ (xs : List (ℕ × Row)). front ++ xs) second
    ∙ sym whole
