use Rattle.std.proofs.Common.{◌≡◌, ◌<◌, length, get_or, arith}
use Rattle.std.proofs.lemmas.List.{length-map}
use Rattle.std.proofs.lemmas.Option.{get_or_from_slice_get}
use Rattle.block_walk.specs.IndexFile.Series.{Series, references}
use Rattle.block_walk.proofs.BlockFiles.Places.{nowhere_at}
use Rattle.block_walk.proofs.deletions.place_of.Goals.{else-at-len-via-then-at-len+else-number, else-at-len-via-else-at-len}
use Rattle.block_walk.proofs.deletions.place_of.Goals as goal

pub returns-clause-none : goal.returns-clause-none
returns-clause-none c =
    let ss = c.args.entries.now in
    let at = c.place_from-at.result in
    let size : length (references ss) ≡ length ss = length-map ss (λ (s : Series). s.reference) in
    let above : at < length (references ss) → c.args.reference < get_or (references ss) at 0 =
    λ lt. elim c.else-at-len.branch [
      | else-at-len-via-then-at-len+else-number w ↦
          let here : get_or (references ss) at 0 ≡ w.reference_at.result =
          get_or_from_slice_get (references ss) at w.reference_at.result 0 w.reference_at.ensures in
          let reached = c.place_from-at.ensures.above (omega (arith, lt, size)) in
          omega (arith, here, reached, w.if-number.false)
      | else-at-len-via-else-at-len w ↦ absurd (omega (arith, lt, size, w.if-at-len.false))
    ] in
    nowhere_at (references ss) c.args.reference at c.requires
    (λ k lt. c.place_from-at.ensures.below k lt) above
