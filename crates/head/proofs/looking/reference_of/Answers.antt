use Rattle.std.specs.Prelude.{◌≡◌, ◌≢◌, ℕ, List, Some, length, slice_index_or}
use Rattle.std.proofs.Common.{ap, subst, arith}
use Rattle.labels.specs.Parts.{Part, IsPart, labels_in, row_at}
use Rattle.head.specs.Looking.{IsCandidates}
use Rattle.head.proofs.LookUps.{none_listed}
use Rattle.head.proofs.looking.reference_of.Goals as goal

pub returns : goal.returns
returns c =
    let part : Part = c.args.block.now.part in
    let found : List ℕ = c.in_ok-found.found.items in
    let same : c.deref-reference-items.result.now ≡ found = c.deref-reference-items.ensures.value in
    none_listed c.args.labels.now part found
    (subst IsPart c.view-view.ensures c.view-view.result.is_part)
    (subst (λ (p : Part). IsCandidates c.args.labels.now p found) c.view-view.ensures c.in_ok-found.ensures)
    (λ k h. let size = ap length same in
    subst (λ (rs : List ℕ). labels_in (row_at (slice_index_or rs k 0) part) ≢ Some c.args.labels.now) same
    (c.loop-reference.invariant k (omega (arith, h, size, c.loop-reference-test.false))))
