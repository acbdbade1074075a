use Rattle.std.proofs.Common.{◌≡◌, true, false, ℤ, List, map, sym, ◌∙◌, ap, subst, arith, rules, to_z, of_z, w64}
use Rattle.std.specs.Prelude.{Ok, Err, int_lt, int_le, IfErr}
use Rattle.std.specs.Arc.{arc_value}
use Rattle.std.proofs.lemmas.Int.{ints}
use Rattle.head.specs.Outcomes.{IsStepRefusal}
use Rattle.head.specs.Blocks.{part_in}
use Rattle.head.specs.Cuts.{AreCutBlocks}
use Rattle.head.specs.Fits.{fits}
use Rattle.head.specs.Heads.{BlockPart, SnapshotParts, IsSoundSnapshot, world_of}
use Rattle.head.specs.Refusals.{cut_too_low}
use Rattle.head.specs.Removing.{head_cut}
use Rattle.head.specs.Snapshots.{parts_in}
use Rattle.head.specs.Worlds.{cut_at}
use Rattle.head.proofs.CutSteps.{cut_low, cut_in, cut_accepted, cut_is_sound}
use Rattle.head.proofs.cut.cut_at.Goals as goal

not_up : (floor t : ℤ) → int_le t floor ≡ true → int_lt floor t ≡ false
not_up floor t h = grind (arith, ints)

up_of : (floor t : ℤ) → int_le t floor ≡ false → int_lt floor t ≡ true
up_of floor t h = grind (arith, ints)

pub returns-then-time-at-clause-refused : goal.returns-then-time-at-clause-refused
returns-then-time-at-clause-refused c =
    let s : SnapshotParts = parts_in c.at.inside in
    let time_is : to_z w64 (of_z w64 c.args.time) ≡ c.args.time = search rules in
    let floor_is : to_z w64 (of_z w64 c.at.inside.floor) ≡ c.at.inside.floor = search rules in
    subst (λ (v : SnapshotParts). cut_at fits (world_of v) c.args.time ≡ Err cut_too_low) c.at.view_is
    (cut_low c.args.time s (not_up s.floor c.args.time ((λ i. int_le (sym time_is i) (sym floor_is i)) ∙ c.if-time-at.true)))

pub returns-in_err-blocks-clause-refused : goal.returns-in_err-blocks-clause-refused
returns-in_err-blocks-clause-refused c =
    let s : SnapshotParts = parts_in c.at.inside in
    let time_is : to_z w64 (of_z w64 c.args.time) ≡ c.args.time = search rules in
    let floor_is : to_z w64 (of_z w64 c.at.inside.floor) ≡ c.at.inside.floor = search rules in
    let up : int_lt c.args.at.now.floor c.args.time ≡ true = subst (λ (v : SnapshotParts). int_lt v.floor c.args.time ≡ true) c.at.view_is
    (up_of s.floor c.args.time ((λ i. int_le (sym time_is i) (sym floor_is i)) ∙ c.if-time-at.false)) in
    let h = c.in_err-blocks.ensures.refused in
    subst (λ r. IfErr c.from_residual.result (λ e. IsStepRefusal e r)) (sym (cut_in c.args.time c.args.at.now up)) (search (rules, h))

pub invariant_of-result : goal.invariant_of-result
invariant_of-result c =
    let s : SnapshotParts = parts_in c.at.inside in
    let time_is : to_z w64 (of_z w64 c.args.time) ≡ c.args.time = search rules in
    let floor_is : to_z w64 (of_z w64 c.at.inside.floor) ≡ c.at.inside.floor = search rules in
    let up : int_lt s.floor c.args.time ≡ true = up_of s.floor c.args.time ((λ i. int_le (sym time_is i) (sym floor_is i)) ∙ c.if-time-at.false) in
    let blocks : List BlockPart = map part_in (arc_value c.in_ok-blocks.blocks).items in
    let cases : AreCutBlocks c.args.time s blocks = subst (λ (v : SnapshotParts). AreCutBlocks c.args.time v blocks) (sym c.at.view_is)
    (subst (λ t. AreCutBlocks t c.args.at.now blocks) time_is c.in_ok-blocks.ensures.blocks) in
    let head_is = c.in_ok-head.ensures.series ∙ (λ i. head_cut (time_is i) (sym c.at.view_is i).head) in
    subst IsSoundSnapshot (λ i. record { blocks = blocks; head = sym head_is i; floor = sym time_is i; copied = sym c.in_ok-head.ensures.copied i })
    (cut_is_sound c.args.time s blocks c.at.invariant c.requires up cases)

pub returns-clause-ok : goal.returns-clause-ok
returns-clause-ok c =
    let s : SnapshotParts = parts_in c.at.inside in
    let time_is : to_z w64 (of_z w64 c.args.time) ≡ c.args.time = search rules in
    let floor_is : to_z w64 (of_z w64 c.at.inside.floor) ≡ c.at.inside.floor = search rules in
    let up : int_lt s.floor c.args.time ≡ true = up_of s.floor c.args.time ((λ i. int_le (sym time_is i) (sym floor_is i)) ∙ c.if-time-at.false) in
    let blocks : List BlockPart = map part_in (arc_value c.in_ok-blocks.blocks).items in
    let cases : AreCutBlocks c.args.time s blocks = subst (λ (v : SnapshotParts). AreCutBlocks c.args.time v blocks) (sym c.at.view_is)
    (subst (λ t. AreCutBlocks t c.args.at.now blocks) time_is c.in_ok-blocks.ensures.blocks) in
    let head_is = c.in_ok-head.ensures.series ∙ (λ i. head_cut (time_is i) (sym c.at.view_is i).head) in
    ap (λ (v : SnapshotParts). cut_at fits (world_of v) c.args.time) (sym c.at.view_is)
    ∙ cut_accepted c.args.time s blocks c.at.invariant up cases
    ∙ (λ i. Ok (world_of (record { blocks = blocks; head = sym head_is i; floor = sym time_is i; copied = sym c.in_ok-head.ensures.copied i })))
