use Rattle.std.proofs.Common.{◌≡◌, ◌+◌, ℕ, arith, refl}
use Rattle.std.proofs.Common.{true, false, ◌∙◌, ap}
use Rattle.std.proofs.lemmas.List.{take_all}
use Rattle.join_schedule.proofs.Sums.{no_block, more_within, sum_more}
use Rattle.std.proofs.lemmas.Int.{to_z-of_z}
use mir.Syntax.{w64}
use mir.Val.{to_z, of_z}
use Rattle.join_schedule.specs.Expiry.{share_after, bytes_after}
use Rattle.join_schedule.proofs.expiring.have_at_most_after.Goals as goal

not_so : false ≡ true → ⊥
not_so b = cc

pub loop-block-init : goal.loop-block-init
loop-block-init c = record { bytes_are = refl; within = omega arith }

pub returns-in_default : goal.returns-in_default
returns-in_default c =
    let time = to_z w64 (of_z w64 c.args.time) in
    let l = c.loop-block in
    rw (← to_z-of_z w64 c.args.time c.ranges.time) (
      λ t. absurd (not_so t),
      λ within.
          absurd (omega (
            arith,
            c.in_default.ensures.none,
            c.share_after.ensures,
            more_within (share_after time) c.args.blocks.now l.block-index l.bytes no_block c.loop-block-test.true
                l.invariant.bytes_are,
            within,
          )),
    )

pub loop-block-preserved : goal.loop-block-preserved
loop-block-preserved c =
    let time = to_z w64 (of_z w64 c.args.time) in
    let l = c.loop-block in
    record {
      bytes_are =
          sum_more (share_after time) c.args.blocks.now l.block-index (l.block-index + 1) l.bytes c.in-Some.more
          no_block c.loop-block-test.true refl l.invariant.bytes_are (c.in-Some.ensures.some.0 ∙ ap (λ (n : ℕ). l.bytes + n) c.share_after.ensures);
      within = c.in-Some.ensures.some.1;
    }

pub returns : goal.returns
returns c =
    let time = to_z w64 (of_z w64 c.args.time) in
    let l = c.loop-block in
    let all : l.bytes ≡ bytes_after time c.args.blocks.now =
    l.invariant.bytes_are
    ∙ ap (bytes_after time) (take_all l.block-index c.args.blocks.now c.loop-block-test.false) in
    rw (← to_z-of_z w64 c.args.time c.ranges.time)
    (λ t. omega (arith, all, l.invariant.within), λ within. refl)
