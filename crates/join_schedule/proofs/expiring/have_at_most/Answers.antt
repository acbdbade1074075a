use Rattle.std.proofs.Common.{◌≡◌, ◌+◌, arith, refl}
use Rattle.std.proofs.Common.{true, false, ◌∙◌, ap}
use Rattle.std.proofs.lemmas.List.{take_all}
use Rattle.join_schedule.proofs.Sums.{no_block, more_within, sum_more}
use Rattle.join_schedule.specs.Blocks.{bytes_in}
use Rattle.join_schedule.proofs.expiring.have_at_most.Goals as goal

not_so : false ≡ true → ⊥
not_so b = cc

pub loop-block-init : goal.loop-block-init
loop-block-init c = record { bytes_are = refl; within = omega arith }

pub returns-in_default : goal.returns-in_default
returns-in_default c =
    let l = c.loop-block in (
      λ t. absurd (not_so t),
      λ within.
          absurd (omega (
            arith,
            c.in_default.ensures.none,
            more_within (λ b. b.bytes) c.args.blocks.now l.block-index l.bytes no_block c.loop-block-test.true
                l.invariant.bytes_are,
            within,
          )),
    )

pub loop-block-preserved : goal.loop-block-preserved
loop-block-preserved c =
    let l = c.loop-block in
    record {
      bytes_are =
          sum_more (λ b. b.bytes) c.args.blocks.now l.block-index (l.block-index + 1) l.bytes c.in-Some.more
          no_block c.loop-block-test.true refl l.invariant.bytes_are (c.in-Some.ensures.some.0);
      within = c.in-Some.ensures.some.1;
    }

pub returns : goal.returns
returns c =
    let l = c.loop-block in
    let all : l.bytes ≡ bytes_in c.args.blocks.now =
    l.invariant.bytes_are
    ∙ ap bytes_in (take_all l.block-index c.args.blocks.now c.loop-block-test.false) in
    (λ t. omega (arith, all, l.invariant.within), λ within. refl)
