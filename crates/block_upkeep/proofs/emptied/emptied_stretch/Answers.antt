use Rattle.std.proofs.Common.{◌≡◌, ◌<◌, ◌+◌, ℕ, List, length, take, drop, get_or, subst, arith, add-one}
use Rattle.std.proofs.Common.{drop-cons}
use Rattle.std.specs.Prelude.{All}
use Rattle.std.proofs.lemmas.List.{take_all}
use Rattle.std.proofs.lemmas.List.Elements.{All-cons, All-more}
use Rattle.join_schedule.specs.declared.blocks.Shape.{Shape}
use Rattle.join_schedule.proofs.Sums.{no_block}
use Rattle.block_upkeep.proofs.emptied.emptied_stretch.Goals as goal

-- of the block at a place, and of so many behind it
all_from : (P : Shape → Type 0) (blocks : List Shape) (i n : ℕ) → i < length blocks
    → P (get_or blocks i no_block) → All P (take n (drop (i + 1) blocks))
    → All P (take (n + 1) (drop i blocks))
all_from P blocks i n lt here behind =
    rw (add-one n, drop-cons blocks i no_block)
    (All-cons P (get_or blocks i no_block) _ here (rw (← add-one i) behind))

pub loop-at-preserved : goal.loop-at-preserved
loop-at-preserved c =
    All-more (λ (b : Shape). 0 < b.samples) c.args.blocks.now c.loop-at.at no_block
    c.loop-at-test.true c.loop-at.invariant (omega (arith, c.if-block-eq0.false))

pub returns-then-block-eq0-clause-some : goal.returns-then-block-eq0-clause-some
returns-then-block-eq0-clause-some c =
    let count = c.count_emptied.result in
    record {
      some = omega arith;
      inside =
          omega (
            arith,
            c.count_emptied.ensures.within,
            c.split_at.ensures.back_len,
            c.loop-at-test.true,
          );
      emptied =
          all_from (λ (b : Shape). b.samples ≡ 0) c.args.blocks.now c.loop-at.at count
          c.loop-at-test.true c.if-block-eq0.true
          (subst (λ (bs : List Shape). All (λ (b : Shape). b.samples ≡ 0) (take count bs))
          c.split_at.ensures.back c.count_emptied.ensures.emptied);
    }

pub returns-clause-none : goal.returns-clause-none
returns-clause-none c =
    subst (λ (bs : List Shape). All (λ (b : Shape). 0 < b.samples) bs)
    (take_all c.loop-at.at c.args.blocks.now c.loop-at-test.false) c.loop-at.invariant
