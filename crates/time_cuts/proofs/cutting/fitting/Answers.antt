use Rattle.std.proofs.Common.{ℕ, ◌+◌, suc, take, ◌≡◌, sym, ap, subst, ◌∙◌, arith}
use Rattle.time_cuts.specs.Parts.{IsWithin}
use Rattle.time_cuts.proofs.Sums.{AreSums, sums_next, within_of_sums, not_within}
use Rattle.time_cuts.proofs.cutting.fitting.Goals as goal

pub returns-in_default-clause-longest : goal.returns-in_default-clause-longest
returns-in_default-clause-longest c lt w =
    let l = c.loop-slot in
    let j : l.count + 1 ≡ suc l.slot-index = omega (arith, l.invariant.here) in
    not_within c.args.limits c.args.slots.now l.slot-index _ l.samples l.series
    c.loop-slot-test.true l.invariant.sums c.in_default.ensures.none
    (subst (λ (n : ℕ). IsWithin c.args.limits (take n c.args.slots.now)) j w)

pub loop-slot-preserved : goal.loop-slot-preserved
loop-slot-preserved c =
    let l = c.loop-slot in
    let j : suc l.slot-index ≡ l.slot-index + 1 = omega arith in
    let i : suc l.slot-index ≡ l.count + 1 = omega (arith, l.invariant.here) in
    let e = c.in-Some.ensures.some in
    let sums : AreSums c.args.slots.now (suc l.slot-index) c.in-Some.more c.in-Some.most =
    sums_next c.args.slots.now l.slot-index _ l.samples l.series c.in-Some.more c.in-Some.most
    c.loop-slot-test.true l.invariant.sums e.0 e.1 in
    record {
      here = omega (arith, l.invariant.here);
      sums = subst (λ (n : ℕ). AreSums c.args.slots.now n c.in-Some.more c.in-Some.most) j sums;
      within = subst (λ (n : ℕ). IsWithin c.args.limits (take n c.args.slots.now)) i
          (within_of_sums c.args.limits c.args.slots.now l.slot-index c.in-Some.more
          c.in-Some.most sums e.2 e.3);
    }
