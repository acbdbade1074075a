use Rattle.std.proofs.Common.{◌≡◌, ℕ, ◌+◌, ◌-◌, ◌/◌, ◌<◌, ◌≤◌, List, get_or, sym, ap, ◌∙◌, arith}
use Rattle.std.specs.List.Sorted.{IsStrictlyIncreasing}
use Rattle.std.proofs.lemmas.Option.{get_or_from_slice_get}
use Rattle.block.proofs.Places.{below_middle, halved}
use Rattle.block.proofs.raw_list.place_of.Goals as goal

pub loop-low-preserved-then-number : goal.loop-low-preserved-then-number
loop-low-preserved-then-number c =
    let l = c.loop-low in
    let m = l.low + (l.high - l.low) / 2 in
    let e = ap (λ (p : List ℕ × ℕ). p.0) c.get-reference.ensures.counted in
    let once : c.get-reference.new.self.1 ≤ l.entries.1 + 1 =
    omega (arith, ap (λ (p : List ℕ × ℕ). p.1) c.get-reference.ensures.counted) in
    let up : IsStrictlyIncreasing l.entries.0 = rw l.invariant.same c.requires.increasing in
    let less : c.get-reference.result < c.args.target = omega arith in
    record {
      same = e ∙ l.invariant.same;
      start = omega arith;
      ordered = omega arith;
      inside = rw e l.invariant.inside;
      risen = omega (arith, l.invariant.risen, c.get-reference.ensures.risen);
      few =
          λ k h. halved l.entries.1 _ (l.high - l.low) _ _ (l.invariant.few k (rw e at h))
          (omega arith) (omega arith) once;
      below =
          λ k a b. rw e (below_middle l.entries.0 m c.args.target c.get-reference.result up
          (omega arith) c.get-reference.ensures.value less k (omega arith));
      above = rw e l.invariant.above;
      head = rw e l.invariant.head;
    }

pub loop-low-preserved : goal.loop-low-preserved
loop-low-preserved c =
    let l = c.loop-low in
    let m = l.low + (l.high - l.low) / 2 in
    let e = ap (λ (p : List ℕ × ℕ). p.0) c.get-reference.ensures.counted in
    let once : c.get-reference.new.self.1 ≤ l.entries.1 + 1 =
    omega (arith, ap (λ (p : List ℕ × ℕ). p.1) c.get-reference.ensures.counted) in
    let here : get_or l.entries.0 m 0 ≡ c.get-reference.result =
    get_or_from_slice_get l.entries.0 m c.get-reference.result 0 c.get-reference.ensures.value in
    let less : c.args.target ≤ c.get-reference.result = omega arith in
    record {
      same = e ∙ l.invariant.same;
      start = l.invariant.start;
      ordered = omega arith;
      inside = rw e (omega (arith, l.invariant.inside));
      risen = omega (arith, l.invariant.risen, c.get-reference.ensures.risen);
      few =
          λ k h. halved l.entries.1 _ (l.high - l.low) _ _ (l.invariant.few k (rw e at h))
          (omega arith) (omega arith) once;
      below = rw e l.invariant.below;
      above = λ _. rw e (rw here less);
      head = rw e (sym c.get-reference.ensures.value);
    }

pub returns-clause-few : goal.returns-clause-few
returns-clause-few c =
    let l = c.loop-low in
    record {
      reads = l.entries.1 - c.args.entries.now.1;
      added = omega (arith, l.invariant.risen);
      few =
          λ digits h.
          omega (arith, l.invariant.risen, (l.invariant.few digits (rw l.invariant.same h)).1);
    }
