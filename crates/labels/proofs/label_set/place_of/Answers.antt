use Rattle.std.proofs.Common.{◌≡◌, ℕ, ◌+◌, ◌-◌, ◌/◌, ◌<◌, List, length, get_or, Some, sym, ap, ◌∙◌, arith}
use Rattle.std.specs.Ordering.{nat_cmp}
use Rattle.std.specs.Cmp.Lexicographic.{slice_cmp}
use Rattle.std.specs.Prelude.{slice_get}
use Rattle.std.specs.declared.cmp.Ordering.{Ordering}
use Rattle.std.specs.declared.cmp.Ordering.TheVariants.{Less, Equal, Greater}
use Rattle.labels.specs.Labels.{Labels}
use Rattle.labels.proofs.Search.{none, got, before, behind}
use Rattle.labels.proofs.label_set.place_of.Goals as goal

-- what was compared, and how
at_middle : (ps : Labels) (m : ℕ) (a b name name' : List ℕ) (v : List ℕ) (r o : Ordering) → slice_get ps m ≡ Some (a, v) → b ≡ a → name' ≡ name → r ≡ slice_cmp nat_cmp b name' → r ≡ o → slice_cmp nat_cmp (get_or ps m none).0 name ≡ o
at_middle ps m a b name name' v r o g e f h k = ap (λ (p : (List ℕ × List ℕ)). slice_cmp nat_cmp p.0 name) (got ps m (a, v) none g) ∙ rw (← f, ← e) (sym h ∙ k)

pub loop-low-preserved-in-Less : goal.loop-low-preserved-in-Less
loop-low-preserved-in-Less c =
    let l = c.loop-low in
    let m = l.low + (l.high - l.low) / 2 in
    let lt : m < length c.args.pairs.now = omega arith in
    let e = at_middle c.args.pairs.now m _ _ c.args.name.now _ _ _ Less c.pair.ensures c.as_bytes.ensures.value c.as_bytes-in-loop-low.ensures.value c.cmp.ensures c.in-Less.is in
    record {
      ordered = omega arith;
      inside = l.invariant.inside;
      below = λ k b. before c.args.pairs.now c.args.name.now m c.requires lt e k (omega arith);
      above = l.invariant.above;
    }

pub loop-low-preserved : goal.loop-low-preserved
loop-low-preserved c =
    let l = c.loop-low in
    let m = l.low + (l.high - l.low) / 2 in
    let lt : m < length c.args.pairs.now = omega arith in
    let e = at_middle c.args.pairs.now m _ _ c.args.name.now _ _ _ Greater c.pair.ensures c.as_bytes.ensures.value c.as_bytes-in-loop-low.ensures.value c.cmp.ensures c.in-Greater.is in
    record {
      ordered = omega arith;
      inside = omega arith;
      below = l.invariant.below;
      above = λ k b inside. behind c.args.pairs.now c.args.name.now m c.requires lt e k b inside;
    }

pub returns-in-Equal-clause-found : goal.returns-in-Equal-clause-found
returns-in-Equal-clause-found c =
    let l = c.loop-low in
    let m = l.low + (l.high - l.low) / 2 in
    (omega arith, at_middle c.args.pairs.now m _ _ c.args.name.now _ _ _ Equal c.pair.ensures c.as_bytes.ensures.value c.as_bytes-in-loop-low.ensures.value c.cmp.ensures c.in-Equal.is)
