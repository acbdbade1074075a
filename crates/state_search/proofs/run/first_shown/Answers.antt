use Rattle.std.proofs.Common.{ℕ, ◌+◌, ◌-◌, ◌/◌, ◌≤◌, arith}
use Rattle.labels.specs.Parts.{IsPart}
use Rattle.kept_world.specs.States.{numbered}
use Rattle.kept_world.specs.Births.{came_by}
use Rattle.state_search.proofs.Deciding.{none_below, nowhere, is_not}
use Rattle.state_search.proofs.Shrinking.{part_before}
use Rattle.state_search.proofs.run.first_shown.Goals as goal

pub returns-then-not-branch : goal.returns-then-not-branch
returns-then-not-branch g c =
    let head = c.args.world.now.head in
    let told = c.args.told.now in
    let shows : ℕ → Type 0 = λ p. g.T.Told.shows told (numbered 1 (came_by p head)) in
    let part : (p : ℕ) → c.args.from ≤ p → p ≤ c.args.until → IsPart (numbered 1 (came_by p head)) =
    λ p a b. part_before (came_by p head) (came_by c.args.until head) (c.requires.grows p c.args.until a b (omega arith)) c.requires.part in
    let stays : (p q : ℕ) → c.args.from ≤ p → p ≤ q → q ≤ c.args.until → shows p → shows q =
    λ p q a b l h. g.met.T.Told.later told (came_by p head) (came_by q head) (part p a (omega arith)) (part q (omega arith) l) (c.requires.grows p q a b l) h in
    nowhere shows c.args.from c.args.until stays (is_not c.in_ok-is_shown_at.field-0 c.if-not-branch.true c.in_ok-is_shown_at.ensures.shown)

pub loop-low-preserved : goal.loop-low-preserved
loop-low-preserved g c =
    let head = c.args.world.now.head in
    let told = c.args.told.now in
    let middle = c.loop-low.low + (c.loop-low.high - c.loop-low.low) / 2 in
    let shows : ℕ → Type 0 = λ p. g.T.Told.shows told (numbered 1 (came_by p head)) in
    let part : (p : ℕ) → c.args.from ≤ p → p ≤ c.args.until → IsPart (numbered 1 (came_by p head)) =
    λ p a b. part_before (came_by p head) (came_by c.args.until head) (c.requires.grows p c.args.until a b (omega arith)) c.requires.part in
    let stays : (p q : ℕ) → c.args.from ≤ p → p ≤ q → q ≤ c.args.until → shows p → shows q =
    λ p q a b l h. g.met.T.Told.later told (came_by p head) (came_by q head) (part p a (omega arith)) (part q (omega arith) l) (c.requires.grows p q a b l) h in
    record {
      above = omega arith;
      order = omega arith;
      below = c.loop-low.invariant.below;
      holds = c.loop-low.invariant.holds;
      before = none_below shows c.args.from c.args.until middle stays (omega arith) (is_not c.in_ok-shown.shown c.if-shown.false c.in_ok-shown.ensures.shown);
    }
