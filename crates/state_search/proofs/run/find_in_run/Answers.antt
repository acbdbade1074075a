use Rattle.std.proofs.Common.{ℕ, ◌≤◌, subst, arith, MatchOption, Option}
use Rattle.labels.specs.Parts.{IsPart}
use Rattle.kept_world.specs.States.{numbered}
use Rattle.kept_world.specs.Births.{came_by}
use Rattle.state_search.specs.Firsts.{IsFirst, IsNowhere}
use Rattle.state_search.proofs.Deciding.{decides, is_not}
use Rattle.state_search.proofs.Shrinking.{part_before}
use Rattle.state_search.proofs.run.find_in_run.Goals as goal

pub returns-else-branch-2-clause-none : goal.returns-else-branch-2-clause-none
returns-else-branch-2-clause-none g c =
    let head = c.args.world.now.head in
    let told = c.args.told.now in
    let n = c.in-Some.number in
    let from = c.args.from in
    let until = c.args.until in
    let shows : ℕ → Type 0 = λ p. g.T.Told.shows told (numbered 1 (came_by p head)) in
    let sound : ℕ → Type 0 = λ p. g.T.Told.sound told (numbered 1 (came_by p head)) in
    let part : (p : ℕ) → from ≤ p → p ≤ until → IsPart (numbered 1 (came_by p head)) =
    λ p a b. part_before (came_by p head) (came_by until head) (c.requires.grows p until a b (omega arith)) c.in_ok-is_sound_at.ensures.part in
    let has : (p : ℕ) → sound p → shows p = λ p h. g.met.T.Told.shown told (numbered 1 (came_by p head)) h in
    let first : (p q : ℕ) → from ≤ p → p ≤ q → q ≤ until → shows p → sound q → sound p =
    λ p q a b l h k. g.met.T.Told.first told (came_by p head) (came_by q head) (part p a (omega arith)) (part q (omega arith) l) (c.requires.grows p q a b l) h k in
    let f : IsFirst shows from until n =
    subst (λ (o : Option ℕ). MatchOption o (IsNowhere shows from until) (λ m. IsFirst shows from until m)) c.in-Some.is c.in_ok-number.ensures in
    decides shows sound from until n has first f (is_not c.in_ok-is_sound_at-in-Some.field-0 c.if-branch-2.false c.in_ok-is_sound_at-in-Some.ensures.sound)
