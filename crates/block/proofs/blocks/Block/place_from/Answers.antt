use Rattle.std.proofs.Common.{ℕ, ◌<◌, ◌≤◌, List, get_or, subst, arith}
use Rattle.block.proofs.Showing.{refs_are, size_is}
use Rattle.block.proofs.blocks.Block.place_from.Goals as goal

pub returns-clause-below : goal.returns-clause-below
returns-clause-below c =
    λ k a b. subst (λ (rs : List ℕ). get_or rs k 0 < c.args.target) (refs_are c.deref.result.now
    c.self.inside c.args.self.now c.deref.ensures c.self.view_is) (c.place_from.ensures.below k a b)

pub returns-clause-above : goal.returns-clause-above
returns-clause-above c =
    let size =
    size_is c.deref.result.now c.self.inside c.args.self.now c.deref.ensures c.self.view_is in
    λ l. subst (λ (rs : List ℕ). c.args.target ≤ get_or rs c.place_from.result 0)
    (refs_are c.deref.result.now c.self.inside c.args.self.now c.deref.ensures c.self.view_is)
    (c.place_from.ensures.above (omega (arith, l, size)))
