use Rattle.std.proofs.Common.{ℕ, drop, ap, ◌∙◌}
use Rattle.block.proofs.Places.{not_below_at}
use Rattle.head.proofs.reference_list.ReferenceListPostings.seek.Goals as goal

pub returns : goal.returns
returns c =
    ap (λ (n : ℕ). drop n c.go_on_to.new.self.references.now) c.go_on_to.ensures.place
    ∙ ap (λ r. drop c.place_of-place.result r.now) c.go_on_to.ensures.references
    ∙ not_below_at c.args.self.now.references.now c.args.self.now.place c.place_of-place.result c.args.target c.args.self.now.increasing
    c.place_of-place.ensures.ahead c.place_of-place.ensures.within c.place_of-place.ensures.below c.place_of-place.ensures.above
