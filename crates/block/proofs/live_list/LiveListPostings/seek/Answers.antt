use Rattle.std.proofs.Common.{◌≡◌, ℕ, drop, ap, ◌∙◌, arith}
use Rattle.labels.specs.Rows.{Row}
use Rattle.labels.specs.Parts.{has_sample, live_references}
use Rattle.block.proofs.Walking.{sought}
use Rattle.block.proofs.live_list.LiveListPostings.seek.Goals as goal

pub returns-then-start-self : goal.returns-then-start-self
returns-then-start-self c =
    let live = c.args.self.now in
    let p = c.place_from-start.ensures in
    c.next_live-self.ensures.moved
    ∙ sought (λ (row : ℕ × Row). has_sample live.times.from live.times.to row.1.1)
    live.block.now.part live.place c.place_from-start.result c.args.target live.rising p.place.0
    p.place.1 p.below p.above

pub returns-else-start-self : goal.returns-else-start-self
returns-else-start-self c =
    let live = c.args.self.now in
    let p = c.place_from-start.ensures in
    let same : live.place ≡ c.place_from-start.result =
    omega (arith, p.place.0, c.if-start-self.false) in
    ap (λ (k : ℕ). live_references live.times.from live.times.to (drop k live.block.now.part)) same
    ∙ sought (λ (row : ℕ × Row). has_sample live.times.from live.times.to row.1.1)
    live.block.now.part live.place c.place_from-start.result c.args.target live.rising p.place.0
    p.place.1 p.below p.above
