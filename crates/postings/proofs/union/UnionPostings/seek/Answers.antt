use Rattle.std.proofs.Common.{map, ap, ◌∙◌, arith}
use Rattle.std.specs.BinaryHeap.{heap_items}
use Rattle.labels.specs.Ascending.{not_below}
use Rattle.labels.specs.Sets.{union_all}
use Rattle.postings.proofs.Heaped.{sought_all}
use Rattle.postings.proofs.union.UnionPostings.seek.Goals as goal

pub returns : goal.returns
returns g c =
    let olds = map (λ s. g.P.Postings.remaining s.list) (heap_items c.self.inside.lists) in
    let news = map (λ s. g.P.Postings.remaining s.list) (heap_items c.loop-target.self-inside.lists) in
    sought_all olds news c.args.target c.loop-target.invariant.same (omega (arith, c.loop-target-test.false, c.begins.ensures.value))
    ∙ ap (λ xss. not_below c.args.target (union_all xss)) c.self.view_is
