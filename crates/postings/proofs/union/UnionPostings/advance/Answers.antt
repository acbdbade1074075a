use Rattle.std.proofs.Common.{suc, map, ap, sym, ◌∙◌, subst, arith}
use Rattle.std.specs.BinaryHeap.{heap_items}
use Rattle.labels.specs.Ascending.{first_or_end, rest_of}
use Rattle.labels.specs.Sets.{union_all}
use Rattle.postings.specs.Standing.{Begins}
use Rattle.postings.proofs.Heaped.{none_rests, passed_all}
use Rattle.postings.proofs.union.UnionPostings.advance.Goals as goal

pub returns-then-first-ge-END : goal.returns-then-first-ge-END
returns-then-first-ge-END g c =
    none_rests c.args.self.now c.begins-first.result (subst (λ xss. Begins c.begins-first.result (union_all xss)) c.self.view_is c.begins-first.ensures) c.if-first-ge-END.true

pub returns : goal.returns
returns g c =
    let olds = map (λ s. g.P.Postings.remaining s.list) (heap_items c.self.inside.lists) in
    let news = map (λ s. g.P.Postings.remaining s.list) (heap_items c.loop-self.self-inside.lists) in
    passed_all olds news c.begins-first.result c.begins-first.ensures (omega (arith, c.if-first-ge-END.false)) c.loop-self.invariant.same (omega (arith, c.loop-self-test.false, c.begins.ensures.value))
    ∙ ap (λ xss. rest_of (union_all xss)) c.self.view_is
