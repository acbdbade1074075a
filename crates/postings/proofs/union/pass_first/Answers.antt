use Rattle.std.proofs.Common.{◌≡◌, ◌<◌, suc, length, rules, refl, ap, sym, ◌∙◌, subst, arith}
use Rattle.std.specs.BinaryHeap.{heap_items, heap_len}
use Rattle.std.specs.BinaryHeap.PeekMut.{peek_mut_top, peek_mut_rest}
use Rattle.labels.specs.Ascending.{first_or_end, rest_of, not_below}
use Rattle.postings.proofs.Heaped.{top_in, top_below, one_moved, rest_not_below, rest_shorter}
use Rattle.postings.proofs.union.pass_first.Goals as goal

pub returns-in-Some-clause-moved : goal.returns-in-Some-clause-moved
returns-in-Some-clause-moved g c =
    let heap = c.args.lists.now in
    let old = heap_items heap in
    let top = peek_mut_top c.in-Some.top in
    let below : first_or_end (g.P.Postings.remaining top.list) < (suc c.args.number) =
    top_below (λ s. g.P.Postings.remaining s.list) (λ s. s.first) (λ s. s.begins) top old
    (top_in (λ s. g.P.Postings.remaining s.list) old (heap_len heap) top heap.data.ok.0 (c.in-Some.ensures.variant.0 refl) c.in-Some.ensures.top)
    (c.in-Some.ensures.greatest c.requires.heap) (λ s. g.met.P.Postings.ascending s.list) (suc c.args.number) (omega (arith, c.requires.first)) in
    let moved : g.P.Postings.remaining c.advance.new.self.list ≡ rest_of (g.P.Postings.remaining top.list) =
    c.advance.ensures ∙ ap (λ s. rest_of (g.P.Postings.remaining s.list)) c.deref_mut.ensures.value in
    let put = c.drop-top.ensures.permutation (search rules) in
    let all = one_moved (λ s. g.P.Postings.remaining s.list) (suc c.args.number) old _ (peek_mut_rest c.in-Some.top) top c.advance.new.self c.in-Some.ensures.permutation put
    (ap (not_below (suc c.args.number)) moved ∙ rest_not_below (suc c.args.number) (g.P.Postings.remaining top.list) below (omega (arith, c.requires.within)))
    (subst (λ ys. length ys < length (g.P.Postings.remaining top.list)) (sym moved) (rest_shorter (suc c.args.number) (g.P.Postings.remaining top.list) below (omega (arith, c.requires.within)))) in
    search rules
