use Rattle.std.proofs.Common.{◌≡◌, ℕ, sym, ◌∙◌, ap, subst, arith}
use Rattle.std.specs.List.{Contains}
use Rattle.labels.specs.Ascending.{not_below, first_or_end, or_end}
use Rattle.labels.specs.Sets.{difference}
use Rattle.labels.proofs.Lists.{or_end-first}
use Rattle.labels.proofs.SetLemmas.{difference_sought, difference_rest, not_begun, begun, at_most_one}
use Rattle.postings.proofs.without.settle.Goals as goal

pub returns-then-number_or_end-from-clause-same : goal.returns-then-number_or_end-from-clause-same
returns-then-number_or_end-from-clause-same g c =
    let xs = g.A.Postings.remaining c.loop-next.list in
    let ys = g.B.Postings.remaining c.loop-next.out in
    ap (difference xs) c.seek.ensures ∙ difference_sought xs ys c.in-Some.next (g.met.A.Postings.ascending c.loop-next.list) (sym c.in-Some.ensures) ∙ c.loop-next.invariant

pub returns-then-number_or_end-from-clause-settled : goal.returns-then-number_or_end-from-clause-settled
returns-then-number_or_end-from-clause-settled g c = λ r first has.
    let xs = g.A.Postings.remaining c.loop-next.list in
    let ys = g.B.Postings.remaining c.loop-next.out in
    let same : r ≡ c.in-Some.next = at_most_one xs r c.in-Some.next first (sym c.in-Some.ensures) in
    let begins : c.number_or_end.result ≡ first_or_end (not_below c.in-Some.next ys) =
    c.number_or_end.ensures.value ∙ ap or_end c.current-in-Some.ensures ∙ or_end-first (g.B.Postings.remaining c.seek.new.self) ∙ ap first_or_end c.seek.ensures in
    not_begun ys c.in-Some.next (g.met.B.Postings.ascending c.loop-next.out) (λ e. c.if-number_or_end-from.true (begins ∙ e ∙ sym (c.from.ensures ∙ c.number.ensures)))
    (subst (λ (z : ℕ). Contains (not_below c.in-Some.next ys) z) same (rw c.seek.ensures at has))

pub loop-next-preserved : goal.loop-next-preserved
loop-next-preserved g c =
    let xs = g.A.Postings.remaining c.loop-next.list in
    let ys = g.B.Postings.remaining c.loop-next.out in
    let begins : c.number_or_end.result ≡ first_or_end (g.B.Postings.remaining c.seek.new.self) =
    c.number_or_end.ensures.value ∙ ap or_end c.current-in-Some.ensures ∙ or_end-first (g.B.Postings.remaining c.seek.new.self) in
    let in_out : Contains (g.B.Postings.remaining c.seek.new.self) c.in-Some.next =
    begun (g.B.Postings.remaining c.seek.new.self) c.in-Some.next (sym begins ∙ (c.if-number_or_end-from.false ∙ c.from.ensures ∙ c.number.ensures)) (omega (arith, c.number.ensures, c.number.type_inv)) in
    ap (λ zs. difference zs (g.B.Postings.remaining c.seek.new.self)) c.advance.ensures
    ∙ difference_rest xs (g.B.Postings.remaining c.seek.new.self) c.in-Some.next (sym c.in-Some.ensures) in_out
    ∙ ap (difference xs) c.seek.ensures ∙ difference_sought xs ys c.in-Some.next (g.met.A.Postings.ascending c.loop-next.list) (sym c.in-Some.ensures) ∙ c.loop-next.invariant
