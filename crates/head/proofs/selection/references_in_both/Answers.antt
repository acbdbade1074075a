use Rattle.std.proofs.Common.{◌≡◌, ◌<◌, ◌≤◌, [], ◌∷◌, ◌++◌, ℕ, List, length, append_assoc, append-nil, Some, sym, ◌∙◌, ap, subst}
use Rattle.std.specs.List.{filter}
use Rattle.labels.specs.Ascending.{rest_of}
use Rattle.block.specs.Fewer.{is_among}
use Rattle.head.proofs.Selecting.{met_end, met_here, met_above, met_past, past_less, beyond}
use Rattle.head.proofs.selection.references_in_both.Goals as goal

pub returns-in_default-current : goal.returns-in_default-current
returns-in_default-current g c =
    let xs = g.A.Postings.remaining c.loop-reference.first in
    let ys = g.B.Postings.remaining c.loop-reference.second in
    let zs = g.B.Postings.remaining c.seek.new.self in
    let found : List ℕ = c.loop-reference.found.items in
    sym (append-nil found)
    ∙ ap (λ (ws : List ℕ). found ++ ws)
    (sym (met_end xs ys zs c.in-Some.reference (g.met.A.Postings.ascending c.loop-reference.first)
    (sym c.in-Some.ensures) c.seek.ensures (sym c.in_default-current.ensures)))
    ∙ c.loop-reference.invariant

pub loop-reference-preserved-then-number : goal.loop-reference-preserved-then-number
loop-reference-preserved-then-number g c =
    let xs = g.A.Postings.remaining c.loop-reference.first in
    let ys = g.B.Postings.remaining c.loop-reference.second in
    let zs = g.B.Postings.remaining c.seek.new.self in
    let found : List ℕ = c.loop-reference.found.items in
    let r : ℕ = c.in-Some.reference in
    let same : c.in-Some-current.next ≡ r =
    sym c.number.ensures ∙ c.if-number.true ∙ c.number-in-Some.ensures in
    (λ i. c.in_ok-push.ensures.items i ++ filter (is_among zs) (c.advance.ensures i))
    ∙ append_assoc found (r ∷ []) (filter (is_among zs) (rest_of xs))
    ∙ ap (λ (ws : List ℕ). found ++ ws)
    (sym (met_here xs ys zs r (g.met.A.Postings.ascending c.loop-reference.first)
    (sym c.in-Some.ensures) c.seek.ensures
    (sym c.in-Some-current.ensures ∙ ap (λ n. Some n) same)))
    ∙ c.loop-reference.invariant

pub loop-reference-smaller : goal.loop-reference-smaller
loop-reference-smaller g c =
    let xs = g.A.Postings.remaining c.loop-reference.first in
    let ys = g.B.Postings.remaining c.loop-reference.second in
    let zs = g.B.Postings.remaining c.seek.new.self in
    let r : ℕ = c.in-Some.reference in
    let next : ℕ = c.in-Some-current.next in
    let first = sym c.in-Some.ensures in
    let above : r ≤ next =
    met_above xs ys zs r (g.met.A.Postings.ascending c.loop-reference.first) first
    c.seek.ensures next (sym c.in-Some-current.ensures) in
    let past : r < next = beyond r next above
    (λ e. c.if-number.false (c.number.ensures ∙ sym e ∙ sym c.number-in-Some.ensures)) in
    subst (λ (ws : List ℕ). length ws < length xs) (sym c.seek-else-number.ensures)
    (past_less xs r next first past)

pub loop-reference-preserved : goal.loop-reference-preserved
loop-reference-preserved g c =
    let xs = g.A.Postings.remaining c.loop-reference.first in
    let ys = g.B.Postings.remaining c.loop-reference.second in
    let zs = g.B.Postings.remaining c.seek.new.self in
    let found : List ℕ = c.loop-reference.found.items in
    (λ i. found ++ filter (is_among zs) (c.seek-else-number.ensures i))
    ∙ ap (λ (ws : List ℕ). found ++ ws)
    (sym (met_past xs ys zs c.in-Some.reference
    (g.met.A.Postings.ascending c.loop-reference.first) (sym c.in-Some.ensures) c.seek.ensures
    c.in-Some-current.next (g.met.B.Postings.ascending c.seek.new.self)
    (sym c.in-Some-current.ensures)))
    ∙ c.loop-reference.invariant
