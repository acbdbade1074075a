use Rattle.std.proofs.Common.{◌≡◌, ℕ, ◌<◌, length, ap, subst, ◌∙◌, inl, inr, arith}
use Rattle.std.proofs.lemmas.List.{get_or_default}
use Rattle.labels.specs.Ascending.{first_or_end, or_end}
use Rattle.labels.proofs.Lists.{or_end-first, below_or_not}
use Rattle.cover.specs.Walking.{TellsFarthest, begins_at}
use Rattle.cover.proofs.Farthest.{farthest_more, farthest_same, live_farther, live_nearer, at_map}
use Rattle.cover.proofs.walk.farthest.Goals as goal

pub loop-number-preserved : goal.loop-number-preserved
loop-number-preserved g c =
    let begins : ℕ → ℕ = begins_at g.P.Postings.remaining c.args.lists.now in
    let within : c.loop-number.number < length c.args.lists.now =
    omega (arith, c.loop-number-test.true) in
    let b : c.number_or_end-begins.result ≡ begins c.loop-number.number =
    at_map (λ x. first_or_end (g.P.Postings.remaining x.0)) c.args.lists.now c.loop-number.number
    (λ n. c.number_or_end-begins.result ≡ n) within (λ d.
    c.number_or_end-begins.ensures
    ∙ ap or_end c.current.ensures
    ∙ or_end-first (g.P.Postings.remaining c.index-lists-number.result.0)
    ∙ ap (λ l. first_or_end (g.P.Postings.remaining l.0)) (c.index-lists-number.is
    ∙ get_or_default c.args.lists.now c.loop-number.number c.index-lists-number.result d within)) in
    elim (below_or_not c.loop-number.end c.number_or_end-begins.result) [
      | inl lt ↦
          rw (c.farther-told.ensures.other lt)
          (farthest_more begins c.loop-number.number c.args.from c.loop-number.end
          c.loop-number.verdict c.number_or_end-begins.result c.loop-number.invariant b lt)
      | inr le ↦
          rw (c.farther-told.ensures.first le)
          (farthest_same begins c.loop-number.number c.args.from c.loop-number.end
          c.loop-number.verdict c.number_or_end-begins.result c.loop-number.invariant b le)
    ]

pub returns : goal.returns
returns g c =
    let begins : ℕ → ℕ = begins_at g.P.Postings.remaining c.args.lists.now in
    let n = length c.args.lists.now in
    let all : c.loop-number.number ≡ n =
    omega (arith, c.loop-number-test.false, c.loop-number.auto.number-end) in
    let told : TellsFarthest begins n 0 c.args.from c.loop-number.verdict c.loop-number.end =
    subst (λ (n : ℕ). TellsFarthest begins n 0 c.args.from c.loop-number.verdict c.loop-number.end)
    all c.loop-number.invariant in
    let b : c.number_or_end-begins-2.result
    ≡ first_or_end (g.L.Postings.remaining c.args.live.now.0) =
    c.number_or_end-begins-2.ensures
    ∙ ap or_end c.current-2.ensures
    ∙ or_end-first (g.L.Postings.remaining c.args.live.now.0) in
    elim (below_or_not c.loop-number.end c.number_or_end-begins-2.result) [
      | inl lt ↦
          rw (c.farther.ensures.other lt, ← b)
          (live_farther begins n c.number_or_end-begins-2.result c.args.from c.loop-number.end
          c.loop-number.verdict told lt)
      | inr le ↦
          rw (c.farther.ensures.first le, ← b) (live_nearer begins n c.number_or_end-begins-2.result
          c.args.from c.loop-number.end c.loop-number.verdict told le)
    ]
