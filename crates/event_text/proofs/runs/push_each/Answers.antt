use Rattle.std.proofs.Common.{◌≡◌, ◌+◌, ◌++◌, ◌∷◌, [], ℤ, List, take, sym, ap, ◌∙◌, append_assoc}
use Rattle.std.proofs.Common.{arith, rules}
use Rattle.head.specs.Worlds.{Batch}
use Rattle.event_text.specs.Runs.{before}
use Rattle.event_text.proofs.RunLaws.{before_more, take_read}
use Rattle.event_text.proofs.runs.push_each.Goals as goal

pub loop-sample-preserved : goal.loop-sample-preserved
loop-sample-preserved c =
    let l = c.args.labels.now in
    let ss = c.args.samples.now in
    let i = c.loop-sample.sample-index in
    let s = c.sample-item.result in
    let same : c.in_ok-try_clone.field-0 ≡ l = search rules in
    let old = c.args.out.now.items in
    let more : take (i + 1) ss ≡ take i ss ++ s ∷ [] =
    take_read ss i s (omega (arith, c.loop-sample-test.true)) c.sample-item.is in
    c.in_ok-push.ensures.items
    ∙ (ap (λ (xs : Batch). xs ++ (c.in_ok-try_clone.field-0, s) ∷ []) c.loop-sample.invariant
    ∙ (append_assoc old (before l (take i ss) []) ((c.in_ok-try_clone.field-0, s) ∷ [])
    ∙ ap (λ (xs : Batch). old ++ xs)
    (ap (λ k. before l (take i ss) [] ++ (k, s) ∷ []) same
    ∙ (sym (before_more l (take i ss) s) ∙ ap (λ (ts : List (ℤ × ℤ)). before l ts []) (sym more)))))
