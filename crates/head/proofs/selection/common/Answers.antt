use Rattle.std.proofs.Common.{◌≡◌, List, ℕ, sym, ◌∙◌, ap, arith}
use Rattle.std.specs.Prelude.{slice_index_or}
use Rattle.block.specs.Fewer.{is_among}
use Rattle.head.proofs.Selecting.{kept_more, kept_less, later_left, inside_any}
use Rattle.head.proofs.selection.common.Goals.{then-reaches+in_ok-push, else-reaches}
use Rattle.head.proofs.selection.common.Goals as goal

pub loop-reference-preserved : goal.loop-reference-preserved
loop-reference-preserved g c =
    let refs : List ℕ = c.args.references.now in
    let all : List ℕ = g.P.Postings.remaining c.args.list in
    let left : List ℕ = g.P.Postings.remaining c.loop-reference.list in
    let i : ℕ = c.loop-reference.reference-index in
    let r : ℕ = c.reference-item.result in
    let here : r ≡ slice_index_or refs i 0 = c.reference-item.is ∙ inside_any refs i r 0 c.loop-reference-test.true in
    let told : c.reaches.result ≡ is_among all r =
    c.reaches.ensures.found ∙ ap (is_among left) here ∙ c.loop-reference.invariant.rest i (omega arith) c.loop-reference-test.true ∙ sym (ap (is_among all) here) in
    record {
      kept = elim c.if-reaches.branch [
        | then-reaches+in_ok-push b ↦ kept_more (is_among all) refs i r c.loop-reference.found.items c.if-reaches.found.items c.loop-reference-test.true c.reference-item.is
            (sym told ∙ b.if-reaches.true) (ap (λ v. v.items) b.found-is ∙ b.in_ok-push.ensures.items) c.loop-reference.invariant.kept
        | else-reaches b ↦ ap (λ v. v.items) b.found-is
            ∙ kept_less (is_among all) refs i r c.loop-reference.found.items c.loop-reference-test.true c.reference-item.is (sym told ∙ b.if-reaches.false) c.loop-reference.invariant.kept
      ];
      rest = λ k from to.
          ap (λ (xs : List ℕ). is_among xs (slice_index_or refs k 0)) c.reaches.ensures.moved
          ∙ later_left refs left i k r c.requires (omega (arith, from)) to c.reference-item.is
          ∙ c.loop-reference.invariant.rest k (omega (arith, from)) to;
    }
