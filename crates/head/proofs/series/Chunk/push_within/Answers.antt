use Rattle.std.proofs.Common.{◌≡◌, ◌++◌, ◌≤◌, true, false, sym, ap, subst, ◌∙◌, arith, rules, length, take, to_z, of_z, w64}
use Rattle.std.specs.Prelude.{ℤ, List, slice_get, Some}
use Rattle.std.proofs.lemmas.List.{take_all}
use Rattle.labels.specs.Parts.{within}
use Rattle.head.proofs.PackedReads.{within_more}
use Rattle.head.proofs.series.Chunk.push_within.Goals as goal
use Rattle.head.proofs.series.Chunk.push_within.Goals.{then-is_within+in_ok-push, else-is_within}

pub loop-place-preserved : goal.loop-place-preserved
loop-place-preserved c =
    let get = subst (λ (ss : List (ℤ × ℤ)). slice_get ss c.loop-place.place ≡ Some c.get-sample.result) c.samples-samples.ensures c.get-sample.ensures in
    elim c.if-is_within.branch [
      | then-is_within+in_ok-push w ↦
          within_more _ _ c.args.self.now c.args.found.now.items c.loop-place.found.items c.if-is_within.found.items c.loop-place.place c.get-sample.result true
          get (sym w.if-is_within.true ∙ c.is_within.ensures) c.loop-place.invariant (ap (λ v. v.items) w.found-is ∙ w.in_ok-push.ensures.items)
      | else-is_within w ↦
          within_more _ _ c.args.self.now c.args.found.now.items c.loop-place.found.items c.if-is_within.found.items c.loop-place.place c.get-sample.result false
          get (sym w.if-is_within.false ∙ c.is_within.ensures) c.loop-place.invariant (ap (λ v. v.items) w.found-is)
    ]

pub returns : goal.returns
returns c =
    let x : to_z w64 (of_z w64 c.args.from) ≡ c.args.from = search rules in
    let y : to_z w64 (of_z w64 c.args.to) ≡ c.args.to = search rules in
    let end : length c.args.self.now ≤ c.loop-place.place = omega (arith, c.loop-place-test.false, c.len-place-end.ensures, ap length c.samples-samples.ensures) in
    c.loop-place.invariant
    ∙ (λ i. c.args.found.now.items ++ within (x i) (y i) (take_all c.loop-place.place c.args.self.now end i))
