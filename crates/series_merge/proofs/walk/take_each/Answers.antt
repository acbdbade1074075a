use Rattle.std.proofs.Common.{◌≡◌, ℕ, ◌<◌, List, length, sym, ap, ◌∙◌, ◌++◌, arith, get_or, below_more, slice_set}
use Rattle.std.proofs.lemmas.List.{get_or_default, get_or-set_other, get_or-set_same}
use Rattle.labels.specs.Labels.{Labels}
use Rattle.labels.specs.Rows.{Row}
use Rattle.series_merge.specs.Walking.{behind, front_of}
use Rattle.series_merge.proofs.Fronts.{fronts_more, all_behind}
use Rattle.series_merge.proofs.walk.take_each.Goals as goal

pub loop-part-preserved : goal.loop-part-preserved
loop-part-preserved c =
    let i = c.loop-part.part-index in
    let l : Labels = c.args.labels.now in
    let old : List (List Row) = c.args.parts.now in
    let p : List Row = c.part-item.result in
    let now : List (List Row) = c.loop-part.parts in
    let next : List Row = c.take_alike.new.self in
    let lt : i < length old = omega (arith, c.loop-part-test.true) in
    let is : p ≡ get_or old i p = c.part-item.is ∙ c.loop-part.invariant.rest i p (omega arith) in
    record {
      alike = fronts_more l old i p c.args.alike.now.items c.loop-part.alike.items
          c.take_alike.new.alike.items lt is c.loop-part.invariant.alike
          (c.in_ok-take_alike.ensures.alike
          ∙ ap (λ (x : List Row). c.loop-part.alike.items ++ front_of l x) (sym c.part-item.is));
      moved = λ k d low. below_more (λ (j : ℕ). (e : List Row)
          → get_or (slice_set now i next) j e ≡ behind l (get_or old j e)) i
          (λ j h e. get_or-set_other now i j next e (omega (arith, h)) ∙ c.loop-part.invariant.moved j e h)
          (λ e. get_or-set_same now i next e (omega (arith, lt, c.loop-part.auto.parts))
          ∙ c.in_ok-take_alike.ensures.left
          ∙ ap (behind l) (c.loop-part.invariant.rest i p (omega arith) ∙ get_or_default old i p e lt))
          k low d;
      rest = λ k d high. get_or-set_other now i k next d (omega (arith, high))
          ∙ c.loop-part.invariant.rest k d (omega (arith, high));
    }

pub returns-clause-left : goal.returns-clause-left
returns-clause-left c =
    all_behind c.args.labels.now c.loop-part.parts c.args.parts.now c.loop-part.auto.parts
    (λ k d lt. c.loop-part.invariant.moved k d (omega (arith, lt, c.loop-part-test.false)))
