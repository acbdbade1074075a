use Rattle.std.proofs.Common.{◌≡◌, ℕ, [], ◌∷◌, ◌++◌, Some, length, map, slice_get, ap, ◌∙◌, subst, arith}
use Rattle.labels.specs.Sets.{union_all}
use Rattle.matchers.specs.Satisfies.{accepts_text}
use Rattle.labels.proofs.SetLemmas.{union-rises}
use Rattle.postings.specs.Differing.{differs}
use Rattle.postings.proofs.Choosing.{Gathered, gathered_skip, gathered_none, gathered_push, gathered_all, map_push, absent_same, differs_tried}
use Rattle.postings.proofs.choice.lists_of_values.Goals as goal
use Rattle.postings.proofs.choice.lists_of_values.Goals.{then-accepts-with_absent+in-Some+in_ok-push, then-accepts-with_absent+in_default, else-accepts-with_absent}

pub loop-i-preserved : goal.loop-i-preserved
loop-i-preserved g c =
    let part = g.S.Source.part c.args.source.now in
    let name = c.args.name.now in
    let m = c.args.tester.now in
    let test = differs m in
    let values = g.S.Source.values c.args.source.now name in
    let f = g.S.List.Postings.remaining in
    let value = c.next_value-value.result.now in
    let tried = differs_tried m value c.accepts.result c.args.with_absent (c.accepts.ensures.accepted ∙ ap (λ t. accepts_text t value) c.loop-i.invariant.same) c.requires in
    record {
      same = c.accepts.ensures.same ∙ c.loop-i.invariant.same;
      text = c.next_value-value.utf8;
      before = λ k next.
          let here : c.loop-i.i ≡ k = omega (arith, next) in
          subst (λ (n : ℕ). slice_get values n ≡ Some value) here c.next_value-value.ensures;
      gathered = elim c.if-accepts-with_absent.branch [
        | then-accepts-with_absent+in-Some+in_ok-push w ↦
            let pushed : map f c.if-accepts-with_absent.lists.items ≡ map f c.loop-i.lists.items ++ f w.in-Some.list ∷ [] =
            ap (λ v. map f v.items) w.lists-is ∙ ap (map f) w.in_ok-push.ensures.items ∙ map_push f c.loop-i.lists.items w.in-Some.list in
            rw pushed (gathered_push part name test values c.loop-i.i (map f c.loop-i.lists.items) value (f w.in-Some.list) c.loop-i.invariant.gathered c.next_value-value.ensures
            (tried ∙ w.if-accepts-with_absent.true) w.in-Some.ensures.listed)
        | then-accepts-with_absent+in_default w ↦
            rw w.lists-is (gathered_none part name test values c.loop-i.i (union_all (map f c.loop-i.lists.items)) value c.loop-i.invariant.gathered c.next_value-value.ensures w.in_default.ensures.none)
        | else-accepts-with_absent w ↦
            rw w.lists-is (gathered_skip part name test values c.loop-i.i (union_all (map f c.loop-i.lists.items)) value c.loop-i.invariant.gathered c.next_value-value.ensures (tried ∙ w.if-accepts-with_absent.false))
      ];
    }

pub returns : goal.returns
returns g c =
    let part = g.S.Source.part c.args.source.now in
    let m = c.args.tester.now in
    let f = g.S.List.Postings.remaining in
    let values = g.S.Source.values c.args.source.now c.args.name.now in
    let union = union_all (map f c.loop-i.lists.items) in
    let ended : c.loop-i.i ≡ length values = omega (arith, c.loop-i-test.false, c.loop-i.auto.i-end, c.value_count-i-end.ensures) in
    let all = subst (λ (n : ℕ). Gathered part c.args.name.now (differs m) values n union) ended c.loop-i.invariant.gathered in
    gathered_all part c.args.name.now (differs m) values union (g.met.S.Source.is_part c.args.source.now) (g.met.S.Source.are_values c.args.source.now c.args.name.now)
    (union-rises (map f c.loop-i.lists.items)) (absent_same m) all
