use Rattle.std.proofs.Common.{◌≡◌, ℕ, ◌<◌, true, List, [], ◌∷◌, ◌++◌, length, map, get_or, Some, slice_get, Bor, option_map, ap, sym, ◌∙◌, subst, arith}
use Rattle.std.proofs.lemmas.List.{length-map}
use Rattle.std.proofs.lemmas.Option.{slice_get-map, slice_get-get_or, slice_get_within, get_or_from_slice_get}
use Rattle.std.specs.List.{Contains}
use Rattle.labels.specs.Labels.{value_of}
use Rattle.labels.specs.Parts.{references_where, carries}
use Rattle.labels.specs.Sets.{union_all}
use Rattle.labels.proofs.SetLemmas.{union-rises}
use Rattle.postings.specs.Differing.{differs}
use Rattle.postings.proofs.Choosing.{Gathered, gathered_none, gathered_push, gathered_where, map_push, absent_same}
use Rattle.postings.proofs.choice.lists_of_choices.Goals as goal
use Rattle.postings.proofs.choice.lists_of_choices.Goals.{in-Some+in_ok-push, in_default}

abbrev none_there : Bor (List ℕ)
none_there = record { ref_ptr = (0, 0); now = [] }

-- the text at a place is one of the choices
text_at : (choices : List (Bor (List ℕ))) (i : ℕ) → i < length choices
    → slice_get (map (λ choice. choice.now) choices) i ≡ Some (get_or choices i none_there).now
text_at choices i h = slice_get-map (λ choice. choice.now) choices i ∙ ap (option_map (λ choice. choice.now)) (slice_get-get_or choices i none_there h)

stands_at : (texts : List (List ℕ)) (i : ℕ) (text : List ℕ) → slice_get texts i ≡ Some text → Contains texts text
stands_at texts i text at = (i, slice_get_within texts i text at, get_or_from_slice_get texts i text text at)

pub loop-choice-preserved : goal.loop-choice-preserved
loop-choice-preserved g c =
    let part = g.S.Source.part c.args.source.now in
    let m = c.args.matcher.now in
    let f = g.S.List.Postings.remaining in
    let texts : List (List ℕ) = map (λ choice. choice.now) c.args.choices.now in
    let i = c.loop-choice.choice-index in
    let text = (get_or c.args.choices.now i none_there).now in
    let at : slice_get texts i ≡ Some text = text_at c.args.choices.now i c.loop-choice-test.true in
    let tested : differs m text ≡ true = (c.requires.each text).1 (stands_at texts i text at) in
    record {
      gathered = elim c.match-list.branch [
        | in-Some+in_ok-push w ↦
            let pushed : map f c.match-list.lists.items ≡ map f c.loop-choice.lists.items ++ f w.in-Some.list ∷ [] =
            ap (λ v. map f v.items) w.lists-is ∙ ap (map f) w.in_ok-push.ensures.items ∙ map_push f c.loop-choice.lists.items w.in-Some.list in
            let listed : f w.in-Some.list ≡ references_where (carries m.name text) part = w.in-Some.ensures.listed ∙ ap (λ n. references_where (carries n text) part) c.name.ensures in
            rw pushed (gathered_push part m.name (differs m) texts i (map f c.loop-choice.lists.items) text (f w.in-Some.list) c.loop-choice.invariant.gathered at tested listed)
        | in_default w ↦
            let none : references_where (carries m.name text) part ≡ [] = ap (λ n. references_where (carries n text) part) (sym c.name.ensures) ∙ w.in_default.ensures.none in
            rw w.lists-is (gathered_none part m.name (differs m) texts i (union_all (map f c.loop-choice.lists.items)) text c.loop-choice.invariant.gathered at none)
      ];
    }

pub returns : goal.returns
returns g c =
    let part = g.S.Source.part c.args.source.now in
    let m = c.args.matcher.now in
    let f = g.S.List.Postings.remaining in
    let texts : List (List ℕ) = map (λ choice. choice.now) c.args.choices.now in
    let union = union_all (map f c.loop-choice.lists.items) in
    let ended : c.loop-choice.choice-index ≡ length texts = omega (arith, c.loop-choice-test.false, c.loop-choice.auto.choice-index-end, length-map c.args.choices.now (λ choice. choice.now)) in
    let all = subst (λ (n : ℕ). Gathered part m.name (differs m) texts n union) ended c.loop-choice.invariant.gathered in
    gathered_where part m.name (differs m) texts union (g.met.S.Source.is_part c.args.source.now) (union-rises (map f c.loop-choice.lists.items)) (absent_same m)
    (λ row c' some t. (c.requires.each (value_of row.1.0 m.name)).0 t) all
