use Rattle.std.proofs.Common.{ℕ, List, [], ◌∷◌, ◌++◌, map, take, ap, sym, ◌∙◌, arith}
use Rattle.std.proofs.lemmas.List.{map_more}
use Rattle.matchers.specs.Views.{MatcherView}
use Rattle.matchers.specs.Satisfies.{satisfies}
use Rattle.labels.specs.Parts.{references_where}
use Rattle.postings.specs.contracts.chosen.ChosenPostings.TheImpl.{ghosts as chosen_ghosts}
use Rattle.postings.specs.contracts.union.UnionPostings.TheImpl.{ghosts as union_ghosts, dict as union_dict}
use Rattle.cover.proofs.Farthest.{map_push, fresh_push}
use Rattle.cover.proofs.part_cover.chosen_lists.Goals as goal

pub loop-matcher-preserved : goal.loop-matcher-preserved
loop-matcher-preserved g c =
    let remaining =
    (chosen_ghosts g.row.S-List g.S.List.Postings g.S.List.Postings-dict (union_ghosts g.row.S-List
    g.S.List.Postings g.S.List.Postings-dict g.S.List.Destruct-dict) (union_dict g.row.S-List
    g.S.List.Postings g.S.List.Postings-dict g.S.List.Destruct-dict)).remaining in
    let chooses : MatcherView → List ℕ =
    λ m. references_where (λ labels. satisfies m labels) (g.S.Source.part c.args.source.now) in
    record {
      lists =
          ap (map (λ x. remaining x.0)) c.in_ok-push.ensures.items
          ∙ map_push (λ x. remaining x.0) c.loop-matcher.lists.items c.new.result
          ∙ ap (λ xs. xs ++ remaining c.new.result.0 ∷ []) c.loop-matcher.invariant.lists
          ∙ ap (λ y. map chooses (take c.loop-matcher.matcher-index c.args.matchers.now) ++ y ∷ [])
          (ap (λ x. remaining x.0) c.new.ensures
          ∙ c.in_ok-chosen.ensures
          ∙ ap chooses c.matcher-item.is)
          ∙ sym (map_more chooses c.args.matchers.now c.loop-matcher.matcher-index
          c.matcher-item.result (omega (arith, c.loop-matcher-test.true)));
      fresh =
          fresh_push c.loop-matcher.lists.items c.push.new.self.items c.new.result
          c.in_ok-push.ensures.items c.loop-matcher.invariant.fresh (ap (λ x. x.1) c.new.ensures);
    }
