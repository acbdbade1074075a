use Rattle.std.proofs.Common.{[], ◌∷◌, ◌++◌, map, ap, ◌∙◌, sym}
use Rattle.labels.specs.Sets.{union_all}
use Rattle.postings.proofs.Choosing.{union-one}
use Rattle.postings.proofs.choice.lists_of_text.Goals as goal
use Rattle.postings.proofs.choice.lists_of_text.Goals.{in-Some+in_ok-push, in_default}

pub returns : goal.returns
returns g c =
    let f = g.S.List.Postings.remaining in
    elim c.match-list.branch [
      | in-Some+in_ok-push w ↦
          ap (λ v. union_all (map f v.items)) w.lists-is
          ∙ ap (λ items. union_all (map f items)) w.in_ok-push.ensures.items
          ∙ ap (λ items. union_all (map f (items ++ w.in-Some.list ∷ []))) c.new-lists.ensures.items
          ∙ union-one (f w.in-Some.list) (g.met.S.List.Postings.ascending w.in-Some.list)
          ∙ w.in-Some.ensures.listed
      | in_default w ↦
          ap (λ v. union_all (map f v.items)) w.lists-is
          ∙ ap (λ items. union_all (map f items)) c.new-lists.ensures.items
          ∙ sym w.in_default.ensures.none
    ]
