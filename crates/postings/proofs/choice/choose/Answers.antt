use Rattle.std.proofs.Common.{◌≡◌, true, [], map, ap, ◌∙◌, sym}
use Rattle.labels.specs.Sets.{union_all, difference}
use Rattle.labels.specs.Parts.{references}
use Rattle.matchers.specs.Satisfies.{satisfies, accepts_text}
use Rattle.postings.specs.Differing.{differs_in}
use Rattle.postings.proofs.Choosing.{all_but, accepted_alike}
use Rattle.postings.proofs.choice.choose.Goals as goal

pub returns-then-with_absent : goal.returns-then-with_absent
returns-then-with_absent g c =
    let part = g.S.Source.part c.args.source.now in
    let m = c.args.matcher.now in
    let f = g.S.List.Postings.remaining in
    let accepted : accepts_text m [] ≡ true = sym (c.accepts-with_absent.ensures.accepted ∙ ap (λ t. accepts_text t []) c.in_ok-tester.ensures.same) ∙ c.if-with_absent.true in
    c.new-then-with_absent.ensures
    ∙ ap (λ xs. difference xs (union_all c.in_ok-differing.differing)) c.all.ensures
    ∙ ap (difference (references part)) (c.in_ok-differing.ensures ∙ c.in_ok-lists.ensures)
    ∙ all_but part (differs_in m) (λ labels. satisfies m labels) (g.met.S.Source.is_part c.args.source.now) (accepted_alike m accepted)
