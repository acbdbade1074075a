use Rattle.std.proofs.Common.{ap, ◌∙◌}
use Rattle.labels.specs.Sets.{difference}
use Rattle.labels.proofs.SetLemmas.{difference_moved}
use Rattle.postings.proofs.without.WithoutPostings.seek.Goals as goal

pub returns : goal.returns
returns g c =
    let ys = g.B.Postings.remaining c.args.self.now.out in
    c.settle.ensures.same ∙ ap (λ xs. difference xs ys) c.seek.ensures ∙ difference_moved (g.A.Postings.remaining c.args.self.now.list) ys c.args.target
