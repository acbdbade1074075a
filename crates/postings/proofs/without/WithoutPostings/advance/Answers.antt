use Rattle.std.proofs.Common.{ap, ◌∙◌}
use Rattle.labels.specs.Sets.{difference}
use Rattle.labels.proofs.SetLemmas.{difference_past}
use Rattle.postings.proofs.without.WithoutPostings.advance.Goals as goal

pub returns : goal.returns
returns g c =
    let ys = g.B.Postings.remaining c.args.self.now.out in
    c.settle.ensures.same ∙ ap (λ xs. difference xs ys) c.advance.ensures ∙ difference_past (g.A.Postings.remaining c.args.self.now.list) ys c.args.self.now.settled
