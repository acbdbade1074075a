use Rattle.std.proofs.Common.{◌∙◌}
use Rattle.labels.proofs.SetLemmas.{difference_first}
use Rattle.postings.proofs.without.WithoutPostings.current.Goals as goal

pub returns : goal.returns
returns g c = c.current.ensures ∙ difference_first (g.A.Postings.remaining c.args.self.now.list) (g.B.Postings.remaining c.args.self.now.out) c.args.self.now.settled
