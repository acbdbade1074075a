use Rattle.auditor.proofs.Comparing.{labels_same}
use Rattle.page_claims.proofs.about.same.Goals as goal

pub returns : goal.returns
returns c = labels_same c.args.a.now c.args.b.now c.eq.result c.eq.ensures
