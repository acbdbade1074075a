use Rattle.guard.specs.Hosts.{claimed}
use Rattle.guard.proofs.Judgements.{admits}
use Rattle.guard.proofs.rules.Rules.judge.Goals as goal

pub returns-clause-admitted : goal.returns-clause-admitted
returns-clause-admitted c =
    admits c.args.self.now (claimed c.args.claims.now) c.judged.result c.judged.ensures
