use Rattle.commands.proofs.WholeFiles.{whole_of, whole_found, whole_judged}
use Rattle.commands.proofs.check.judge_at.Goals as goal

pub returns-clause-judged : goal.returns-clause-judged
returns-clause-judged g c = record {
  files = whole_of _ _ c.in_ok-block.block c.in_ok-block.ensures.ok;
  found = whole_found _ _ c.in_ok-block.block c.in_ok-block.ensures.ok;
  judged =
      whole_judged _ _ c.in_ok-block.block c.in_ok-block.ensures.ok _ c.in_ok-judgement.ensures;
}
