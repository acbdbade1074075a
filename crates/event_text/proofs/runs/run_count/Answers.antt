use Rattle.std.proofs.Common.{length}
use Rattle.event_text.specs.Runs.{runs_of}
use Rattle.event_text.proofs.RunLaws.{counts_more}
use Rattle.event_text.proofs.runs.run_count.Goals as goal

pub runs-preserved : goal.runs-preserved
runs-preserved c =
    let l = c.runs in
    let s = c.in-Some in
    counts_more l.count (length (runs_of c.args.samples.now)) (length c.args.samples.now) c.lead.result
    l.rest.now s.others.now c.split_at.result.1.now s.first.now s.ensures.cases.0 c.lead.ensures.count
    c.lead.ensures.within c.split_at.ensures.back l.invariant.0 l.invariant.1
