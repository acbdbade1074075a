use Rattle.event_text.specs.Spelling.{IsRun}
use Rattle.event_text.proofs.RunLaws.{runs_more, writes_more}
use Rattle.event_text.proofs.writing.put_runs.Goals as goal

pub runs-preserved : goal.runs-preserved
runs-preserved c =
    let l = c.runs in
    let s = c.in-Some in (
      writes_more l.out.items c.put_run.new.out.items _ c.lead.result l.rest.now s.others.now
          c.split_at.result.0.now c.split_at.result.1.now s.first.now s.ensures.cases.0 c.lead.ensures.count
          c.split_at.ensures.front c.split_at.ensures.back c.in_ok-put_run.ensures.text l.invariant.0,
      λ all. l.invariant.1 (runs_more IsRun c.lead.result l.rest.now s.others.now
          c.split_at.result.0.now c.split_at.result.1.now s.first.now s.ensures.cases.0 c.lead.ensures.count
          c.split_at.ensures.front c.split_at.ensures.back c.in_ok-put_run.ensures.spelled all),
    )
