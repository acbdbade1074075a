use Rattle.std.proofs.Common.{sym, ◌∙◌}
use Rattle.block.proofs.Walking.{head_is}
use Rattle.block.proofs.live_list.LiveListPostings.current.Goals as goal

pub returns-then-self-series_count : goal.returns-then-self-series_count
returns-then-self-series_count c =
    let live = c.args.self.now in
    sym (live.settled
    ∙ head_is live.block.now.part live.place c.reference_at.result c.reference_at.ensures)
