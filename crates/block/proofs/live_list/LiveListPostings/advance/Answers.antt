use Rattle.std.proofs.Common.{ℕ, ◌∙◌, arith}
use Rattle.labels.specs.Rows.{Row}
use Rattle.labels.specs.Parts.{has_sample}
use Rattle.block.proofs.Walking.{rest_at}
use Rattle.block.proofs.live_list.LiveListPostings.advance.Goals as goal

pub returns-then-self-series_count : goal.returns-then-self-series_count
returns-then-self-series_count c =
    let live = c.args.self.now in
    c.next_live-self.ensures.moved
    ∙ rest_at (λ (row : ℕ × Row). has_sample live.times.from live.times.to row.1.1)
    live.block.now.part live.place (omega arith) live.rising live.settled
