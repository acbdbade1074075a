use Rattle.std.proofs.Common.{◌≡◌, ◌+◌, ◌∙◌, arith, rules, to_z, of_z, w64}
use Rattle.labels.specs.Parts.{has_sample}
use Rattle.head.proofs.Living.{in_times}
use Rattle.head.specs.HeadRows.{rows_from}
use Rattle.head.specs.HeadRowLaws.{rest_at}
use Rattle.head.proofs.live.LiveListPostings.advance.Goals as goal

pub returns-then-self-len : goal.returns-then-self-len
returns-then-self-len c =
    let x : to_z w64 (of_z w64 c.args.self.now.from) ≡ c.args.self.now.from = search rules in
    let y : to_z w64 (of_z w64 c.args.self.now.to) ≡ c.args.self.now.to = search rules in
    let hs = c.args.self.now.series.now in
    in_times c.args.self.now.from (to_z w64 (of_z w64 c.args.self.now.from)) c.args.self.now.to (to_z w64 (of_z w64 c.args.self.now.to)) (rows_from c.next_live-self.result hs) (rows_from (c.args.self.now.place + 1) hs) x y c.next_live-self.ensures.moved
    ∙ rest_at (λ row. has_sample c.args.self.now.from c.args.self.now.to row.1.1) c.args.self.now.series.now c.args.self.now.place
    (omega (arith, c.len.ensures)) c.args.self.now.settled
