use Rattle.std.proofs.Common.{◌≡◌, ◌+◌, ◌-◌, ◌∙◌, arith, rules, to_z, of_z, w64}
use Rattle.labels.specs.Parts.{has_sample}
use Rattle.head.proofs.Living.{in_times}
use Rattle.head.specs.HeadRows.{rows_from}
use Rattle.head.specs.HeadRowLaws.{rows_sought}
use Rattle.head.proofs.live.LiveListPostings.seek.Goals as goal

pub returns-then-start-self : goal.returns-then-start-self
returns-then-start-self c =
    let i = c.args.self.now.place in
    let j = c.saturating_sub-start.result in
    let e : j - i ≡ c.args.target - (i + 1) = omega (arith, c.saturating_sub-start.ensures, c.number.ensures, c.if-start-self.true) in
    let x : to_z w64 (of_z w64 c.args.self.now.from) ≡ c.args.self.now.from = search rules in
    let y : to_z w64 (of_z w64 c.args.self.now.to) ≡ c.args.self.now.to = search rules in
    let hs = c.args.self.now.series.now in
    in_times c.args.self.now.from (to_z w64 (of_z w64 c.args.self.now.from)) c.args.self.now.to (to_z w64 (of_z w64 c.args.self.now.to)) (rows_from c.next_live-self.result hs) (rows_from j hs) x y c.next_live-self.ensures.moved
    ∙ rows_sought (λ row. has_sample c.args.self.now.from c.args.self.now.to row.1.1) c.args.self.now.series.now i c.args.target j (omega (arith, c.if-start-self.true)) e

pub returns-else-start-self : goal.returns-else-start-self
returns-else-start-self c =
    let i = c.args.self.now.place in
    let e : i - i ≡ c.args.target - (i + 1) = omega (arith, c.saturating_sub-start.ensures, c.number.ensures, c.if-start-self.false) in
    rows_sought (λ row. has_sample c.args.self.now.from c.args.self.now.to row.1.1) c.args.self.now.series.now i c.args.target i (omega arith) e
