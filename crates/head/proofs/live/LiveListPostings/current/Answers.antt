use Rattle.std.proofs.Common.{◌≡◌, ℕ, ◌+◌, Some, sym, ap, ◌∙◌, arith}
use Rattle.head.specs.HeadRowLaws.{first_at}
use Rattle.head.proofs.live.LiveListPostings.current.Goals as goal

pub returns-then-self-len : goal.returns-then-self-len
returns-then-self-len c =
    let n : c.new.result ≡ c.args.self.now.place + 1 = c.new.ensures in
    ap (λ (r : ℕ). Some r) n
    ∙ sym (c.args.self.now.settled ∙ first_at c.args.self.now.series.now c.args.self.now.place (omega (arith, c.len.ensures)))
