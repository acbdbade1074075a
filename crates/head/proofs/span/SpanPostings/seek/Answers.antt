use Rattle.std.proofs.Common.{sym, arith}
use Rattle.head.specs.SpanLaws.{span_sought, span_past}
use Rattle.head.proofs.span.SpanPostings.seek.Goals as goal

pub returns-then-passed-self : goal.returns-then-passed-self
returns-then-passed-self c =
    sym (span_sought c.args.self.now.left c.args.self.now.next c.args.target c.saturating_sub-passed.result (omega (arith, c.saturating_sub-passed.ensures, c.number.ensures, c.if-passed-self.true)))

pub returns-else-passed-self : goal.returns-else-passed-self
returns-else-passed-self c =
    sym (span_past c.args.self.now.left c.args.self.now.next c.args.target (omega (arith, c.saturating_sub-passed.ensures, c.number.ensures, c.if-passed-self.false)))
