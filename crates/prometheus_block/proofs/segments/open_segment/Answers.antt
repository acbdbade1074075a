use Rattle.std.proofs.Common.{List, ℕ, subst}
use Rattle.prometheus_block.proofs.Opened.{opened_same}
use Rattle.prometheus_block.proofs.segments.open_segment.Goals as goal

pub returns : goal.returns
returns g c =
    subst (λ (x : List ℕ). g.S.ReadSegments.may_read c.args.files.now c.args.number x)
    (opened_same _ c.in_ok-segment.segment c.in_ok-segment.ensures.exact) c.in_ok-bytes.ensures
