use Rattle.std.specs.Prelude.{◌≡◌, ◌-◌, length, slice_index_or}
use Rattle.std.proofs.Common.{sym, ◌∙◌, ap, arith, inl, inr}
use Rattle.head.specs.Shown.{series_of}
use Rattle.head.proofs.PartLaws.{row_at-none, row_at-place}
use Rattle.head.proofs.head.HeadView.series_at.Goals as goal
use Rattle.head.proofs.head.HeadView.series_at.Goals.{then-number-eq0-via-then-number-eq0, then-number-eq0-via-else-number-eq0+then-number-len}

pub returns-then-number-eq0-clause-none : goal.returns-then-number-eq0-clause-none
returns-then-number-eq0-clause-none c =
    let number = c.number-number.ensures in
    elim c.then-number-eq0.branch [
      | then-number-eq0-via-then-number-eq0 w ↦ row_at-none c.args.reference (series_of c.args.self.now) (inl (omega arith))
      | then-number-eq0-via-else-number-eq0+then-number-len w ↦ row_at-none c.args.reference (series_of c.args.self.now)
          (inr (let size : w.len.result ≡ length (series_of c.args.self.now) = w.len.ensures in omega arith))
    ]

pub returns-clause-some : goal.returns-clause-some
returns-clause-some c =
    let size : c.len.result ≡ length (series_of c.args.self.now) = c.len.ensures in
    let number = c.number-number.result in
    row_at-place c.args.reference number (series_of c.args.self.now) c.deref.result.now c.number-number.ensures c.if-number-eq0.false (omega arith)
    (c.deref.ensures ∙ c.at-series.ensures ∙ ap (slice_index_or (series_of c.args.self.now) (number - 1)) (sym c.deref.ensures))
