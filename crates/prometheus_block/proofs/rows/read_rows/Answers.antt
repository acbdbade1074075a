use Rattle.std.proofs.Common.{List, sym, subst}
use Rattle.labels.specs.Rows.{Row}
use Rattle.prometheus_block.specs.Rows.{AreRowsOf}
use Rattle.prometheus_block.proofs.rows.read_rows.Goals as goal

pub returns : goal.returns
returns g c = record {
  found =
      subst (λ (rs : List Row). AreRowsOf (g.S.ReadSegments.may_read c.args.files.now)
      c.args.wanted.now c.args.wanted.now.index.now.series rs c.args.tally.now
      c.keep_all.new.tally) (sym c.in_ok-rows.ensures) c.in_ok-kept.ensures.found;
}
