use Rattle.std.proofs.Common.{◌≡◌, ℕ, ◌+◌, length, drop, sym, ap, subst, arith}
use Rattle.labels.specs.Rows.{points_of}
use Rattle.whole_audit.proofs.Counted.{listed_step}
use Rattle.whole_audit.proofs.showing.count_listed.Goals as goal

pub loop-row-preserved : goal.loop-row-preserved
loop-row-preserved c =
    let rows = c.args.rows.now in
    let i = c.loop-row.row-index in record {
      left =
          subst (λ (n : ℕ). (c.loop-row.count + n) + length (points_of (drop (i + 1) rows))
          ≡ length (points_of rows)) (sym (ap length c.samples.ensures))
          (listed_step rows i c.row-item.result c.loop-row.count (length (points_of rows))
          c.loop-row-test.true c.row-item.is c.loop-row.invariant.left);
      small = omega arith;
    }
