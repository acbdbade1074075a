use Rattle.std.proofs.Common.{sym, subst, T, List, map}
use Rattle.std.specs.FinMap.Entries.{is_sorted}
use Rattle.labels.specs.Labels.{labels_cmp}
use Rattle.labels.specs.Rows.{Row}
use Rattle.kept_world.specs.Sound.{AreApart, rows_in}
use Rattle.kept_world.proofs.Gathering.{sorted_apart, apart_front}
use Rattle.kept_world.proofs.numbering.Leaving.into_table.Goals as goal

pub into_table-requires-clause-apart : goal.into_table-requires-clause-apart
into_table-requires-clause-apart c =
    let sorted : T (is_sorted labels_cmp c.args.self) = subst (λ (rows : List Row). T (is_sorted labels_cmp rows)) c.self.view_is c.self.invariant.0 in
    apart_front c.loop-labels.numbering (rows_in c.loop-labels.rows)
    (subst (λ (rows : List Row). AreApart (map (λ (r : Row). r.0) rows)) (sym c.loop-labels.invariant.rows) (sorted_apart c.args.self sorted))
