use Rattle.std.proofs.Common.{T, sym, subst}
use Rattle.std.specs.FinMap.Entries.{is_sorted}
use Rattle.labels.specs.Labels.{point_cmp}
use Rattle.labels.specs.Contents.{Content}
use Rattle.head.specs.Heads.{parts_of}
use Rattle.history.proofs.Laying.{is_sorted-selected}
use Rattle.history.proofs.walk.rows_of.Goals as goal

pub group_rows-requires : goal.group_rows-requires
group_rows-requires c =
    subst (λ (content : Content). T (is_sorted point_cmp content)) (sym c.in_ok-find_content.ensures)
    (is_sorted-selected c.args.query.now (parts_of c.args.snapshot.now))
