use Rattle.std.proofs.Common.{◌≡◌, rules}
use Rattle.std.specs.Ordering.{is_lt}
use Rattle.std.proofs.lemmas.Fn.{always_returns_same}
use Rattle.labels.specs.Labels.{labels_cmp}
use Rattle.labels.specs.Laws.{labels_total}
use Rattle.block_writer.proofs.Neighbours.{rise_from_pairs}
use Rattle.block_writer.proofs.part_rows.rise.Goals as goal

pub returns : goal.returns
returns c =
    rise_from_pairs labels_cmp labels_total c.args.rows.now c.is_sorted_by.result
    (c.is_sorted_by.ensures.cases (λ x y. is_lt (labels_cmp x.0 y.0)) (always_returns_same _
    (λ a r. r ≡ is_lt (labels_cmp a.0.now.0 a.1.0.now.0)) _ (λ a r q k. search rules)))
