-- The series of a block stand in the order of their label sets.
use Rattle.std.proofs.Common.{◌≡◌, ◌+◌, ◌<◌, List, [], length, get_or, ap, sym, ◌∙◌, arith}
use Rattle.std.specs.Ordering.{is_lt}
use Rattle.std.specs.declared.cmp.Ordering.TheVariants.{Less}
use Rattle.std.proofs.lemmas.List.{get_or-map, length-map}
use Rattle.std.proofs.lemmas.List.MinMax.{ranks_by}
use Rattle.labels.specs.Labels.{labels_cmp}
use Rattle.labels.specs.Laws.{labels_total}
use Rattle.labels.specs.Rows.{row_before}
use Rattle.labels.proofs.NamedPairs.{IsSortedBy-map}
use Rattle.index_reader.specs.Indexes.{Series, Indexed, IsConsistent, label_sets}
use Rattle.tombstones.specs.declared.deletion.Deletion.{Deletion}
use Rattle.block.specs.Samples.{Source}
use Rattle.block.specs.Blocks.{AreInLabelOrder, part_of_series, series_row}

pub in_label_order : (source : Source) (deletions : List Deletion) (x : Indexed) → IsConsistent x
    → AreInLabelOrder (part_of_series source deletions x.series)
in_label_order source deletions x c =
    IsSortedBy-map (series_row source deletions) (λ a b. row_before a.1 b.1) x.series
    (λ k d low lt.
    let size : length (label_sets x.series) ≡ length x.series =
    length-map x.series (λ (s : Series). s.labels) in
    let fits : k + 1 < length x.series = lt in
    let here : k < length x.series = omega arith in
    let one = get_or-map (λ (s : Series). s.labels) x.series k d [] here in
    let next = get_or-map (λ (s : Series). s.labels) x.series (k + 1) d [] fits in
    let less : labels_cmp (get_or x.series k d).labels (get_or x.series (k + 1) d).labels ≡ Less =
    sym (λ i. labels_cmp (one i) (next i)) ∙ c.in_order k fits in
    (ranks_by labels_total (λ (s : Series). s.labels)).one_way (get_or x.series k d)
    (get_or x.series (k + 1) d) (ap is_lt less))
