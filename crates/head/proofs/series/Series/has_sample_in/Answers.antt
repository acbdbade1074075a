use Rattle.std.proofs.Common.{◌≡◌, length, sym, ap, subst, ◌∙◌, arith, rules, to_z, of_z, w64}
use Rattle.std.specs.Prelude.{T}
use Rattle.std.specs.Arc.{arc_value}
use Rattle.std.specs.Ordering.{int_cmp}
use Rattle.std.specs.FinMap.Entries.{is_sorted}
use Rattle.std.specs.List.{list_all}
use Rattle.std.specs.Prelude.{nat_eq}
use Rattle.std.proofs.lemmas.List.Sorted.{IsPartitionPoint-from_clause}
use Rattle.labels.specs.Parts.{has_sample}
use Rattle.head.specs.Heads.{HeadSeries}
use Rattle.head.specs.ChunkEnds.{ends_before}
use Rattle.head.specs.Chunks.{joined_chunks}
use Rattle.head.proofs.ChunkSearch.{Samples, parted_each, sorted_here, decides_here, decides_last, sorted_last, sampled_times}
use Rattle.head.proofs.series.Series.has_sample_in.Goals as goal

pub has_sample_in-requires : goal.has_sample_in-requires
has_sample_in-requires c =
    let sorted = subst (λ (h : HeadSeries). T (is_sorted int_cmp h.samples)) (sym c.self.view_is) c.requires in
    let xs = c.chunks-chunks.result.now in
    let last = c.self.inside.tail.items in
    sorted_here (λ x. arc_value x) xs last c.partition_point-place.result c.index-chunks-place.result c.deref.result.now
    (subst (λ ys. T (is_sorted int_cmp (joined_chunks ys last))) (sym c.chunks-chunks.ensures) sorted)
    c.if-place-chunks.true c.index-chunks-place.is c.deref.ensures

pub has_sample_in-requires-2 : goal.has_sample_in-requires-2
has_sample_in-requires-2 c =
    let sorted = subst (λ (h : HeadSeries). T (is_sorted int_cmp h.samples)) (sym c.self.view_is) c.requires in
    subst (λ (ys : Samples). T (is_sorted int_cmp ys)) (sym c.as_slice.ensures.value)
    (sorted_last c.self.inside.sealed c.self.inside.tail.items sorted)

pub returns-then-place-chunks : goal.returns-then-place-chunks
returns-then-place-chunks c =
    let sorted = subst (λ (h : HeadSeries). T (is_sorted int_cmp h.samples)) (sym c.self.view_is) c.requires in
    let xs = c.chunks-chunks.result.now in
    let last = c.self.inside.tail.items in
    let here = subst (λ ys. T (is_sorted int_cmp (joined_chunks ys last))) (sym c.chunks-chunks.ensures) sorted in
    let full = subst (λ ys. T (list_all (λ (samples : Samples). nat_eq (length samples) 120) ys)) (sym c.chunks-chunks.ensures) c.self.invariant.full in
    let point = IsPartitionPoint-from_clause (λ x. ends_before c.args.from (arc_value x)) xs c.partition_point-place.result c.partition_point-place.ensures.partitioned (parted_each (λ x. arc_value x) xs last c.args.from here full) (λ a r f' k. search rules) in
    let x : to_z w64 (of_z w64 c.args.from) ≡ c.args.from = search rules in
    let y : to_z w64 (of_z w64 c.args.to) ≡ c.args.to = search rules in
    sampled_times c.args.from (to_z w64 (of_z w64 c.args.from)) c.args.to (to_z w64 (of_z w64 c.args.to)) c.deref.result.now c.has_sample_in.result x y c.has_sample_in.ensures
    ∙ decides_here (λ x. arc_value x) xs last c.args.from c.args.to c.partition_point-place.result c.index-chunks-place.result c.deref.result.now here c.if-place-chunks.true c.index-chunks-place.is c.deref.ensures point
    ∙ ap (λ ys. has_sample c.args.from c.args.to (joined_chunks ys last)) c.chunks-chunks.ensures
    ∙ ap (λ (h : HeadSeries). has_sample c.args.from c.args.to h.samples) c.self.view_is

pub returns : goal.returns
returns c =
    let sorted = subst (λ (h : HeadSeries). T (is_sorted int_cmp h.samples)) (sym c.self.view_is) c.requires in
    let xs = c.chunks-chunks.result.now in
    let last = c.self.inside.tail.items in
    let here = subst (λ ys. T (is_sorted int_cmp (joined_chunks ys last))) (sym c.chunks-chunks.ensures) sorted in
    let full = subst (λ ys. T (list_all (λ (samples : Samples). nat_eq (length samples) 120) ys)) (sym c.chunks-chunks.ensures) c.self.invariant.full in
    let point = IsPartitionPoint-from_clause (λ x. ends_before c.args.from (arc_value x)) xs c.partition_point-place.result c.partition_point-place.ensures.partitioned (parted_each (λ x. arc_value x) xs last c.args.from here full) (λ a r f' k. search rules) in
    let x : to_z w64 (of_z w64 c.args.from) ≡ c.args.from = search rules in
    let y : to_z w64 (of_z w64 c.args.to) ≡ c.args.to = search rules in
    sampled_times c.args.from (to_z w64 (of_z w64 c.args.from)) c.args.to (to_z w64 (of_z w64 c.args.to)) c.as_slice.result.now c.has_sample_in-2.result x y c.has_sample_in-2.ensures
    ∙ ap (has_sample c.args.from c.args.to) c.as_slice.ensures.value
    ∙ decides_last (λ x. arc_value x) xs last c.args.from c.args.to c.partition_point-place.result here (omega (arith, c.if-place-chunks.false)) point
    ∙ ap (λ ys. has_sample c.args.from c.args.to (joined_chunks ys last)) c.chunks-chunks.ensures
    ∙ ap (λ (h : HeadSeries). has_sample c.args.from c.args.to h.samples) c.self.view_is
