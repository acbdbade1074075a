use Rattle.std.proofs.Common.{◌≡◌, refl, sym, ap, ◌∙◌, Some}
use Rattle.std.specs.Prelude.{slice_get, slice_range}
use Rattle.labels.specs.Labels.{Labels}
use Rattle.labels.specs.Pairs.{texts_of}
use Rattle.labels.specs.LabelSets.{IsLabelSet}
use Rattle.block_walk.specs.declared.bodies.Span.{Span}
use Rattle.block_walk.specs.IndexFile.Seen.{texts}
use Rattle.block_walk.specs.IndexFile.Flat.{IsIn}
use Rattle.block_walk.specs.IndexFile.Series.{Series, label_sets, named}
use Rattle.block_walk.specs.IndexFile.Kept.{AreInTable}
use Rattle.block_walk.proofs.IndexFile.Places.{all_here, mapped_at, if_ok}
use Rattle.block_walk.proofs.IndexFile.Keeping.{row_inside, series_of_row}
use Rattle.block_walk.proofs.series_entries.SeriesEntries.labels_at.Goals as goal

pub row_at-row-requires : goal.row_at-row-requires
row_at-row-requires c =
    row_inside c.self.inside.checked c.args.self.now c.args.i _ c.self.invariant c.self.view_is
    c.requires c.deref.ensures.value

pub labels_in-labels-requires : goal.labels_in-labels-requires
labels_in-labels-requires c =
    let b = c.self.inside.checked.bodies in
    let g = rw c.deref.ensures.value at c.row_at-row.ensures in
    let o =
    all_here (IsIn b.labels.items b.chunks.items) b.rows.items c.args.i _
    c.self.invariant.inside g in
    rw c.deref-2.ensures.value (o.labels_ordered, o.labels_inside)

pub pairs_of-requires : goal.pairs_of-requires
pairs_of-requires c =
    let x = c.self.inside.checked in
    let g = rw c.deref.ensures.value at c.row_at-row.ensures in
    let o =
    all_here (λ (r : Span). AreInTable (texts x.layout.symbols.items)
    (slice_range x.bodies.labels.items r.labels_start r.labels_end)) x.bodies.rows.items c.args.i _
    c.self.invariant.in_table g in
    rw (c.deref-3.ensures.value, c.labels_in-labels.ensures, c.deref-2.ensures.value) o

pub of_sorted_texts-requires : goal.of_sorted_texts-requires
of_sorted_texts-requires c =
    let x = c.self.inside.checked in
    let g = rw c.deref.ensures.value at c.row_at-row.ensures in
    let o =
    all_here (λ (r : Span). IsLabelSet (named (texts x.layout.symbols.items)
    (slice_range x.bodies.labels.items r.labels_start r.labels_end))) x.bodies.rows.items c.args.i _
    c.self.invariant.labelled g in
    rw (
      c.deref-4.ensures.value,
      c.in_ok-pairs.ensures,
      c.deref-3.ensures.value,
      c.labels_in-labels.ensures,
      c.deref-2.ensures.value,
    ) o

pub returns : goal.returns
returns c =
    let x = c.self.inside.checked in
    let g = rw c.deref.ensures.value at c.row_at-row.ensures in
    let r = c.row_at-row.result in
    let s =
    series_of_row x c.args.self.now c.args.i _ c.self.invariant c.self.view_is c.requires g in
    let here = mapped_at (λ (y : Series). y.labels) c.args.self.now c.args.i _ s.1 in
    let e : texts_of c.deref-4.result.now ≡ named (texts x.layout.symbols.items)
    (slice_range x.bodies.labels.items r.labels_start r.labels_end) = rw (
      c.deref-4.ensures.value,
      c.in_ok-pairs.ensures,
      c.deref-3.ensures.value,
      c.labels_in-labels.ensures,
      c.deref-2.ensures.value,
    ) refl in
    if_ok (λ (l : Labels). l ≡ texts_of c.deref-4.result.now)
    (λ (l : Labels). slice_get (label_sets c.args.self.now) c.args.i ≡ Some l)
    c.of_sorted_texts.result (λ l h. here ∙ ap (λ (y : Labels). Some y) (sym (h ∙ e)))
    c.of_sorted_texts.ensures
