use Rattle.block_walk.specs.IndexFile.Flat.{IsIn}
use Rattle.block_walk.specs.IndexFile.Series.{Series}
use Rattle.block_walk.proofs.IndexFile.Places.{all_here, mapped_at}
use Rattle.block_walk.proofs.IndexFile.Keeping.{row_inside, series_of_row}
use Rattle.block_walk.proofs.series_entries.SeriesEntries.chunks_at.Goals as goal

pub row_at-row-requires : goal.row_at-row-requires
row_at-row-requires c =
    row_inside c.self.inside.checked c.args.self.now c.args.i _ c.self.invariant c.self.view_is
    c.requires c.deref.ensures.value

pub chunks_in-requires : goal.chunks_in-requires
chunks_in-requires c =
    let b = c.self.inside.checked.bodies in
    let g = rw c.deref.ensures.value at c.row_at-row.ensures in
    let o =
    all_here (IsIn b.labels.items b.chunks.items) b.rows.items c.args.i _
    c.self.invariant.inside g in
    rw c.deref-2.ensures.value (o.chunks_ordered, o.chunks_inside)

pub returns : goal.returns
returns c =
    let g = rw c.deref.ensures.value at c.row_at-row.ensures in
    let s =
    series_of_row c.self.inside.checked c.args.self.now c.args.i _ c.self.invariant
    c.self.view_is c.requires g in
    rw (c.chunks_in.ensures, c.deref-2.ensures.value)
    (mapped_at (λ (x : Series). x.chunks) c.args.self.now c.args.i _ s.1)
