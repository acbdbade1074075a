use Rattle.std.proofs.Common.{◌<◌, ◌^◌, arith}
use Rattle.block_walk.specs.declared.entries.Entry.{Entry}
use Rattle.block_walk.specs.IndexFile.Series.{Series}
use Rattle.block_walk.proofs.IndexFile.Places.{all_here, mapped_at}
use Rattle.block_walk.proofs.IndexFile.Keeping.{entry_inside, series_of_entry}
use Rattle.block_walk.proofs.series_entries.SeriesEntries.reference_at.Goals as goal

pub entry_in-entry-requires : goal.entry_in-entry-requires
entry_in-entry-requires c =
    entry_inside c.self.inside.checked c.args.self.now c.args.i _ c.self.invariant c.self.view_is
    c.requires c.deref.ensures.value

pub overflow_cast-entry : goal.overflow_cast-entry
overflow_cast-entry c =
    let g = rw c.deref.ensures.value at c.entry_in-entry.ensures.value in
    let small =
    all_here (λ (e : Entry). e.offset < 2 ^ 32) c.self.inside.checked.layout.entries.items c.args.i
    _ c.self.invariant.small g in
    omega (arith, small)

pub returns : goal.returns
returns c =
    let g = rw c.deref.ensures.value at c.entry_in-entry.ensures.seen in
    let s =
    series_of_entry c.self.inside.checked c.args.self.now c.args.i _ c.self.invariant
    c.self.view_is c.requires g in
    rw c.new.ensures (mapped_at (λ (x : Series). x.reference) c.args.self.now c.args.i _ s.1)
