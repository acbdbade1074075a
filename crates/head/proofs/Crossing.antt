-- Threads may share a snapshot: each type that it has may be shared, and moved where an `Arc` holds it.
use denote.Param.Send.{IsSend, IsSync, sendable}
use Rattle.std.proofs.Crossing as heap
use Rattle.block.proofs.Crossing.{LabelSet-send, LabelSet-sync, Block-send, Block-sync}
use Rattle.head.specs.contracts.series.Chunk as chunk
use Rattle.head.specs.contracts.series.Sealed as sealed
use Rattle.head.specs.contracts.series.Series as series
use Rattle.head.specs.contracts.references.Held as held
use Rattle.head.specs.contracts.references.References as references
use Rattle.head.specs.contracts.listed.Listed as listed
use Rattle.head.specs.contracts.index.Index as index
use Rattle.packed_chunks.proofs.Crossing.{PackedChunk-send, PackedChunk-sync}
use Rattle.pages.proofs.Crossing.{PagedList-send, PagedList-sync, SortedPages-send, SortedPages-sync}
use Rattle.head.specs.contracts.order.Placed as placed
use Rattle.head.specs.contracts.order.Order as order
use Rattle.head.specs.contracts.head.HeadView as head
use Rattle.head.specs.contracts.snapshot.Snapshot as snapshot

pub Chunk-send : IsSend chunk.the_field.row
Chunk-send = search (sendable, PackedChunk-send) depth 60 fits 20000

pub Chunk-sync : IsSync chunk.the_field.row
Chunk-sync = search (sendable, PackedChunk-sync) depth 60 fits 20000

pub Sealed-send : IsSend sealed.the_field.row
Sealed-send = search (sendable, heap.Vec-send, heap.Vec-sync, heap.Arc-send, heap.Arc-sync, Chunk-send, Chunk-sync) depth 60 fits 20000

pub Sealed-sync : IsSync sealed.the_field.row
Sealed-sync = search (sendable, heap.Vec-send, heap.Vec-sync, heap.Arc-send, heap.Arc-sync, Chunk-send, Chunk-sync) depth 60 fits 20000

pub Series-send : IsSend series.the_field.row
Series-send = search (sendable, heap.Vec-send, LabelSet-send, Sealed-send) depth 60 fits 20000

pub Series-sync : IsSync series.the_field.row
Series-sync = search (sendable, heap.crosses, LabelSet-sync, Sealed-send, Sealed-sync) depth 60 fits 20000

pub Held-send : IsSend held.the_field.row
Held-send = search (sendable, heap.Vec-send, PagedList-send) depth 60 fits 20000

pub Held-sync : IsSync held.the_field.row
Held-sync = search (sendable, heap.Vec-sync, PagedList-sync) depth 60 fits 20000

pub References-send : IsSend references.the_field.row
References-send = search (sendable, Held-send) depth 60 fits 20000

pub References-sync : IsSync references.the_field.row
References-sync = search (sendable, Held-sync) depth 60 fits 20000

pub Listed-send : IsSend listed.the_field.row
Listed-send = search (sendable, LabelSet-send, References-send) depth 60 fits 20000

pub Listed-sync : IsSync listed.the_field.row
Listed-sync = search (sendable, LabelSet-sync, References-sync) depth 60 fits 20000

pub Index-send : IsSend index.the_field.row
Index-send = search (sendable, SortedPages-send, heap.Arc-send, heap.Arc-sync, Listed-send, Listed-sync) depth 60 fits 20000

pub Index-sync : IsSync index.the_field.row
Index-sync = search (sendable, SortedPages-sync, heap.Arc-send, heap.Arc-sync, Listed-send, Listed-sync) depth 60 fits 20000

pub Placed-send : IsSend placed.the_field.row
Placed-send = search (sendable, LabelSet-send) depth 60 fits 20000

pub Placed-sync : IsSync placed.the_field.row
Placed-sync = search (sendable, LabelSet-sync) depth 60 fits 20000

pub Order-send : IsSend order.the_field.row
Order-send = search (sendable, SortedPages-send, Placed-send, Placed-sync) depth 60 fits 20000

pub Order-sync : IsSync order.the_field.row
Order-sync = search (sendable, SortedPages-sync, Placed-send, Placed-sync) depth 60 fits 20000

pub HeadView-send : IsSend head.the_field.row
HeadView-send = search (sendable, PagedList-send, heap.Arc-send, heap.Arc-sync, Series-send, Series-sync, Order-send, Index-send) depth 60 fits 20000

pub HeadView-sync : IsSync head.the_field.row
HeadView-sync = search (sendable, PagedList-sync, heap.Arc-send, heap.Arc-sync, Series-send, Series-sync, Order-sync, Index-sync) depth 60 fits 20000

pub Snapshot-send : IsSend snapshot.the_field.row
Snapshot-send = search (sendable, heap.Vec-send, heap.Vec-sync, heap.Arc-send, Block-send, Block-sync, HeadView-send) depth 60 fits 20000

pub Snapshot-sync : IsSync snapshot.the_field.row
Snapshot-sync = search (sendable, heap.Vec-send, heap.Vec-sync, heap.Arc-sync, Block-send, Block-sync, HeadView-sync) depth 60 fits 20000
