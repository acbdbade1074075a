-- Threads may share a block: each type that it has may be shared, and moved where an `Arc` holds
-- it.
use denote.Param.Send.{IsSend, IsSync, sendable}
use Rattle.std.proofs.Crossing as heap
use Rattle.std.proofs.MapsCrossing as maps
use Rattle.labels.specs.contracts.text.Pairs as pairs
use Rattle.labels.specs.contracts.label_set.LabelSet as label_set
use Rattle.tombstones.specs.contracts.tombstones.Tombstones as tombstones
use Rattle.packed_chunks.proofs.form.Form.TheSendSync as form
use Rattle.packed_chunks.specs.contracts.chunks.Placed as placed
use Rattle.packed_chunks.specs.contracts.chunks.PackedChunks as chunks
use Rattle.index_reader.specs.contracts.chunk.Chunk as place
use Rattle.index_reader.specs.contracts.series.Series as series
use Rattle.index_reader.specs.contracts.lists.Lists as lists
use Rattle.index_reader.specs.contracts.symbols.Symbols as symbols
use Rattle.index_reader.specs.contracts.keys.Keys as keys
use Rattle.index_reader.specs.contracts.pairs.Pairs as index_pairs
use Rattle.index_reader.specs.contracts.index.Index as index
use Rattle.block.specs.contracts.files.Files as files
use Rattle.block.specs.contracts.blocks.Block as block

pub Pairs-send : IsSend pairs.the_field.row
Pairs-send = search (sendable, heap.Vec-send) depth 60 fits 20000

pub Pairs-sync : IsSync pairs.the_field.row
Pairs-sync = search (sendable, heap.Vec-sync) depth 60 fits 20000

pub LabelSet-send : IsSend label_set.the_field.row
LabelSet-send = search (sendable, heap.Arc-send, Pairs-send, Pairs-sync) depth 60 fits 20000

pub LabelSet-sync : IsSync label_set.the_field.row
LabelSet-sync = search (sendable, heap.Arc-sync, Pairs-send, Pairs-sync) depth 60 fits 20000

pub Tombstones-send : IsSend tombstones.the_field.row
Tombstones-send = search (sendable, heap.Vec-send) depth 60 fits 20000

pub Tombstones-sync : IsSync tombstones.the_field.row
Tombstones-sync = search (sendable, heap.Vec-sync) depth 60 fits 20000

pub Placed-send : IsSend placed.the_field.row
Placed-send = search (sendable, form.the_field_send) depth 60 fits 20000

pub Placed-sync : IsSync placed.the_field.row
Placed-sync = search (sendable, form.the_field_sync) depth 60 fits 20000

pub Chunks-send : IsSend chunks.the_field.row
Chunks-send = search (sendable, heap.Vec-send, Placed-send) depth 60 fits 20000

pub Chunks-sync : IsSync chunks.the_field.row
Chunks-sync = search (sendable, heap.Vec-sync, Placed-sync) depth 60 fits 20000

pub IndexSeries-send : IsSend series.the_field.row
IndexSeries-send = search sendable depth 60 fits 20000

pub IndexSeries-sync : IsSync series.the_field.row
IndexSeries-sync = search sendable depth 60 fits 20000

pub Place-send : IsSend place.the_field.row
Place-send = search sendable depth 60 fits 20000

pub Place-sync : IsSync place.the_field.row
Place-sync = search sendable depth 60 fits 20000

pub Lists-send : IsSend lists.the_field.row
Lists-send = search (sendable, heap.Vec-send) depth 60 fits 20000

pub Lists-sync : IsSync lists.the_field.row
Lists-sync = search (sendable, heap.Vec-sync) depth 60 fits 20000

pub Symbols-send : IsSend symbols.the_field.row
Symbols-send = search (sendable, maps.String-send, heap.Vec-send) depth 60 fits 20000

pub Symbols-sync : IsSync symbols.the_field.row
Symbols-sync = search (sendable, maps.String-sync, heap.Vec-sync) depth 60 fits 20000

pub Keys-send : IsSend keys.the_field.row
Keys-send = search (sendable, heap.Vec-send) depth 60 fits 20000

pub Keys-sync : IsSync keys.the_field.row
Keys-sync = search (sendable, heap.Vec-sync) depth 60 fits 20000

pub IndexPairs-send : IsSend index_pairs.the_field.row
IndexPairs-send = search (sendable, Symbols-send, Keys-send) depth 60 fits 20000

pub IndexPairs-sync : IsSync index_pairs.the_field.row
IndexPairs-sync = search (sendable, Symbols-sync, Keys-sync) depth 60 fits 20000

pub Index-send : IsSend index.the_field.row
Index-send =
    search
    (sendable, heap.Vec-send, IndexPairs-send, Place-send, IndexSeries-send, Lists-send)
    depth 60 fits 20000

pub Index-sync : IsSync index.the_field.row
Index-sync =
    search
    (sendable, heap.Vec-sync, IndexPairs-sync, Place-sync, IndexSeries-sync, Lists-sync)
    depth 60 fits 20000

pub Files-send : IsSend files.the_field.row
Files-send = search (sendable, heap.Vec-send, Index-send, Chunks-send) depth 60 fits 20000

pub Files-sync : IsSync files.the_field.row
Files-sync = search (sendable, heap.Vec-sync, Index-sync, Chunks-sync) depth 60 fits 20000

pub Block-send : IsSend block.the_field.row
Block-send =
    search (sendable, heap.Arc-send, Files-send, Files-sync, Tombstones-send) depth 60 fits 20000

pub Block-sync : IsSync block.the_field.row
Block-sync =
    search (sendable, heap.Arc-sync, Files-send, Files-sync, Tombstones-sync) depth 60 fits 20000
