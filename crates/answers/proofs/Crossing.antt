-- Threads may share rows.
use denote.Param.Send.{IsSync, sendable}
use Rattle.std.proofs.Crossing as heap
use Rattle.block.proofs.Crossing.{LabelSet-sync}
use Rattle.labels.specs.contracts.row.Row as row

pub Row-sync : IsSync row.the_field.row
Row-sync = search (sendable, heap.Vec-sync, LabelSet-sync) depth 60 fits 20000
