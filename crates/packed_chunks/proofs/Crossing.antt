-- Threads may share packed chunks: each type that they have may be shared and moved.
use denote.Param.Send.{IsSend, IsSync, struct_send, struct_sync, sendable}
use denote.Struct.Declared.{shape}
use Rattle.std.proofs.Crossing as heap
use Rattle.packed_chunks.specs.contracts.form.Form as form
use Rattle.packed_chunks.specs.contracts.chunk.PackedChunk as chunk
use Rattle.packed_chunks.specs.contracts.chunks.Placed as placed
use Rattle.packed_chunks.specs.contracts.chunks.PackedChunks as chunks

-- a form by its eleven numbers
pub Form-send : IsSend form.the_field.row
Form-send =
    struct_send (shape form.the_type)
    (search sendable, (search sendable, (search sendable, (search sendable, (search sendable, (search sendable, (search sendable, (search sendable, (search sendable, (search sendable, (search sendable, tt)))))))))))

pub Form-sync : IsSync form.the_field.row
Form-sync =
    struct_sync (shape form.the_type)
    (search sendable, (search sendable, (search sendable, (search sendable, (search sendable, (search sendable, (search sendable, (search sendable, (search sendable, (search sendable, (search sendable, tt)))))))))))

pub PackedChunk-send : IsSend chunk.the_field.row
PackedChunk-send = search (sendable, heap.Vec-send, Form-send) depth 60 fits 20000

pub PackedChunk-sync : IsSync chunk.the_field.row
PackedChunk-sync = search (sendable, heap.Vec-sync, Form-sync) depth 60 fits 20000

pub Placed-send : IsSend placed.the_field.row
Placed-send = search (sendable, Form-send) depth 60 fits 20000

pub Placed-sync : IsSync placed.the_field.row
Placed-sync = search (sendable, Form-sync) depth 60 fits 20000

pub PackedChunks-send : IsSend chunks.the_field.row
PackedChunks-send = search (sendable, heap.Vec-send, Placed-send) depth 60 fits 20000

pub PackedChunks-sync : IsSync chunks.the_field.row
PackedChunks-sync = search (sendable, heap.Vec-sync, Placed-sync) depth 60 fits 20000
