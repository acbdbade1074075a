use Rattle.std.proofs.Common.{◌≡◌, map, drop}
use Rattle.httparse.specs.Spans.{header_bytes}
use Rattle.waiting_room.specs.Fields.{has_field}
use Rattle.waiting_room.proofs.frame.has_field.Given as goal

abbrev pub invariant-loop-header : goal.invariant-loop-header
invariant-loop-header l =
    has_field l.name (map (header_bytes l.buf) l.headers)
    ≡ has_field l.name (map (header_bytes l.buf) (drop l.header-index l.headers))
