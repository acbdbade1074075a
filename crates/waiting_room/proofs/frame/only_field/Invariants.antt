use Rattle.std.proofs.Common.{◌≡◌, ◌++◌, map, drop}
use Rattle.httparse.specs.Spans.{header_bytes}
use Rattle.waiting_room.specs.Fields.{field_values}
use Rattle.waiting_room.proofs.Found.{found_list}
use Rattle.waiting_room.proofs.frame.only_field.Given as goal

abbrev pub invariant-loop-header : goal.invariant-loop-header
invariant-loop-header l =
    field_values l.name (map (header_bytes l.buf) l.headers)
    ≡ found_list l.found ++ field_values l.name (map (header_bytes l.buf)
    (drop l.header-index l.headers))
