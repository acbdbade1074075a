use Rattle.std.proofs.Common.{◌≡◌, ◌++◌, drop}
use Rattle.std.specs.List.{flat_map}
use Rattle.byteorder.specs.Endian.{big_bytes}
use Rattle.block_writer.proofs.sections.put_references.Given as goal

abbrev pub invariant-loop-reference : goal.invariant-loop-reference
invariant-loop-reference l =
    l.out.items ++ flat_map (big_bytes 4) (drop l.reference-index l.references)
    ≡ l.initial.out.items ++ flat_map (big_bytes 4) l.references
