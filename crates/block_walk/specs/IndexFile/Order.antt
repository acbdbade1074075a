-- Names and values by the numbers of their symbols, in order.
use Rattle.std.specs.Ordering.{nat_cmp, ordering_then}
use Rattle.std.specs.declared.cmp.Ordering.{Ordering}
use Rattle.block_walk.specs.IndexFile.Layout.{Label}

-- a name and a value by their symbols
abbrev pub key_cmp : Label → Label → Ordering
key_cmp a b = ordering_then (nat_cmp a.0 b.0) (nat_cmp a.1 b.1)
