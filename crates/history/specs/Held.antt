-- What buffers hold.
use Rattle.std.specs.Prelude.{[], unwrap_or}
use Rattle.std.specs.Ordering.{nat_cmp}
use Rattle.std.specs.BTreeMap.{get}
use Rattle.history.specs.declared.buffers.Held.{Held}
use Rattle.history.specs.Machine.{Buffers}

-- the buffer of each actor
abbrev pub buffers_of : Held → Buffers
buffers_of held actor = unwrap_or (get nat_cmp held.buffers actor) []
