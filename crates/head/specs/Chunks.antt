-- The chunks of a series.
use Rattle.std.specs.Prelude.{◌<◌, ℤ, T, List, ◌++◌, nat_eq, length, Vec}
use Rattle.std.specs.List.{list_all, flat_map}
use Rattle.std.specs.Arc.{arc_value}
use Rattle.std.specs.declared.sync.Arc.{Arc}
use Rattle.std.proofs.Common.{Global}
use Rattle.head.specs.declared.series.TheConstants.{CHUNK}
use Rattle.head.specs.Pointers.{values_in}

-- the samples of each chunk of a list that versions share
abbrev pub chunks_in : Arc (Vec (Arc (List (ℤ × ℤ)) Global) Global) Global → List (List (ℤ × ℤ))
chunks_in shared = values_in (arc_value shared).items

-- the samples of the sealed chunks, and then those of the open one
abbrev pub joined_chunks : List (List (ℤ × ℤ)) → List (ℤ × ℤ) → List (ℤ × ℤ)
joined_chunks sealed last = flat_map (λ (samples : List (ℤ × ℤ)). samples) sealed ++ last

-- each sealed chunk is full, and the open one is not
pub record OnlyLastHasRoom (sealed : List (List (ℤ × ℤ))) (last : List (ℤ × ℤ)) : Type 0 where
  pub full : T (list_all (λ samples. nat_eq (length samples) CHUNK) sealed)
  pub fewer : length last < CHUNK
