-- The pairs that an index keeps, as texts.
use Rattle.std.specs.Prelude.{ℕ, List, [], get_or, map, slice_range}
use Rattle.index_reader.specs.declared.pairs.Pairs.{Pairs}
use Rattle.index_reader.specs.Indexes.{named}
use Rattle.index_reader.specs.Seen.{strings_of}

-- each pair as its name and its value
abbrev pub pair_texts : Pairs → List (List ℕ × List ℕ)
pair_texts p = named (strings_of p.symbols.texts.items) p.keys.pairs.items

-- the values of the pairs from a place up to another
abbrev pub values_between : Pairs → ℕ → ℕ → List (List ℕ)
values_between p a b =
    map (λ k. get_or (strings_of p.symbols.texts.items) k.1 [])
    (slice_range p.keys.pairs.items a b)
