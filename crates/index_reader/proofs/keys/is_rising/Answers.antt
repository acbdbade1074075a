use Rattle.std.proofs.Common.{◌≡◌, rules}
use Rattle.std.proofs.lemmas.Fn.{always_returns_same}
use Rattle.index_reader.specs.Lookups.{key_before}
use Rattle.index_reader.proofs.Rising.{by_neighbours}
use Rattle.index_reader.proofs.keys.is_rising.Goals as goal

pub returns : goal.returns
returns c =
    by_neighbours key_before c.args.keys.now c.is_sorted_by.result
    (c.is_sorted_by.ensures.cases key_before (always_returns_same _
    (λ a r. r ≡ key_before a.0.now a.1.0.now) _ (λ a r q k. search rules)))
