use Rattle.std.proofs.Common.{◌≡◌, ℕ, ◌<◌, ◌++◌, [], drop, get_or, length}
use Rattle.std.specs.Prelude.{map}
use Rattle.labels.specs.Pairs.{texts_of}
use Rattle.block_writer.specs.IndexText.{carriers}
use Rattle.block_writer.proofs.carriers.lists_of.Given as goal

abbrev pub invariant-loop-i : goal.invariant-loop-i
invariant-loop-i l =
    (length l.lists.items ≡ length l.pairs)
    × ((k : ℕ) → k < length (texts_of l.pairs)
    → get_or (map (λ x. x.items) l.lists.items) k [] ++ carriers (get_or (texts_of l.pairs) k (
      [],
      [],
    )).0 (get_or (texts_of l.pairs) k ([], [])).1 (drop l.i l.rows) (drop l.i l.references)
    ≡ carriers (get_or (texts_of l.pairs) k ([], [])).0 (get_or (texts_of l.pairs) k ([], [])).1
    l.rows l.references)
