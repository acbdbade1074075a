use Rattle.std.proofs.Common.{◌≡◌, ℕ, ◌<◌, ◌++◌, [], drop, get_or, length}
use Rattle.std.specs.Prelude.{map}
use Rattle.labels.specs.Pairs.{texts_of}
use Rattle.block_writer.proofs.Giving.{hits}
use Rattle.block_writer.proofs.carriers.put_row.Given as goal

abbrev pub invariant-loop-i : goal.invariant-loop-i
invariant-loop-i l =
    (length l.lists.items ≡ length l.initial.lists.items)
    × ((k : ℕ) → k < length (texts_of l.pairs) → get_or (map (λ x. x.items) l.lists.items) k []
    ++ hits (get_or (texts_of l.pairs) k ([], [])) (drop l.i l.labels) l.reference
    ≡ get_or (map (λ x. x.items) l.initial.lists.items) k []
    ++ hits (get_or (texts_of l.pairs) k ([], [])) l.labels l.reference)
