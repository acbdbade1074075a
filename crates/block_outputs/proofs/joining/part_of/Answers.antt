use Rattle.std.proofs.Common.{List, [], ◌∷◌, sym, subst}
use Rattle.labels.specs.Rows.{Row}
use Rattle.block_outputs.specs.Joined.{IsJoined}
use Rattle.block_outputs.proofs.Lists.{alone, part_of_rows}
use Rattle.block_outputs.proofs.joining.part_of.Goals as goal

pub returns-in-Some : goal.returns-in-Some
returns-in-Some c =
    let rows = c.args.rows.items in
    let p = part_of_rows rows c.in-Some.part (sym c.in-Some.ensures) in
    subst (λ (rs : List Row). IsJoined (rows ∷ []) rs) p.1 (alone rows p.0)
