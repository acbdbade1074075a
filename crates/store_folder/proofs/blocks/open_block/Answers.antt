use Rattle.std.proofs.Common.{rules, subst}
use Rattle.store_folder.specs.Blocks.{BlockFiles, SpellBlock}
use Rattle.store_folder.proofs.blocks.open_block.Goals as goal

pub returns-clause-only : goal.returns-clause-only
returns-clause-only g c part s =
    c.open_files.ensures.only part
    (subst (λ (x : BlockFiles). SpellBlock x part) (search rules) s)
