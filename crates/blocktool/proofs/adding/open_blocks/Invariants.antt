use Rattle.std.proofs.Common.{List, None, Option, drop, ◌++◌}
use Rattle.block.specs.Blocks.{Shown}
use Rattle.block_folder.specs.declared.values.Values.{Values}
use Rattle.blocktool.specs.Opening.{AreAdded, names_in}
use Rattle.blocktool.proofs.adding.open_blocks.Given as goal

-- with the blocks that the directories that remain add, all of them are there
abbrev pub invariant-loop-directory : goal.invariant-loop-directory
invariant-loop-directory g l =
    (rest : List Shown) (end : Option Values)
    → AreAdded g.B.OpensOwn.may_open l.own (names_in (drop l.directory-index l.directories)) l.digits
    l.values rest end
    → AreAdded g.B.OpensOwn.may_open l.own (names_in l.directories) None None
    (l.blocks.items ++ rest) end
