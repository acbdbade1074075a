use Rattle.std.proofs.Common.{drop}
use Rattle.blocktool.specs.Opening.{AreTaken, Taken, names_in, nothing_taken, taken_in}
use Rattle.blocktool.proofs.rewrite.open_all.Given as goal

-- what the directories that remain add to what was taken, all of them make
abbrev pub invariant-loop-directory : goal.invariant-loop-directory
invariant-loop-directory g l =
    (end : Taken)
    → AreTaken g.B.OpensOwn.may_open l.own l.asked (names_in (drop l.directory-index l.directories))
    (taken_in l.inputs) end
    → AreTaken g.B.OpensOwn.may_open l.own l.asked (names_in l.directories) nothing_taken end
