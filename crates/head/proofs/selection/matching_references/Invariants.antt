use Rattle.std.proofs.Common.{◌≡◌, ◌+◌, take}
use Rattle.labels.specs.Parts.{references_where}
use Rattle.matchers.specs.Satisfies.{satisfies_all}
use Rattle.head.proofs.selection.matching_references.Given as goal

abbrev pub invariant-loop-matcher : goal.invariant-loop-matcher
invariant-loop-matcher g l =
    l.found.items
    ≡ references_where (satisfies_all (take (l.matcher-index + 2) l.matchers))
    (g.S.Source.part l.source)
