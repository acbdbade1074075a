use Rattle.std.proofs.Common.{◌≡◌, ◌++◌, drop}
use Rattle.answers.specs.Body.{natural}
use Rattle.answers.specs.AfterCommas.{after_commas}
use Rattle.answers.proofs.parts.append_references_after_commas.Given as goal

abbrev pub invariant-loop-reference : goal.invariant-loop-reference
invariant-loop-reference l =
    l.out.items ++ after_commas natural (drop l.reference-index l.references)
    ≡ l.fn.out.items ++ after_commas natural l.references
