use Rattle.std.proofs.Common.{◌≡◌, ◌++◌, drop}
use Rattle.page_claims.specs.Judging.{names_in}
use Rattle.page_claims.proofs.judged.names_of.Given as goal

abbrev pub invariant-loop-place : goal.invariant-loop-place
invariant-loop-place l =
    l.names.items ++ names_in (drop l.place-index l.told.places.items) l.answers
    ≡ names_in l.told.places.items l.told.answers.items
