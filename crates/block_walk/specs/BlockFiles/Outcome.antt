-- What a call answered about deletions, against what reading gives.
use Rattle.std.specs.Prelude.{List, Result}
use Rattle.wire.specs.Outcome as outcome
use Rattle.tombstones.specs.declared.deletion.Deletion.{Deletion}
use Rattle.block_walk.specs.declared.error.WalkError.{WalkError}
use Rattle.block_walk.specs.IndexFile.Outcome.{is_memory}

-- what was returned holds the deletions that reading gives, in an order of its own
abbrev pub GivesAll : Result (List Deletion) WalkError → Result (List Deletion) WalkError → Type 0
GivesAll result read = outcome.GivesAll is_memory result read
