-- What a step shows.
use Rattle.std.specs.Prelude.{ℕ}
use Rattle.history.specs.declared.step.Action.{Action}
use Rattle.history.specs.declared.step.Action.TheVariants.{Append, Commit, Change, Query}
use Rattle.history.specs.Steps.{Step, append, commit, change, query}

abbrev pub step_of : ℕ → Action → Step
step_of actor (Append labels sample) = append actor labels sample
step_of actor Commit = commit actor
step_of actor (Change event) = change actor event
step_of actor (Query q) = query actor q
