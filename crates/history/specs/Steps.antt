-- What actors do.
use Rattle.std.specs.Prelude.{ℕ, ℤ}
use Rattle.labels.specs.Labels.{Labels}
use Rattle.matchers.specs.Views.{QueryView}
use Rattle.head.specs.Worlds.{Event}

-- what the actor of a number does: it adds a sample to its buffer, it commits its buffer, it hands
-- over an event that is no batch, or it asks
pub data Step : Type 0 where
  append : ℕ → Labels → ℤ × ℤ → Step
  commit : ℕ → Step
  change : ℕ → Event → Step
  query : ℕ → QueryView → Step
