-- The machine of which every interleaving is a list of steps: a world that all actors share, and a
-- buffer for each.
use Rattle.std.specs.Prelude.{ℕ, ℤ, List, [], ◌∷◌, ◌++◌, Result, Ok, Err, nat_eq, nat_le, length}
use Rattle.std.specs.Prelude.{if◌then◌else◌}
use Rattle.labels.specs.Labels.{Labels}
use Rattle.labels.specs.Contents.{Content, is_time}
use Rattle.matchers.specs.Queries.{selected_by}
use Rattle.head.specs.declared.error.AppendError.{AppendError}
use Rattle.head.specs.declared.error.AppendError.TheVariants.{Full, TimeRange}
use Rattle.head.specs.Refusals.{Refusal}
use Rattle.head.specs.Worlds.{World, Batch, batch, stepped}
use Rattle.history.specs.Steps.{Step, append, commit, change, query}

-- what each actor has added and not yet committed
abbrev pub Buffers : Type 0
Buffers = ℕ → Batch

-- the buffers, with this one for the actor
abbrev pub with_buffer : ℕ → Batch → Buffers → Buffers
with_buffer actor samples buffers n = if nat_eq actor n then samples else buffers n

pub record Machine : Type 0 where
  pub world : World
  pub buffers : Buffers

-- a world, and nothing in any buffer
abbrev pub started : World → Machine
started w = record { world = w; buffers = λ _. [] }

-- what a step comes to: it is done, or its sample is not taken, or its event is refused, or it
-- finds a content
pub data Outcome : Type 0 where
  done : Outcome
  not_appended : AppendError → Outcome
  refused : Refusal → Outcome
  found : Content → Outcome

-- a sample joins the actor's buffer, which has at most 4,096 of them, all at times
abbrev pub appended : Machine → ℕ → Labels → ℤ × ℤ → Outcome × Machine
appended m actor l s =
    if nat_le 4096 (length (m.buffers actor)) then (not_appended Full, m)
    else if is_time s.0
    then (done, record m { buffers = with_buffer actor (m.buffers actor ++ (l, s) ∷ []) m.buffers })
    else (not_appended TimeRange, m)

-- the world after an event, and these buffers; or the machine as it was, where the event is refused
abbrev pub settled : Machine → Buffers → Result World Refusal → Outcome × Machine
settled m buffers (Ok w) = (done, record { world = w; buffers = buffers })
settled m buffers (Err e) = (refused e, m)

-- what a step comes to, and the machine after it
abbrev pub machine_step : Machine → Step → Outcome × Machine
machine_step m (append actor l s) = appended m actor l s
machine_step m (commit actor) =
    settled m (with_buffer actor [] m.buffers) (stepped m.world (batch (m.buffers actor)))
machine_step m (change actor event) = settled m m.buffers (stepped m.world event)
machine_step m (query actor q) = (found (selected_by q m.world.content), m)

-- what each step comes to
abbrev pub machine_replies : Machine → List Step → List Outcome
machine_replies m [] = []
machine_replies m (s ∷ steps) = (machine_step m s).0 ∷ machine_replies (machine_step m s).1 steps
