-- What a reply says of the machine's step.
use Rattle.std.specs.Prelude.{◌≡◌, ◌≢◌, Option, None, Some, Result, Ok, Err}
use Rattle.labels.specs.Contents.{Content}
use Rattle.labels.specs.Rows.{AreRows}
use Rattle.head.specs.declared.error.CommitError.{CommitError}
use Rattle.head.specs.declared.error.CommitError.TheVariants.{Memory}
use Rattle.head.specs.Heads.{SnapshotParts, world_of}
use Rattle.head.specs.Outcomes.{IsStepRefusal}
use Rattle.head.specs.Refusals.{Refusal}
use Rattle.head.specs.Worlds.{World}
use Rattle.history.specs.declared.reply.Reply.{Reply}
use Rattle.history.specs.declared.reply.Reply.TheVariants.{Done, NotAppended, Refused, Rows}
use Rattle.history.specs.declared.buffers.Held.{Held}
use Rattle.history.specs.Held.{buffers_of}
use Rattle.history.specs.Steps.{Step}
use Rattle.history.specs.Machine.{Machine, machine_step, Outcome, done, not_appended, refused}
use Rattle.history.specs.Machine.{found}

-- the error tells the step's refusal; it is never that memory ran out
pub record TellsRefusal (error : CommitError) (refusal : Refusal) : Type 0 where
  pub step : IsStepRefusal {W = World} error (Err refusal)
  pub not_memory : error ≢ Memory

-- the reply tells what the step came to: the step's own refusal, or the rows of what was found
abbrev pub TellsOutcome : Outcome → Reply → Type 0
TellsOutcome outcome Done = outcome ≡ done
TellsOutcome outcome (NotAppended error) = outcome ≡ not_appended error
TellsOutcome outcome (Refused error) =
    (refusal : Refusal) × (outcome ≡ refused refusal) × TellsRefusal error refusal
TellsOutcome outcome (Rows rows) =
    (content : Content) × (outcome ≡ found content) × AreRows rows.items content

-- the step's outcome is what was made, or its refusal
abbrev pub IsSettled : Result World Refusal → Result SnapshotParts CommitError → Type 0
IsSettled step (Ok s) = step ≡ Ok (world_of s)
IsSettled step (Err error) = (refusal : Refusal) × (step ≡ Err refusal) × TellsRefusal error refusal

-- the reply is the step's, and new is the machine after it
pub record IsStep (old : Machine) (step : Step) (reply : Reply) (new : Machine) : Type 0 where
  pub answer : TellsOutcome (machine_step old step).0 reply
  pub after : (machine_step old step).1 ≡ new

-- the world of the snapshot that an event made, or of the one before it
abbrev pub world_after : SnapshotParts → Option SnapshotParts → World
world_after at None = world_of at
world_after at (Some next) = world_of next

-- a world, and what buffers hold
abbrev pub machine_at : World → Held → Machine
machine_at w held = record { world = w; buffers = buffers_of held }
