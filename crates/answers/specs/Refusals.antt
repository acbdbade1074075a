-- The numbers of refusals, and their texts.
use Rattle.std.specs.Prelude.{ℕ, List, codes}
use Rattle.snapshots.specs.Refusals.{snapshot_code, snapshot_text}
use Rattle.answers.specs.declared.error.AskError.{AskError}
use Rattle.answers.specs.declared.error.AskError.TheVariants.{Snapshot, Memory}

abbrev pub ask_code : AskError → List ℕ
ask_code (Snapshot error) = snapshot_code error
ask_code Memory = codes "memory"

abbrev pub ask_text : AskError → List ℕ
ask_text (Snapshot error) = snapshot_text error
ask_text Memory = codes "no memory"
