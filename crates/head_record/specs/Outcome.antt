-- What a call answered, against what reading gives.
use Rattle.std.specs.Prelude.{◌≡◌, ◌++◌, ℕ, Bool, List, drop, length, Result, Ok, Err}
use Rattle.event_text.specs.declared.error.TextError.TheVariants.{Memory}
use Rattle.event_text.specs.Outcome as text
use Rattle.wire.specs.Outcome as outcome
use Rattle.head_record.specs.declared.error.RefusedHead.{RefusedHead}
use Rattle.head_record.specs.Saved.{Saved}
use Rattle.head_record.specs.Spelling.{head_texts, IsSaved}

-- whether a refusal says nothing of the contents
abbrev pub is_memory : RefusedHead → Bool
is_memory refused = text.is_memory refused.error

-- what a function returned, seen by view, is what reading gives, unless memory ran out
abbrev pub Gives : {X Y : Type 0} → (X → Y) → Result X RefusedHead → Result Y RefusedHead → Type 0
Gives view result read = outcome.Gives is_memory view result read

-- the contents begin with what is saved, in so many of them
pub record Begins (contents : List (List ℕ)) (saved : Saved) (count : ℕ) : Type 0 where
  pub front : contents ≡ head_texts saved ++ drop count contents
  pub all : count ≡ length (head_texts saved)
  pub fits : IsSaved saved

-- the answer is what is saved, or memory ran out
abbrev pub GivesSaved : Saved → Result (Saved × ℕ) RefusedHead → Type 0
GivesSaved saved (Ok found) = found ≡ (saved, length (head_texts saved))
GivesSaved saved (Err refused) = refused.error ≡ Memory
