-- What a text may be kept as.
use Rattle.std.specs.Prelude.{ℕ, List}
use Rattle.matchers.specs.Selectors.{IsAccepted, IsTextRefusal}
use Rattle.selector_cache.specs.declared.answer.Answer.{Answer}
use Rattle.selector_cache.specs.declared.answer.Answer.TheVariants.{Accepted, Refused}

-- the matchers of the text, or a refusal of it for another cause than memory
abbrev pub IsAnswerOf : List ℕ → Answer → Type 0
IsAnswerOf text (Accepted matchers) = IsAccepted text matchers.items
IsAnswerOf text (Refused error) = IsTextRefusal text error
