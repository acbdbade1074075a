-- What a request for a page asks.
use Rattle.std.specs.Prelude.{ℕ, List, Ok, Err}
use Rattle.page_requests.specs.Meaning.{QuestionMeans}
use Rattle.requests.specs.Targets.{query_text}
use Rattle.remote_requests.specs.declared.asked.Asked.TheVariants.{Page}
use Rattle.remote_requests.specs.declared.refusal.Refusal.TheVariants.{BadPage}
use Rattle.remote_requests.specs.Writing.{Meaning}

-- the question of a query string, or why it is refused
abbrev pub PageMeans : List ℕ → Meaning → Type 0
PageMeans target (Ok (Page question)) = QuestionMeans (query_text target) (Ok question)
PageMeans target (Ok _) = ⊥
PageMeans target (Err (BadPage refusal)) = QuestionMeans (query_text target) (Err refusal)
PageMeans target (Err _) = ⊥
