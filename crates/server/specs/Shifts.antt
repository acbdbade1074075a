-- What all workers have done when they end.
use Rattle.std.specs.Prelude.{◌≡◌, ℕ, List}
use Rattle.std.specs.List.{All}
use Rattle.guard.specs.declared.rules.Rules.{Rules}
use Rattle.server.specs.declared.worker.Shift.{Shift}

-- how many connections a worker served
abbrev pub served_in : Shift → ℕ
served_in shift = shift.served

-- each served so many connections
abbrev pub EachServed : ℕ → List Shift → Type 0
EachServed count shifts = All (λ (shift : Shift). served_in shift ≡ count) shifts

-- each worked under these rules
abbrev pub AreUnder : Rules → List Shift → Type 0
AreUnder rules shifts = All (λ (shift : Shift). shift.rules.now ≡ rules) shifts
