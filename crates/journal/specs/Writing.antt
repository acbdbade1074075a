-- What a write to a medium came to.
use Rattle.std.specs.Prelude.{◌≡◌, ◌++◌, ℕ, Bool, true, List}
use Rattle.journal.specs.declared.durable_write.Written.{Written}
use Rattle.journal.specs.declared.durable_write.Written.TheVariants.{Done, TakenBack, Lost}
use Rattle.journal.specs.Media.{HasAll}

-- the medium has the bytes after it, or has what it had, or nothing is known; the last two only if
-- it failed
abbrev pub ComesTo : {M : Type 0} → (M → List ℕ → Type 0) → (M → ℕ → Type 0) → (M → Bool)
    → (M → Bool) → List ℕ → List ℕ → M → Written → Type 0
ComesTo shows kept sound failed old bytes m Done = HasAll shows kept sound (old ++ bytes) m
ComesTo shows kept sound failed old bytes m TakenBack =
    HasAll shows kept sound old m × (failed m ≡ true)
ComesTo shows kept sound failed old bytes m Lost = failed m ≡ true
