-- What a crash leaves of a folder that is a log.
use Rattle.std.specs.Prelude.{◌≡◌, ◌≤◌, ℕ, List, Option, None, Some, length}
use Rattle.std.proofs.Common.{subst, arith}
use Rattle.std.proofs.lemmas.List.{take_all}
use Rattle.logged_folder.specs.declared.Entry.{Entry}
use Rattle.data_folder.specs.Folders.{Left, MayLeaveOf}
use Rattle.logged_folder.specs.Logged.{LeftSince, state_of}

pub less : (n s : ℕ) (x found : Option (List ℕ)) → n ≤ s → MayLeaveOf s x found
    → MayLeaveOf n x found
less n s None found le m = m
less n s (Some bytes) found le m = (
  m.0,
  m.1,
  record { n = m.2.n; kept = omega (arith, le, m.2.kept); front = m.2.front },
)

pub only_since : (log : List Entry) (name : List ℕ) (x : Option (List ℕ)) (n : ℕ) (left : Left)
    → (state_of name log).bytes ≡ x → n ≤ (state_of name log).synced
    → LeftSince log (length log) left → MayLeaveOf n x (left name)
only_since log name x n left shown kept had =
    subst (λ (y : Option (List ℕ)). MayLeaveOf n y (left name)) shown
    (less n (state_of name log).synced (state_of name log).bytes (left name) kept
    (subst (λ (l : List Entry).
    MayLeaveOf (state_of name l).synced (state_of name l).bytes (left name))
    (take_all had.0 log had.1) (had.3 name)))

pub since_earlier : (log : List Entry) (t u : ℕ) (left : Left) → t ≤ u → LeftSince log u left
    → LeftSince log t left
since_earlier log t u left le had = (had.0, omega (arith, le, had.1), had.2, had.3)
