-- A keeper that is not idle.
use Rattle.std.specs.Prelude.{◌≡◌, true, false}

pub not_idle : {A : Type 0} → false ≡ true → A
not_idle e = absurd cc
