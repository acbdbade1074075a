-- Where a request comes from.
use Rattle.std.specs.Prelude.{ℕ, Bool, true, false, not, List, [], ◌∷◌, codes}
use Rattle.std.specs.Prelude.{Option, None, Some, ◌&&◌, ◌||◌, ◌==◌}
use Rattle.std.specs.Borrow.{Bor}
use Rattle.std.specs.List.{list_all}
use Rattle.std.specs.Char.{is_ascii_digit}
use Rattle.guard.specs.declared.claims.Claims.{Claims}
use Rattle.guard.specs.Tokens.{rest_after}

-- nothing, or a colon and digits
abbrev pub ends_as_port : List ℕ → Bool
ends_as_port [] = true
ends_as_port (first ∷ digits) = first == 58 && list_all is_ascii_digit digits

-- whether there is a text, and it is that of a port
abbrev pub is_port : Option (List ℕ) → Bool
is_port None = false
is_port (Some text) = ends_as_port text

-- whether the value of `Host` is this name, with a port or without
abbrev pub is_host : List ℕ → List ℕ → Bool
is_host name host = is_port (rest_after name host)

-- whether the value of `Host` names this machine
abbrev pub is_own_host : List ℕ → Bool
is_own_host host =
    is_host (codes "127.0.0.1") host || is_host (codes "localhost") host
    || is_host (codes "[::1]") host

-- the value of a field, if there is one
abbrev pub bytes_of : Option (Bor (List ℕ)) → Option (List ℕ)
bytes_of None = None
bytes_of (Some value) = Some value.now

-- claims as values, wherever they lie
pub record Claimed : Type 0 where
  pub changes : Bool
  pub has_origin : Bool
  pub host : Option (List ℕ)
  pub authorization : Option (List ℕ)

abbrev pub claimed : Claims → Claimed
claimed claims = record {
  changes = claims.changes;
  has_origin = claims.has_origin;
  host = bytes_of claims.host;
  authorization = bytes_of claims.authorization;
}

abbrev pub is_own : Option (List ℕ) → Bool
is_own None = false
is_own (Some host) = is_own_host host

-- whether a request comes from no page, and names this machine
abbrev pub is_local : Claimed → Bool
is_local claims = not claims.has_origin && is_own claims.host
