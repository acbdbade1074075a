-- Which requests may reach a store.
use Rattle.std.specs.Prelude.{◌≡◌, ℕ, Bool, true, false, not, List, Option, None, Some, ◌&&◌}
use Rattle.std.specs.Prelude.{is_some}
use Rattle.std.specs.Prelude.{Result, Ok, Err, if◌then◌else◌}
use Rattle.guard.specs.declared.rules.Denial.{Denial}
use Rattle.guard.specs.declared.rules.Denial.TheVariants.{ReadOnly, Guarded}
use Rattle.guard.specs.declared.rules.Rules.{Rules}
use Rattle.guard.specs.declared.token.Token.{Token}
use Rattle.guard.specs.Hosts.{Claimed, is_local}
use Rattle.guard.specs.Tokens.{bears}

-- whether the token is borne, if one is asked for
abbrev pub has_token : Option Token → Option (List ℕ) → Bool
has_token None authorization = true
has_token (Some token) None = false
has_token (Some token) (Some value) = bears token.bytes.items value

-- whether a request is admitted, or the first reason why not
abbrev pub judgement : Rules → Claimed → Result (Unit {0}) Denial
judgement rules claims =
    if is_some rules.token && not (is_local claims) then Err Guarded
    else if rules.read_only && claims.changes then Err ReadOnly
    else if claims.changes && not (has_token rules.token claims.authorization)
    then Err Guarded
    else Ok tt

-- what holds of each request that is admitted: where there is a token, it comes from no page and
-- names this machine; if it changes the store, that may be done, and it bears the token
pub record IsAdmitted (rules : Rules) (claims : Claimed) : Type 0 where
  pub own : is_some rules.token ≡ true → is_local claims ≡ true
  pub can_change : claims.changes ≡ true → rules.read_only ≡ false
  pub bears_it : claims.changes ≡ true → has_token rules.token claims.authorization ≡ true

-- no rules
abbrev pub no_rules : Rules
no_rules = record { read_only = false; token = None }
