-- What is shown of a state that a judge found.
use Rattle.std.specs.Prelude.{◌≡◌, ⊤, Option, None, Some, string_bytes}
use Rattle.state_claims.specs.declared.found.FoundState.{FoundState}
use Rattle.state_claims.specs.declared.verdicts.StateSaid.{StateSaid}

-- what is shown of a state is what was found
pub record IsSaidOf (state : FoundState) (said : StateSaid) : Type 0 where
  pub lines : said.lines.now ≡ state.lines.items
  pub found : said.is_found ≡ state.is_found
  pub told : said.told ≡ state.told
  pub events : said.events ≡ state.events
  pub mark : said.mark.now ≡ string_bytes state.mark

abbrev pub ShowsState : Option FoundState → Option StateSaid → Type 0
ShowsState None None = ⊤
ShowsState None (Some said) = ⊥
ShowsState (Some state) None = ⊥
ShowsState (Some state) (Some said) = IsSaidOf state said
