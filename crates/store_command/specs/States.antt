-- The states of which a reply is right.
use Rattle.std.specs.Prelude.{◌≤◌, ◌<◌, ℕ, List, length}
use Rattle.matchers.specs.Views.{QueryView}
use Rattle.reply_reader.specs.declared.reply.Reply.{Reply}
use Rattle.kept_walk.specs.Kept.{Event}
use Rattle.kept_world.specs.Changes.{LeadsTo}
use Rattle.kept_world.specs.States.{State}
use Rattle.reply_state.specs.Searches.{IsWholeIn}

-- there is a state, behind so many events or more, of which all of the reply is right
pub record IsRightSomewhere (query : QueryView) (reply : Reply) (since : ℕ) (first : State)
    (events : List Event) : Type 0 where
  pub place : ℕ
  pub state : State
  pub low : since ≤ place
  pub high : place ≤ length events
  pub there : LeadsTo first events place state
  pub right : IsWholeIn query reply state

-- all of the reply is right of the state behind so many events
pub record IsRightAt (query : QueryView) (reply : Reply) (first : State) (events : List Event)
    (place : ℕ) : Type 0 where
  pub state : State
  pub there : LeadsTo first events place state
  pub right : IsWholeIn query reply state

-- there is a state, behind fewer events, of which all of the reply is right
pub record IsRightBefore (query : QueryView) (reply : Reply) (since : ℕ) (first : State)
    (events : List Event) : Type 0 where
  pub place : ℕ
  pub low : place < since
  pub high : place ≤ length events
  pub is_right : IsRightAt query reply first events place
