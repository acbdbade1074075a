-- Events in turn, in the store and in the replay.
use Rattle.std.proofs.Common.{◌≡◌, T, List, [], ◌∷◌, Option, Some, None, Result, Ok, Err, map, refl}
use Rattle.matchers.specs.Satisfies.{satisfies_all}
use Rattle.head.specs.Fits.{fits}
use Rattle.head.specs.Refusals.{Refusal}
use Rattle.head.specs.Worlds.{World, committed, replayed_from}
use Rattle.head.specs.Worlds as worlds
use Rattle.kept_walk.specs.Kept.{Event, batch, deletion, cut}
use Rattle.kept_world.specs.States.{State, stepped, state_from, entries_of}
use Rattle.kept_laws.specs.Likeness.{IsLike, IsKept, Agrees, AgreesButLimits, is_limit, store_event}
use Rattle.kept_laws.proofs.Adding.{batches_agree}
use Rattle.kept_laws.proofs.Deleting.{deletions_agree}
use Rattle.kept_laws.proofs.Cutting.{cuts_agree}
use Rattle.kept_laws.proofs.Keeping.{MayBeKept, keep_next}

but_limits : (r : Result World Refusal) (o : Option State) → Agrees r o → AgreesButLimits r o
but_limits (Ok w) (Some s) h = h
but_limits (Ok w) None h = absurd h
but_limits (Err e) (Some s) h = absurd h
but_limits (Err e) None h = tt

pub steps_agree : (s : State) (w : World) (e : Event) → IsLike s w → IsKept s → AgreesButLimits (worlds.stepped w (store_event e)) (stepped s e)
steps_agree s w (batch runs) h k = but_limits (committed w (entries_of runs)) (stepped s (batch runs)) (batches_agree s w runs h k)
steps_agree s w (deletion ms a b) h k = deletions_agree s w (satisfies_all ms) a b h
steps_agree s w (cut t) h k = cuts_agree fits s w t h k

refused_stays : (e : Refusal) (events : List worlds.Event) → replayed_from (Err e) events ≡ Err e
refused_stays e [] = refl
refused_stays e (x ∷ xs) = refl

none_stays : (events : List Event) → state_from None events ≡ None
none_stays [] = refl
none_stays (x ∷ xs) = refl

at_limit : (e : Refusal) (o : Option State) → T (is_limit e) → AgreesButLimits (Err e) o
at_limit e (Some s) h = h
at_limit e None h = tt

from-agrees : (events : List Event) (r : Result World Refusal) (o : Option State) → MayBeKept o → AgreesButLimits r o → AgreesButLimits (replayed_from r (map store_event events)) (state_from o events)
from-agrees [] r o k h = h
from-agrees (x ∷ xs) (Ok w) (Some s) k h = from-agrees xs (worlds.stepped w (store_event x)) (stepped s x) (keep_next s x k) (steps_agree s w x h k)
from-agrees (x ∷ xs) (Ok w) None k h = absurd h
from-agrees (x ∷ xs) (Err e) (Some s) k h = at_limit e (state_from (stepped s x) xs) h
from-agrees (x ∷ xs) (Err e) None k h = tt

pub replays_agree : (s : State) (w : World) (events : List Event) → IsLike s w → IsKept s → AgreesButLimits (replayed_from (Ok w) (map store_event events)) (state_from (Some s) events)
replays_agree s w events h k = from-agrees events (Ok w) (Some s) k h
