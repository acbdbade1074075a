-- What events brought came by then.
use Rattle.std.proofs.Common.{◌≡◌, List, [], ◌∷◌, Option, Some, None, refl, subst}
use Rattle.kept_walk.specs.Kept.{Event}
use Rattle.kept_world.specs.Births.{AreBornBy}
use Rattle.kept_world.specs.States.{State, state_after, state_from, stepped}
use Rattle.kept_world.proofs.Bearing.{born_next}

abbrev some : State → Option State
some s = Some s

same_state : (a b : State) → some a ≡ Some b → a ≡ b
same_state a b e = cc

no_state : (r : Option State) (t : State) → r ≡ None → r ≡ Some t → ⊥
no_state (Some s) t e h = absurd cc
no_state None t e h = absurd cc

born_from : (r : Option State) (events : List Event) (t : State)
    → ((s : State) → r ≡ Some s → AreBornBy s.number s.head) → state_from r events ≡ Some t
    → AreBornBy t.number t.head
born_from None [] t h e = absurd (no_state None t refl e)
born_from None (x ∷ xs) t h e = absurd (no_state None t refl e)
born_from (Some s) [] t h e =
    subst (λ (u : State). AreBornBy u.number u.head) (same_state s t e) (h s refl)
born_from (Some s) (x ∷ xs) t h e =
    born_from (stepped s x) xs t (λ u k. born_next s u x (h s refl) k) e

pub born_after : (events : List Event) (s t : State) → AreBornBy s.number s.head
    → state_after events s ≡ Some t → AreBornBy t.number t.head
born_after events s t born e =
    born_from (Some s) events t
    (λ u k. subst (λ (v : State). AreBornBy v.number v.head) (same_state s u k) born) e
