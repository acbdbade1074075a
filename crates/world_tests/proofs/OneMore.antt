-- One event more.
use Rattle.std.proofs.Common.{◌≡◌, List, [], ◌∷◌, ◌++◌, Ok, refl, ◌∙◌}
use Rattle.head.proofs.Replays.{replayed_from-snoc}
use Rattle.head.specs.Worlds.{Event, World, stepped}
use Rattle.journal.specs.Records.{records_of}
use Rattle.keeper.specs.Finding.{IsOfAll}
use Rattle.keeper.specs.Together.{SpellTogether}

pub nothing_spelled : SpellTogether [] []
unfolding records_of
nothing_spelled = record { are = record { each = tt; whole = refl }; each = tt }

pub one_more : (first w next : World) (events : List Event) (e : Event) → IsOfAll first events w
    → stepped w e ≡ Ok next → IsOfAll first (events ++ e ∷ []) next
one_more first w next events e so_far step =
    replayed_from-snoc (Ok first) events e w so_far ∙ step
