use Rattle.std.proofs.Common.{map, take}
use Rattle.remote_requests.specs.Asking.{AreSelected}
use Rattle.remote_requests.proofs.listings.selected.Given as goal

abbrev pub invariant-loop-text : goal.invariant-loop-text
invariant-loop-text l =
    AreSelected (map (λ t. t.now) (take l.text-index l.texts)) l.start l.end l.queries.items
