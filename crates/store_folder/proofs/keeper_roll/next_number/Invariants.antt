use Rattle.std.proofs.Common.{◌≡◌, drop}
use Rattle.store_folder.proofs.Numbers.{next_from}
use Rattle.store_folder.proofs.keeper_roll.next_number.Given as goal

abbrev pub invariant-loop-place : goal.invariant-loop-place
invariant-loop-place l =
    next_from l.next (drop l.place-index l.places) ≡ next_from 1 l.places
