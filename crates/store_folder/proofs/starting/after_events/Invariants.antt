use Rattle.std.proofs.Common.{◌≡◌, take}
use Rattle.std.specs.Prelude.{Ok}
use Rattle.head.specs.Heads.{world_of}
use Rattle.head.specs.Worlds.{replayed}
use Rattle.store_folder.specs.Starting.{LeadTo}
use Rattle.store_folder.proofs.starting.after_events.Given as goal

-- the world after the events so far, and how it was reached
abbrev pub invariant-loop-place : goal.invariant-loop-place
invariant-loop-place l =
    (replayed (world_of l.fn.snapshot) (take l.place l.events) ≡ Ok (world_of l.at))
    × LeadTo l.fn.snapshot (take l.place l.events) l.at
