use Rattle.std.proofs.Common.{◌≡◌, ◌∙◌, List, [], Ok, ap, map, subst}
use Rattle.block.specs.Blocks.{Shown}
use Rattle.head.specs.Blocks.{opening_of, part_in}
use Rattle.head.specs.Heads.{SnapshotParts, world_of}
use Rattle.head.specs.Worlds.{replayed}
use Rattle.store_folder.proofs.headless.admit.Goals as goal
use Rattle.store_folder.proofs.headless.admit.Goals.{in-Ok-replay, in-Err-replay}

pub returns-clause-admitted : goal.returns-clause-admitted
returns-clause-admitted c =
    let same : c.in-Ok.nothing ≡ opening_of [] =
    c.in-Ok.ensures ∙ ap (λ (bs : List Shown). opening_of (map part_in bs)) c.new.ensures.items in
    elim c.match-replay.branch [
      | in-Ok-replay w ↦ rw w.result-is (
        world_of w.in-Ok-replay.field-0,
        subst (λ (s : SnapshotParts). replayed (world_of s) c.args.events.now
            ≡ Ok (world_of w.in-Ok-replay.field-0)) same w.in-Ok-replay.ensures.ok,
      )
      | in-Err-replay w ↦ rw w.result-is tt
    ]
