-- Laws of the lists that a block lends: their references ascend.
use Rattle.std.proofs.Common.{ℕ, zero, suc, [], ◌∷◌, drop}
use Rattle.std.specs.List.Sorted.{IsStrictlyIncreasing}
use Rattle.labels.specs.Rows.{Row}
use Rattle.labels.specs.Parts.{Part, has_sample, references}
use Rattle.labels.proofs.Lists.{rising-tail}
use Rattle.labels.proofs.PartRows.{kept_rises}
use Rattle.block.specs.LiveLists.{live_in}
use Rattle.block.specs.declared.live_list.LiveList.{LiveList}

-- of the rows of a part from a place on
pub rises_from : (part : Part) (i : ℕ) → IsStrictlyIncreasing (references part)
    → IsStrictlyIncreasing (references (drop i part))
rises_from part zero h = h
rises_from [] (suc i) h = h
rises_from (row ∷ rows) (suc i) h = rises_from rows i (rising-tail row.0 (references rows) h)

-- of the live series that a list has still to give
pub live_rises : (live : LiveList) → IsStrictlyIncreasing (live_in live)
live_rises live =
    kept_rises (λ (row : ℕ × Row). has_sample live.times.from live.times.to row.1.1)
    (drop live.place live.block.now.part) (rises_from live.block.now.part live.place live.rising)
