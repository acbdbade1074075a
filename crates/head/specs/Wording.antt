-- The sifted commit in the words of those who ask for it: what the store holds already comes first.
use Rattle.std.specs.Prelude.{ℕ, ℤ, ◌+◌, List, [], ◌∷◌, Result, Ok, Err, if◌then◌else◌}
use Rattle.labels.specs.Labels.{Labels}
use Rattle.head.specs.Refusals.{Refusal}
use Rattle.head.specs.Worlds.{World, Batch, Event, batch, added}
use Rattle.head.specs.Sifting.{Fate, joins, held, left_out, has, is_newest, world_after, noted}
use Rattle.head.specs.Sifting.{Sifted}

abbrev pub by_step : Result World Refusal → Fate
by_step (Ok w) = joins w
by_step (Err e) = left_out e

-- a sample is held if the content has it or it is the newest of its label set; any other is the
-- step's
abbrev pub fate_in_words : World → ℕ → Labels × (ℤ × ℤ) → Fate
fate_in_words w at x =
    if is_newest w x then held else if has w x then held else by_step (added w at x)

abbrev pub sifted_in_words : World → ℕ → Batch → Sifted
sifted_in_words w at [] = record { world = w; kept = []; held = []; left = [] }
sifted_in_words w at (x ∷ xs) =
    noted at x (fate_in_words w at x)
    (sifted_in_words (world_after w (fate_in_words w at x)) (at + 1) xs)

-- what is kept is one event, or none if there is nothing
abbrev pub events_of : Batch → List Event
events_of [] = []
events_of (x ∷ xs) = batch (x ∷ xs) ∷ []
