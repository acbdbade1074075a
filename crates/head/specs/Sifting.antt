-- The sifted commit: what can be taken of a batch is taken.
use Rattle.std.specs.Prelude.{ℕ, ℤ, ◌+◌, Bool, true, false, List, [], ◌∷◌, ◌++◌, Option, None, Some}
use Rattle.std.specs.Prelude.{Result, Ok, Err, length, not, ◌&&◌, if◌then◌else◌}
use Rattle.std.specs.Ordering.{int_eq}
use Rattle.std.specs.FinMap.Entries.{find}
use Rattle.labels.specs.Labels.{Labels, labels_cmp, point_cmp}
use Rattle.head.specs.Refusals.{Refusal}
use Rattle.head.specs.Worlds.{World, Batch, added, is_repeated}

-- what becomes of a sample: it joins, and this is the world then; the store holds it already; or it
-- is left out, since the step refuses it so
pub data Fate : Type 0 where
  joins : World → Fate
  held : Fate
  left_out : Refusal → Fate

abbrev pub has_value : ℤ → Option ℤ → Bool
has_value v None = false
has_value v (Some u) = int_eq v u

-- the content has the sample, with its value
abbrev pub has : World → Labels × (ℤ × ℤ) → Bool
has w x = has_value x.1.1 (find point_cmp (x.0, x.1.0) w.content)

-- the sample is the newest committed one of its label set
abbrev pub is_newest : World → Labels × (ℤ × ℤ) → Bool
is_newest w x = is_repeated x.1 (find labels_cmp x.0 w.newest)

-- a sample that the step takes joins; one that it refuses is held if the content has it
abbrev pub fate_by : Bool → Result World Refusal → Fate
fate_by has (Ok w) = joins w
fate_by true (Err e) = held
fate_by false (Err e) = left_out e

-- what becomes of a sample, which stands at this place. One that is the newest of its label set is
-- held, whether the content has it or a deletion took it away.
abbrev pub fate : World → ℕ → Labels × (ℤ × ℤ) → Fate
fate w at x = if is_newest w x then held else fate_by (has w x) (added w at x)

abbrev pub world_after : World → Fate → World
world_after w (joins v) = v
world_after w held = w
world_after w (left_out e) = w

-- what a sift comes to: the world, the samples that joined, those that were held already, and those
-- left out, by place and refusal; each list in the order of the batch
pub record Sifted : Type 0 where
  pub world : World
  pub kept : Batch
  pub held : Batch
  pub left : List (ℕ × Refusal)

-- with one sample before all others
abbrev pub noted : ℕ → Labels × (ℤ × ℤ) → Fate → Sifted → Sifted
noted at x (joins w) s = record s { kept = x ∷ s.kept }
noted at x held s = record s { held = x ∷ s.held }
noted at x (left_out e) s = record s { left = (at, e) ∷ s.left }

-- the samples in order, of which the first stands at this place
abbrev pub sifted_from : World → ℕ → Batch → Sifted
sifted_from w at [] = record { world = w; kept = []; held = []; left = [] }
sifted_from w at (x ∷ xs) =
    noted at x (fate w at x) (sifted_from (world_after w (fate w at x)) (at + 1) xs)

abbrev pub sifted : World → Batch → Sifted
sifted w xs = sifted_from w 0 xs

-- one sift and then another
abbrev pub then_sifted : Sifted → Sifted → Sifted
then_sifted a b = record {
  world = b.world;
  kept = a.kept ++ b.kept;
  held = a.held ++ b.held;
  left = a.left ++ b.left;
}

-- the parts of a batch, one after another, of which the first begins at this place
abbrev pub sifted_parts : World → ℕ → List Batch → Sifted
sifted_parts w at [] = sifted_from w at []
sifted_parts w at (p ∷ ps) =
    then_sifted (sifted_from w at p)
    (sifted_parts (sifted_from w at p).world (at + length p) ps)

-- The sample is the newest of its label set, and a deletion took it away. Such a one is held, and
-- stands nowhere.
abbrev pub is_hidden : World → Labels × (ℤ × ℤ) → Bool
is_hidden w x = is_newest w x && not (has w x)
