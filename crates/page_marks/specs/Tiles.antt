-- The tiles of a column, one on the other: a layer for each verdict that occurs in it.
use Rattle.std.specs.Prelude.{◌≡◌, ◌<◌, ◌≤◌, ℕ, zero, suc, ◌+◌, ◌-◌, nat_lt, List, [], ◌∷◌}
use Rattle.std.specs.Prelude.{length, if◌then◌else◌}
use Rattle.cover.specs.declared.certificate.Interval.{Interval}
use Rattle.page_claims.specs.Counting.{slot_of, count_in}
use Rattle.page_layout.specs.Layers.{top}
use Rattle.page_text.specs.declared.mark.Mark.{Mark}
use Rattle.page_text.specs.declared.mark.Mark.TheVariants.{Tile}
use Rattle.page_marks.specs.Gathering.{gather}

-- how many of the first slots occur
unfoldable pub kinds_below : List Interval → ℕ → ℕ
kinds_below is zero = 0
kinds_below is (suc n) = kinds_below is n + (if nat_lt 0 (count_in n is) then 1 else 0)

-- how many intervals have a verdict of the first slots
abbrev pub count_below : List Interval → ℕ → ℕ
count_below [] n = 0
count_below (i ∷ is) n = (if nat_lt (slot_of i.verdict) n then 1 else 0) + count_below is n

-- how high the layers of the first slots are in a column of some height: one unit for each that
-- occurs, and of what is left the share of their intervals
abbrev pub level : ℕ → List Interval → ℕ → ℕ
level height is n =
    top (kinds_below is n) (count_below is n) (length is) (height - kinds_below is 19)

-- the tile of a slot, if it occurs, in a column that stands on a foot: from the level of the slots
-- before it to its own
unfoldable pub tile_of : ℕ → ℕ → ℕ → ℕ → List Interval → ℕ → List Mark
tile_of x width foot height is slot =
    if nat_lt 0 (count_in slot is)
    then Tile slot x (foot - level height is (slot + 1)) width
    (level height is (slot + 1) - level height is slot) ∷ []
    else []

abbrev pub tiles : ℕ → ℕ → ℕ → ℕ → List Interval → List Mark
tiles x width foot height is = gather (tile_of x width foot height is) 19

-- the layers of a column fill its height: that of a verdict that occurs has at least one unit, and
-- that of another none
pub record IsStack (height : ℕ) (is : List Interval) : Type 0 where
  pub bottom : level height is 0 ≡ 0
  pub full : level height is 19 ≡ height
  pub seen : (slot : ℕ) → 0 < count_in slot is
      → level height is slot + 1 ≤ level height is (slot + 1)
  pub unseen : (slot : ℕ) → count_in slot is ≡ 0
      → level height is (slot + 1) ≡ level height is slot
