-- The values that a name has in a part.
use Rattle.std.specs.Prelude.{◌≡◌, ◌<◌, ◌+◌, ℕ, true, false, List, [], length, get_or}
use Rattle.std.specs.List.{Contains}
use Rattle.std.specs.Str.{bytes_eq}
use Rattle.std.specs.declared.cmp.Ordering.TheVariants.{Less}
use Rattle.labels.specs.Labels.{text_cmp, value_of}
use Rattle.labels.specs.Rows.{Row}
use Rattle.labels.specs.Parts.{Part, carries}

-- strictly in the order of their bytes, so none stands twice
abbrev pub AreAscending : List (List ℕ) → Type 0
AreAscending values = (k : ℕ) → k + 1 < length values
    → text_cmp (get_or values k []) (get_or values (k + 1) []) ≡ Less

-- the values of a name: in the order of their bytes, each one that a series of the part has, and
-- no other
pub record AreValuesOf (part : Part) (name : List ℕ) (values : List (List ℕ)) : Type 0 where
  pub ascending : AreAscending values
  pub carried : (value : List ℕ) → Contains values value
      → (row : ℕ × Row) × (Contains part row × (carries name value row.1.0 ≡ true))
  pub present : (row : ℕ × Row) → Contains part row → bytes_eq (value_of row.1.0 name) [] ≡ false
      → Contains values (value_of row.1.0 name)
