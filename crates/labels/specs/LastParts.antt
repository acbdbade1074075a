-- What the last of some parts has at a label set and a time.
use Rattle.std.specs.Prelude.{◌≡◌, ◌↔◌, ℕ, ℤ, List, ◌∷◌, ◌++◌}
use Rattle.std.specs.List.{Contains}
use Rattle.labels.specs.Labels.{Labels}
use Rattle.labels.specs.Contents.{Content}
use Rattle.labels.specs.Rows.{Row}
use Rattle.labels.specs.Parts.{Part, IsPart}

-- a part has this sample, a time and its value, under a label set
pub record HasSample (part : Part) (labels : Labels) (sample : ℤ × ℤ) : Type 0 where
  pub row : ℕ × Row
  pub listed : Contains part row
  pub labels_are : row.1.0 ≡ labels
  pub has : Contains row.1.1 sample

-- of the parts that have a sample at this label set and time, the last has this one
pub record IsOfLast (parts : List Part) (labels : Labels) (sample : ℤ × ℤ) : Type 0 where
  pub before : List Part
  pub part : Part
  pub after : List Part
  pub order : parts ≡ before ++ part ∷ after
  pub has : HasSample part labels sample
  pub last : (later : Part) → Contains after later
      → (v : ℤ) → HasSample later labels (sample.0, v) → ⊥

-- a content has a sample at a label set and time exactly where the last of the parts that have one
-- there has this one
abbrev pub HoldsLast : List Part → Content → Type 0
HoldsLast parts content = (labels : Labels) (sample : ℤ × ℤ) →
    Contains content ((labels, sample.0), sample.1) ↔ IsOfLast parts labels sample

-- each of them is a part
abbrev pub AreParts : List Part → Type 0
AreParts parts = (part : Part) → Contains parts part → IsPart part
