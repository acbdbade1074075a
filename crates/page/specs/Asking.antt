-- What is said of a label set that somebody asks about.
use Rattle.std.specs.Prelude.{◌≡◌, ◌<◌, ℕ, List, [], Some, length, slice_get}
use Rattle.labels.specs.Labels.{Labels}
use Rattle.labels.specs.Rows.{Row}
use Rattle.matchers.specs.Views.{MatcherView}
use Rattle.page_claims.specs.Asking.{rejecting_from}
use Rattle.page.specs.declared.asked.Asked.{Asked}
use Rattle.page.specs.declared.asked.Asked.TheVariants as asked

-- the row at a place has these labels
pub record HasRow (rows : List Row) (labels : Labels) (at : ℕ) : Type 0 where
  pub there : at < length rows
  pub same : (row : Row) → slice_get rows at ≡ Some row → row.0 ≡ labels

-- no row has these labels
abbrev pub HasNoRow : List Row → Labels → Type 0
HasNoRow rows labels = (at : ℕ) (row : Row) → slice_get rows at ≡ Some row → row.0 ≡ labels → ⊥

-- no row has these labels, and these are the places of the matchers that do not accept them
pub record AreRejecting (matchers : List MatcherView) (rows : List Row) (labels : Labels)
    (places : List ℕ) : Type 0 where
  pub no_row : HasNoRow rows labels
  pub all : places ≡ rejecting_from 0 matchers labels

-- a row that has the labels is told; else the matchers that do not accept them, and no others
abbrev pub IsSaid : List MatcherView → List Row → Labels → Asked → Type 0
IsSaid matchers rows labels (asked.Row at) = HasRow rows labels at
IsSaid matchers rows labels (asked.Rejected places) =
    AreRejecting matchers rows labels places.items × (0 < length places.items)
IsSaid matchers rows labels asked.Accepted = AreRejecting matchers rows labels []
