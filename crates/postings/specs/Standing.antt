-- Lists in the order of where they stand.
use Rattle.std.specs.Prelude.{◌≡◌, ℕ, ◌<◌, ◌≤◌, List, None, length, map}
use Rattle.std.specs.List.{sum_by}
use Rattle.std.specs.Ordering.{nat_cmp}
use Rattle.std.specs.declared.cmp.Ordering.{Ordering}
use Rattle.labels.specs.Ascending.{first_of, first_or_end, not_below}
use Rattle.labels.specs.Sets.{union_all}

-- the number is where the list begins, or the end of all references
pub record Begins (first : ℕ) (rs : List ℕ) : Type 0 where
  pub value : first ≡ first_or_end rs
  pub none : 4294967296 ≤ first → first_of rs ≡ None

-- what begins later is less
abbrev pub earlier : {X : Type 0} → (X → ℕ) → X → X → Ordering
earlier first a b = nat_cmp (first b) (first a)

module _ {X : Type 0} (f : X → List ℕ) where
  -- what stands in some of the lists
  abbrev pub united : List X → List ℕ
  united xs = union_all (map f xs)

  -- how many references all of them leave
  abbrev pub left_of : List X → ℕ
  left_of xs = sum_by (λ x. length (f x)) xs

  -- the lists leave fewer references, and the same ones from the bound on
  pub record HasMoved (bound : ℕ) (old new : List X) : Type 0 where
    pub same : not_below bound (united new) ≡ not_below bound (united old)
    pub fewer : left_of new < left_of old
