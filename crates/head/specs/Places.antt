-- Where a pair, or a name, stands among ascending pairs.
use Rattle.std.specs.Prelude.{◌≡◌, ◌<◌, ◌≤◌, ◌-◌, ℕ, Bool, true, false, List, length, map, take}
use Rattle.std.specs.Prelude.{drop, slice_index_or}
use Rattle.std.specs.Ordering.{is_le, is_lt, nat_cmp}
use Rattle.std.specs.Cmp.Lexicographic.{slice_cmp}
use Rattle.std.specs.declared.cmp.Ordering.{Ordering}
use Rattle.std.specs.declared.cmp.Ordering.TheVariants.{Less, Greater}
use Rattle.labels.specs.Labels.{pair_cmp}
use Rattle.head.specs.Index.{Pair, PairLists, values_under}

-- the pair stands at this place
pub record IsAt (pair : Pair) (lists : PairLists) (i : ℕ) : Type 0 where
  pub in_range : i < length lists
  pub same : (d : Pair × List ℕ) → (slice_index_or lists i d).0 ≡ pair

-- the pair would stand at this place: those before it are smaller, and the others are greater
pub record IsGapFor (pair : Pair) (lists : PairLists) (i : ℕ) : Type 0 where
  pub in_range : i ≤ length lists
  pub smaller_before : (k : ℕ) (d : Pair × List ℕ) → k < i
      → pair_cmp (slice_index_or lists k d).0 pair ≡ Less
  pub greater_after : (k : ℕ) (d : Pair × List ℕ) → i ≤ k → k < length lists
      → pair_cmp (slice_index_or lists k d).0 pair ≡ Greater

-- the names before this place pass the test, and the others fail it
pub record IsNameBoundary (test : List ℕ → Bool) (lists : PairLists) (i : ℕ) : Type 0 where
  pub in_range : i ≤ length lists
  pub passes_before : (k : ℕ) (d : Pair × List ℕ) → k < i
      → test (slice_index_or lists k d).0.0 ≡ true
  pub fails_after : (k : ℕ) (d : Pair × List ℕ) → i ≤ k → k < length lists
      → test (slice_index_or lists k d).0.0 ≡ false

-- the lists of this name and of greater ones stand from this place on, those of smaller ones before
abbrev pub BeginsName : List ℕ → PairLists → ℕ → Type 0
BeginsName name = IsNameBoundary (λ n. is_lt (slice_cmp nat_cmp n name))

-- the lists of greater names stand from this place on, all others before
abbrev pub EndsName : List ℕ → PairLists → ℕ → Type 0
EndsName name = IsNameBoundary (λ n. is_le (slice_cmp nat_cmp n name))

-- the lists of a name stand from the first place up to, not including, the second
pub record IsRunOf (name : List ℕ) (lists : PairLists) (start end : ℕ) : Type 0 where
  pub ordered : start ≤ end
  pub in_range : end ≤ length lists
  pub values : values_under name lists ≡ map (λ e. e.0.1) (take (end - start) (drop start lists))

-- on which side of a boundary of names a pair stands, which no pair is
abbrev pub side_of : Bool → Ordering
side_of true = Less
side_of false = Greater
