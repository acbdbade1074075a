-- The postings index of a part: from each pair of a name and a value to the references of the
-- series that carry it.
use Rattle.std.specs.Prelude.{◌≡◌, ◌≢◌, ℕ, ℤ, T, List, [], ◌∷◌, ◌++◌, Some, map, filter, unwrap_or}
use Rattle.std.specs.Prelude.{not}
use Rattle.std.specs.List.{list_all}
use Rattle.std.specs.Ordering.{nat_cmp}
use Rattle.std.specs.Cmp.Lexicographic.{slice_cmp}
use Rattle.std.specs.Str.{bytes_eq}
use Rattle.std.specs.FinMap.Entries.{find, put, is_sorted}
use Rattle.labels.specs.Labels.{Labels, pair_cmp}
use Rattle.labels.specs.Parts.{Part, references_where, carries}

-- a name and a value
abbrev pub Pair : Type 0
Pair = List ℕ × List ℕ

-- pairs, each with its references
abbrev pub PairLists : Type 0
PairLists = List (Pair × List ℕ)

-- the references listed at a pair, none where the pair is not listed
abbrev pub listed : Pair → PairLists → List ℕ
listed pair lists = unwrap_or (find pair_cmp pair lists) []

-- the lists with the reference at the end of the list of one pair
abbrev pub listed_more : Pair → ℕ → PairLists → PairLists
listed_more pair r lists = put pair_cmp pair (listed pair lists ++ r ∷ []) lists

-- the lists with the reference at the end of the list of each pair of a label set
abbrev pub listed_each : Labels → ℕ → PairLists → PairLists
listed_each [] r lists = lists
listed_each (pair ∷ pairs) r lists = listed_each pairs r (listed_more pair r lists)

-- names ascend strictly, and no value is empty
pub record IsProper (ps : Labels) : Type 0 where
  pub by_name : T (is_sorted (slice_cmp nat_cmp) ps)
  pub full : T (list_all (λ p. not (bytes_eq p.1 [])) ps)

-- the values that are listed under a name
abbrev pub values_under : List ℕ → PairLists → List (List ℕ)
values_under name lists = map (λ e. e.0.1) (filter (λ e. bytes_eq e.0.0 name) lists)

-- the pairs ascend, each has a reference, and each lists the series of the part that carry it, a
-- pair that is not listed being carried by none
pub record IsIndexOf (lists : PairLists) (part : Part) : Type 0 where
  pub ascending : T (is_sorted pair_cmp lists)
  pub filled : (name value : List ℕ) → find pair_cmp (name, value) lists ≢ Some []
  pub listed : (name value : List ℕ)
      → listed (name, value) lists ≡ references_where (carries name value) part

-- Where the old lists are the index of a part, the new ones are that of the part with one series
-- more, of this reference and label set.
abbrev pub AddsSeries : ℕ → Labels → PairLists → PairLists → Type 0
AddsSeries reference labels old new = (part : Part) (samples : List (ℤ × ℤ)) → IsIndexOf old part
    → IsIndexOf new (part ++ (reference, (labels, samples)) ∷ [])
