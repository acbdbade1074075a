-- Sets of texts, by their bytes.
use Rattle.std.specs.Prelude.{◌≡◌, ℕ, List, fold, map}
use Rattle.std.specs.Borrow.{Bor}
use Rattle.std.specs.BTreeSet.{BTreeSet, insert_key}
use Rattle.labels.specs.Labels.{text_cmp}

-- the texts of a set, in their order
abbrev pub bytes_in : BTreeSet (Bor (List ℕ)) → List (List ℕ)
bytes_in set = map (λ text. text.now) set.keys

-- these texts were added
abbrev pub HasAdded : List (List ℕ) → BTreeSet (Bor (List ℕ)) → BTreeSet (Bor (List ℕ)) → Type 0
HasAdded texts old new = bytes_in new ≡ fold (insert_key text_cmp) (bytes_in old) texts
