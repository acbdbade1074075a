-- Label sets, what a name has in them, and their order.
use Rattle.std.specs.Prelude.{◌≡◌, ◌+◌, ◌<◌, ℕ, ℤ, Bool, List, [], ◌∷◌, length, get_or}
use Rattle.std.specs.Prelude.{if◌then◌else◌}
use Rattle.std.specs.Str.{bytes_eq}
use Rattle.std.specs.declared.cmp.Ordering.{Ordering}
use Rattle.std.specs.declared.cmp.Ordering.TheVariants.{Less, Equal}
use Rattle.std.specs.Ordering.{nat_cmp, int_cmp, ordering_then, eq_by_cmp}
use Rattle.std.specs.Cmp.Lexicographic.{slice_cmp}

-- a label set: pairs of a name and a text that is not empty, in the order of their names
abbrev pub Labels : Type 0
Labels = List (List ℕ × List ℕ)

-- the value of a name, the empty text where it is absent
abbrev pub value_of : Labels → List ℕ → List ℕ
value_of [] name = []
value_of (pair ∷ pairs) name = if bytes_eq pair.0 name then pair.1 else value_of pairs name

-- texts by their bytes; a prefix is smaller
abbrev pub text_cmp : List ℕ → List ℕ → Ordering
text_cmp a b = slice_cmp nat_cmp a b

-- by name, and then by value
abbrev pub pair_cmp : List ℕ × List ℕ → List ℕ × List ℕ → Ordering
pair_cmp x y = ordering_then (text_cmp x.0 y.0) (text_cmp x.1 y.1)

-- pair by pair; a prefix is smaller
unfoldable pub labels_cmp : Labels → Labels → Ordering
labels_cmp a b = slice_cmp pair_cmp a b

-- whether two label sets are the same
abbrev pub same_labels : Labels → Labels → Bool
same_labels a b = eq_by_cmp labels_cmp a b

-- a label set and a time
abbrev pub Point : Type 0
Point = Labels × ℤ

-- by label set, and then by time
abbrev pub point_cmp : Point → Point → Ordering
point_cmp p q = ordering_then (labels_cmp p.0 q.0) (int_cmp p.1 q.1)

-- names come strictly in the order of their bytes
abbrev pub IsByName : Labels → Type 0
IsByName ps = (k : ℕ) (d : List ℕ × List ℕ) → k + 1 < length ps
    → text_cmp (get_or ps k d).0 (get_or ps (k + 1) d).0 ≡ Less

-- the pair at this place has this name
abbrev pub IsNamedAt : Labels → List ℕ → ℕ → Type 0
IsNamedAt ps name i = (i < length ps) × (text_cmp (get_or ps i ([], [])).0 name ≡ Equal)
