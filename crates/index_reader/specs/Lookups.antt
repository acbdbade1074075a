-- Where something stands in a list.
use Rattle.std.specs.Ordering.{is_lt, nat_cmp, ordering_then, is_eq}
use Rattle.std.specs.Prelude.{ℕ, List, [], ◌∷◌, Bool, if◌then◌else◌, suc, Option, Some, None}
use Rattle.std.specs.declared.cmp.Ordering.{Ordering}
use Rattle.labels.specs.Labels.{text_cmp}
use Rattle.index_reader.specs.Layout.{Label}

-- one place further
abbrev pub next : Option ℕ → Option ℕ
next (Some n) = Some (suc n)
next None = None

-- the place of the first that passes a test
unfoldable pub index_of : {X : Type 0} → (X → Bool) → List X → Option ℕ
index_of test [] = None
index_of test (x ∷ xs) = if test x then Some 0 else next (index_of test xs)

-- a name and a value by their symbols
abbrev pub key_cmp : Label → Label → Ordering
key_cmp a b = ordering_then (nat_cmp a.0 b.0) (nat_cmp a.1 b.1)

-- whether a pair is below another
abbrev pub key_before : Label → Label → Bool
key_before a b = is_lt (key_cmp a b)

-- the symbol of a text
abbrev pub symbol_of : List (List ℕ) → List ℕ → Option ℕ
symbol_of symbols text = index_of (λ s. is_eq (text_cmp s text)) symbols

-- the place of a pair among the pairs of the table
abbrev pub place_of : List Label → Label → Option ℕ
place_of keys key = index_of (λ k. is_eq (key_cmp k key)) keys
