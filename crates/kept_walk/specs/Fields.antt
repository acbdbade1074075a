-- The fields of a journal's contents.
use Rattle.std.specs.Prelude.{ℕ, ℤ, Bool, true, false, not, ◌&&◌, List, [], ◌∷◌}
use Rattle.std.specs.Prelude.{length, nat_le}
use Rattle.std.specs.List.{list_all}
use Rattle.std.specs.Ordering.{is_lt}
use Rattle.labels.specs.Labels.{Labels, same_labels, text_cmp}
use Rattle.labels.specs.LabelSets.{are_named, has_value}
use Rattle.labels.specs.Rows.{Row}
use Rattle.matchers.specs.Views.{MatcherView}
use Rattle.matchers.specs.declared.matcher.Op.{Op}
use Rattle.matchers.specs.declared.matcher.Op.TheVariants.{Equal, NotEqual, Like, NotLike}
use Rattle.kept_walk.specs.Forms.{Form, octet, number, signed, string, both, list, such, shown}
use Rattle.kept_walk.specs.Kept.{Series}

-- whether a test holds of each item and the next
abbrev pub each_next : {A : Type 0} → (A → A → Bool) → List A → Bool
each_next test [] = true
each_next test (x ∷ []) = true
each_next test (x ∷ y ∷ ys) = test x y && each_next test (y ∷ ys)

-- LABEL SETS

-- the name of one pair is before that of another
abbrev pub is_before : List ℕ × List ℕ → List ℕ × List ℕ → Bool
is_before a b = is_lt (text_cmp a.0 b.0)

-- at most 64 label names in strict order, each with a text that is not empty
abbrev pub is_label_set : Labels → Bool
is_label_set pairs =
    each_next is_before pairs && are_named pairs && list_all has_value pairs
    && nat_le (length pairs) 64

abbrev pub labels : Form Labels
labels = such is_label_set (list (both string string))

-- SAMPLES

-- a time and a value
abbrev pub sample : Form (ℤ × ℤ)
sample = both signed signed

abbrev pub samples : Form (List (ℤ × ℤ))
samples = list sample

-- BATCHES

-- whether there is one at least
abbrev pub is_filled : {A : Type 0} → List A → Bool
is_filled [] = false
is_filled (x ∷ xs) = true

-- a label set with one sample at least
abbrev pub run : Form Row
run = both labels (such is_filled samples)

abbrev pub differs : Row → Row → Bool
differs a b = not (same_labels a.0 b.0)

-- runs of which no two that stand side by side have one label set
abbrev pub runs : Form (List Row)
runs = such (each_next differs) (list run)

-- DELETIONS

abbrev pub op_number : Op → ℕ
op_number Equal = 0
op_number NotEqual = 1
op_number Like = 2
op_number NotLike = 3

-- whether it is the number of an operator
abbrev pub is_op : ℕ → Bool
is_op n = nat_le n 3

-- the operator, the name, and the text or pattern
abbrev pub matcher_parts : MatcherView → ℕ × (List ℕ × List ℕ)
matcher_parts m = (op_number m.op, (m.name, m.text))

abbrev pub matcher : Form MatcherView
matcher = shown matcher_parts (both (such is_op octet) (both string string))

-- the matchers, and the first and the last time
abbrev pub deletion_parts : Form (List MatcherView × (ℤ × ℤ))
deletion_parts = both (list matcher) (both signed signed)

-- HEADS

-- the number of a folder, and one that is not looked at
abbrev pub place : Form (ℕ × ℕ)
place = both number number

-- the floor, the blocks, and how many series follow
abbrev pub opening : Form (ℤ × (List (ℕ × ℕ) × ℕ))
opening = both signed (both (list place) number)

abbrev pub series_parts : Series → Labels × ((ℤ × ℤ) × List (ℤ × ℤ))
series_parts s = (s.labels, (s.newest, s.samples))

-- a label set, its newest sample, and its samples
abbrev pub series : Form Series
series = shown series_parts (both labels (both sample samples))
