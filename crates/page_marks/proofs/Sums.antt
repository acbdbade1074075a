-- What columns and layers make of the counts.
use Rattle.std.proofs.Common.{◌≡◌, ℕ, zero, suc, ◌+◌, ◌-◌, ◌*◌, ◌/◌, ◌<◌, ◌≤◌, List, [], ◌∷◌}
use Rattle.std.proofs.Common.{◌++◌, length, zero-add, add_assoc}
use Rattle.std.proofs.Common.{take, Bool, ap, ap₂, sym, subst, ◌∙◌, add-one, arith, le-ltb, lt-ltb}
use Rattle.std.specs.Prelude.{slice_range}
use Rattle.std.proofs.Math.Nat.{div-le_of_le-mul, mul-div_cancel_left}
use Rattle.std.proofs.Math.Seq.{take-add, take-length}
use Rattle.cover.specs.declared.certificate.Interval.{Interval}
use Rattle.labels.specs.Rows.{Row}
use Rattle.page_claims.specs.Counting.{count_in}
use Rattle.page_claims.proofs.Counted.{count_append}
use Rattle.page_layout.specs.Columns.{edge}
use Rattle.page_layout.specs.Layers.{top}
use Rattle.page_layout.proofs.Edges.{edge_next, top_more, top_full}
use Rattle.page_marks.specs.Columns.{column_of}
use Rattle.page_marks.specs.Gathering.{total}
use Rattle.page_marks.specs.Tables.{samples_in}
use Rattle.page_marks.specs.Tiles.{kinds_below, count_below, IsStack}
use Rattle.page_marks.proofs.Stacks.{one_if, kinds_none, kinds_more}
use Rattle.page_marks.proofs.Stacks.{below_none, below_more, below_all}

-- the slots of a list have all that it has
slots_sum : (is : List Interval) (n : ℕ) → total (λ slot. count_in slot is) n ≡ count_below is n
unfolding total
slots_sum is zero = sym (below_none is)
slots_sum is (suc n) =
    ap (λ (t : ℕ). t + count_in n is) (slots_sum is n)
    ∙ sym (below_more is n)
    ∙ ap (λ (m : ℕ). count_below is m) (add-one n)

pub verdicts_add : (is : List Interval) → total (λ slot. count_in slot is) 19 ≡ length is
verdicts_add is = slots_sum is 19 ∙ below_all is

none_before : (columns count : ℕ) → edge columns count 0 ≡ 0
none_before columns count =
    let e : 0 * count / columns ≤ 0 = div-le_of_le-mul columns (omega arith) in
    omega arith

longer : (a b : ℕ) → a ≤ b → b ≡ a + (b - a)
longer a b h = omega arith

-- the first columns have what the list has up to the last edge of them
columns_sum : (slot columns : ℕ) (is : List Interval) (m : ℕ) → 0 < columns
    → total (λ at. count_in slot (column_of columns is at)) m
    ≡ count_in slot (take (edge columns (length is) m) is)
unfolding total
columns_sum slot columns is zero some =
    sym (ap (λ (n : ℕ). count_in slot (take n is)) (none_before columns (length is)))
columns_sum slot columns is (suc m) some =
    let a : ℕ = edge columns (length is) m in
    let b : ℕ = edge columns (length is) (m + 1) in
    let cut : take b is ≡ take a is ++ slice_range is a b =
    ap (λ (n : ℕ). take n is) (longer a b (edge_next columns (length is) m some))
    ∙ take-add a (b - a) is in
    ap (λ (t : ℕ). t + count_in slot (slice_range is a b)) (columns_sum slot columns is m some)
    ∙ sym (count_append slot (take a is) (slice_range is a b))
    ∙ sym (ap (λ (l : List Interval). count_in slot l) cut)
    ∙ ap (λ (k : ℕ). count_in slot (take (edge columns (length is) k) is)) (add-one m)

pub columns_add : (slot columns : ℕ) (is : List Interval) → 0 < columns
    → total (λ at. count_in slot (column_of columns is at)) columns ≡ count_in slot is
columns_add slot columns is some =
    columns_sum slot columns is columns some
    ∙ ap (λ (n : ℕ). count_in slot (take n is)) (mul-div_cancel_left (length is) some)
    ∙ ap (λ (l : List Interval). count_in slot l) (take-length is)

pub samples_append : (xs ys : List Row) → samples_in (xs ++ ys) ≡ samples_in xs + samples_in ys
samples_append [] ys = sym (zero-add (samples_in ys))
samples_append (x ∷ xs) ys =
    ap (λ (n : ℕ). length x.1 + n) (samples_append xs ys)
    ∙ sym (add_assoc (length x.1) (samples_in xs) (samples_in ys))

top_none : (total room : ℕ) → top 0 0 total room ≡ 0
top_none total room =
    let e : 0 * room / total ≤ 0 = div-le_of_le-mul total (omega arith) in
    omega arith

filled : (kinds height : ℕ) → kinds ≤ height → kinds + (height - kinds) ≡ height
filled kinds height high = omega arith

below_mono : (is : List Interval) (n : ℕ) → count_below is n ≤ count_below is (n + 1)
below_mono is n = let e = below_more is n in omega (arith, e)

one_kind : (is : List Interval) (slot : ℕ) → 0 < count_in slot is
    → kinds_below is (slot + 1) ≡ kinds_below is slot + 1
one_kind is slot some =
    kinds_more is slot
    ∙ ap (λ (b : Bool). kinds_below is slot + one_if b) (lt-ltb 0 (count_in slot is) some)

no_kind : (is : List Interval) (slot : ℕ) → count_in slot is ≡ 0
    → kinds_below is (slot + 1) ≡ kinds_below is slot
no_kind is slot none =
    let h : count_in slot is ≤ 0 = omega arith in
    let e : kinds_below is slot + 0 ≡ kinds_below is slot = omega arith in
    kinds_more is slot
    ∙ ap (λ (b : Bool). kinds_below is slot + one_if b) (le-ltb 0 (count_in slot is) h)
    ∙ e

none_more : (is : List Interval) (slot : ℕ) → count_in slot is ≡ 0
    → count_below is (slot + 1) ≡ count_below is slot
none_more is slot none = let e = below_more is slot in omega (arith, e, none)

pub stack : (height : ℕ) (is : List Interval) → 0 < length is → kinds_below is 19 ≤ height
    → IsStack height is
stack height is some high =
    let kinds : ℕ = kinds_below is 19 in
    let room : ℕ = height - kinds_below is 19 in
    record {
      bottom = ap₂ (λ (k c : ℕ). top k c (length is) room) (kinds_none is) (below_none is)
          ∙ top_none (length is) room;
      full = ap (λ (c : ℕ). top kinds c (length is) room) (below_all is)
          ∙ top_full kinds (length is) room some
          ∙ filled kinds height high;
      seen = λ slot occurs.
          subst (λ (k : ℕ). top (kinds_below is slot) (count_below is slot) (length is) room + 1
          ≤ top k (count_below is (slot + 1)) (length is) room)
          (sym (one_kind is slot occurs))
          (top_more (kinds_below is slot) (count_below is slot) (count_below is (slot + 1))
          (length is) room some (below_mono is slot));
      unseen = λ slot none.
          ap₂ (λ (k c : ℕ). top k c (length is) room) (no_kind is slot none)
          (none_more is slot none);
    }
