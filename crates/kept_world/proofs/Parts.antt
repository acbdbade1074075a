-- Parts: what is struck of one, and rows that are numbered.
use Rattle.std.proofs.Common.{◌≡◌, ℕ, zero, suc, ◌+◌, ◌<◌, ◌≤◌, ℤ, Bool, true, false, not, T, inl, inr, List, [], ◌∷◌, ◌++◌, Option, Some, None, length, map, filter, refl, sym, ap, subst, ◌∙◌, arith}
use Rattle.std.specs.Prelude.{if◌then◌else◌}
use Rattle.std.proofs.lemmas.List.{map-append}
use Rattle.std.specs.List.{AllByRecursion, Contains}
use Rattle.std.specs.List.Sorted.{IsStrictlyIncreasing}
use Rattle.std.specs.Ordering.{int_cmp}
use Rattle.std.specs.FinMap.Entries.{is_sorted, is_sorted-where_key}
use Rattle.labels.specs.Labels.{Labels, same_labels}
use Rattle.labels.specs.Contents.{in_range}
use Rattle.labels.specs.Rows.{Row}
use Rattle.labels.specs.Parts.{Part, references, AreDistinct, IsPart}
use Rattle.labels.proofs.Lists.{here, there, Contains-cases, none_in_nil, rising-cons}
use Rattle.kept_world.specs.States.{numbered, struck_row, struck_part, max_series}
use Rattle.kept_world.specs.Sound.{AreApart, IsAscending, place_in, next_place}

-- STRUCK PARTS

struck-reference : (sat : Labels → Bool) (from to : ℤ) (r : ℕ × Row) → (struck_row sat from to r).0 ≡ r.0
struck-reference sat from to r = elim (sat r.1.0) as (λ b. (if b then (r.0, (r.1.0, filter (λ (s : ℤ × ℤ). not (in_range from to s.0)) r.1.1)) else r).0 ≡ r.0) [ true ↦ refl | false ↦ refl ]

struck-labels : (sat : Labels → Bool) (from to : ℤ) (r : ℕ × Row) → (struck_row sat from to r).1.0 ≡ r.1.0
struck-labels sat from to r = elim (sat r.1.0) as (λ b. (if b then (r.0, (r.1.0, filter (λ (s : ℤ × ℤ). not (in_range from to s.0)) r.1.1)) else r).1.0 ≡ r.1.0) [ true ↦ refl | false ↦ refl ]

struck-times : (sat : Labels → Bool) (from to : ℤ) (r : ℕ × Row) → T (is_sorted int_cmp r.1.1) → T (is_sorted int_cmp (struck_row sat from to r).1.1)
struck-times sat from to r h = elim (sat r.1.0) as (λ b. T (is_sorted int_cmp (if b then (r.0, (r.1.0, filter (λ (s : ℤ × ℤ). not (in_range from to s.0)) r.1.1)) else r).1.1)) [
  | true ↦ is_sorted-where_key int_cmp (λ t. not (in_range from to t)) r.1.1 h
  | false ↦ h
]

struck-references : (sat : Labels → Bool) (from to : ℤ) (part : Part) → references (struck_part sat from to part) ≡ references part
struck-references sat from to [] = refl
struck-references sat from to (r ∷ rs) = (λ i. struck-reference sat from to r i ∷ struck-references sat from to rs i)

-- a struck row is one of the rows, struck
struck_from : (sat : Labels → Bool) (from to : ℤ) (part : Part) (other : ℕ × Row) → Contains (struck_part sat from to part) other → (r : ℕ × Row) × (Contains part r × (struck_row sat from to r ≡ other))
struck_from sat from to [] other h = absurd (none_in_nil other h)
struck_from sat from to (r ∷ rs) other h = elim (Contains-cases (struck_row sat from to r) (struck_part sat from to rs) other h) [
  | inl e ↦ (r, (here r rs, e))
  | inr k ↦ let w = struck_from sat from to rs other k in (w.0, (there r w.0 rs w.1.0, w.1.1))
]

struck-distinct : (sat : Labels → Bool) (from to : ℤ) (part : Part) → AreDistinct part → AreDistinct (struck_part sat from to part)
struck-distinct sat from to [] h = tt
struck-distinct sat from to (r ∷ rs) h = (
  λ other k.
      let w = struck_from sat from to rs other k in
      ap (λ l. same_labels l other.1.0) (struck-labels sat from to r)
      ∙ ap (λ (x : ℕ × Row). same_labels r.1.0 x.1.0) (sym w.1.1)
      ∙ ap (same_labels r.1.0) (struck-labels sat from to w.0)
      ∙ h.0 w.0 w.1.0,
  struck-distinct sat from to rs h.1,
)

-- what is left of a part is one
pub part_struck : (sat : Labels → Bool) (from to : ℤ) (part : Part) → IsPart part → IsPart (struck_part sat from to part)
part_struck sat from to part h =
    let same = struck-references sat from to part in
    record {
      ascending = subst IsStrictlyIncreasing (sym same) h.ascending;
      in_range = λ r k. h.in_range r (subst (λ (rs : List ℕ). Contains rs r) same k);
      distinct = struck-distinct sat from to part h.distinct;
      times = λ row k.
          let w = struck_from sat from to part row k in
          subst (λ (x : ℕ × Row). T (is_sorted int_cmp x.1.1)) w.1.1 (struck-times sat from to w.0 (h.times w.0 w.1.0));
    }

-- NUMBERED ROWS

-- a reference is from the first number on, and below the number behind the last
number_from : (n : ℕ) (rows : List Row) (r : ℕ) → Contains (references (numbered n rows)) r → (n ≤ r) × (r < n + length rows)
number_from n [] r h = absurd (none_in_nil r h)
number_from n (x ∷ xs) r h = elim (Contains-cases n (references (numbered (n + 1) xs)) r h) [
  | inl e ↦ (omega (arith, e), omega (arith, e))
  | inr k ↦ let w = number_from (n + 1) xs r k in let a : n + 1 ≤ r = w.0 in let b : r < n + 1 + length xs = w.1 in (omega (arith, a), omega (arith, b))
]

pub numbers_rise : (n : ℕ) (rows : List Row) → IsStrictlyIncreasing (references (numbered n rows))
numbers_rise n [] = λ k l. absurd (omega (arith, l))
numbers_rise n (x ∷ xs) = rising-cons n (references (numbered (n + 1) xs)) (λ s c. let w : n + 1 ≤ s = (number_from (n + 1) xs s c).0 in omega (arith, w)) (numbers_rise (n + 1) xs)

row_from : (n : ℕ) (rows : List Row) (other : ℕ × Row) → Contains (numbered n rows) other → Contains rows other.1
row_from n [] other h = absurd (none_in_nil other h)
row_from n (x ∷ xs) other h = elim (Contains-cases (n, x) (numbered (n + 1) xs) other h) [
  | inl e ↦ subst (λ (z : ℕ × Row). Contains (x ∷ xs) z.1) e (here x xs)
  | inr k ↦ there x other.1 xs (row_from (n + 1) xs other k)
]

none_next : (o : Option ℕ) → next_place o ≡ None → o ≡ None
none_next None h = refl
none_next (Some i) h = absurd (let z : Some (suc i) ≡ None = h in cc)

-- a label set that has no place is another than each
pub other_than : (l : Labels) (rows : List Row) (r : Row) → place_in l (map (λ (x : Row). x.0) rows) ≡ None → Contains rows r → same_labels l r.0 ≡ false
other_than l [] r p h = absurd (none_in_nil r h)
other_than l (x ∷ xs) r p h =
    elim (same_labels l x.0) as (λ b. same_labels l x.0 ≡ b → (if b then Some zero else next_place (place_in l (map (λ (y : Row). y.0) xs))) ≡ None → same_labels l r.0 ≡ false) [
      | true ↦ λ e q. absurd (let z : Some zero ≡ None = q in cc)
      | false ↦ λ e q. elim (Contains-cases x xs r h) [
        | inl s ↦ ap (λ (y : Row). same_labels l y.0) (sym s) ∙ e
        | inr k ↦ other_than l xs r (none_next (place_in l (map (λ (y : Row). y.0) xs)) q) k
      ]
    ] refl p

apart_distinct : (n : ℕ) (rows : List Row) → AreApart (map (λ (r : Row). r.0) rows) → AreDistinct (numbered n rows)
apart_distinct n [] h = tt
apart_distinct n (x ∷ xs) h =
    (λ other k. other_than x.0 xs other.1 h.0 (row_from (n + 1) xs other k), apart_distinct (n + 1) xs h.1)

all_from : {A : Type 0} (P : A → Type 0) (xs : List A) (x : A) → AllByRecursion P xs → Contains xs x → P x
all_from P [] x h k = absurd (none_in_nil x k)
all_from P (y ∷ ys) x h k = elim (Contains-cases y ys x k) [
  | inl e ↦ subst P e h.0
  | inr m ↦ all_from P ys x h.1 m
]

-- rows of different label sets whose times ascend, numbered from 1, are a part
pub part_numbered : (rows : List Row) → length rows ≤ max_series → AreApart (map (λ (r : Row). r.0) rows) → AllByRecursion IsAscending rows → IsPart (numbered 1 rows)
part_numbered rows few apart ascending = record {
  ascending = numbers_rise 1 rows;
  in_range = λ r k. let w : r < 1 + length rows = (number_from 1 rows r k).1 in omega (arith, w, few);
  distinct = apart_distinct 1 rows apart;
  times = λ row k. all_from IsAscending rows row.1 ascending (row_from 1 rows row k);
}

pub numbered-append : (n : ℕ) (rows : List Row) (r : Row) → numbered n (rows ++ r ∷ []) ≡ numbered n rows ++ (n + length rows, r) ∷ []
numbered-append n [] r = ap (λ (m : ℕ). (m, r) ∷ []) (let e : n ≡ n + 0 = omega arith in e)
numbered-append n (x ∷ xs) r =
    ap (λ l. (n, x) ∷ l) (numbered-append (n + 1) xs r ∙ ap (λ (m : ℕ). numbered (n + 1) xs ++ (m, r) ∷ []) (let e : n + 1 + length xs ≡ n + suc (length xs) = omega arith in e))

pub numbered_more : (part : Part) (n : ℕ) (r : Row) → n ≡ length part + 1 → part ≡ numbered 1 (map (λ (x : ℕ × Row). x.1) part) → AllByRecursion IsAscending (map (λ (x : ℕ × Row). x.1) part) → IsAscending r →
    (part ++ (n, r) ∷ [] ≡ numbered 1 (map (λ (x : ℕ × Row). x.1) (part ++ (n, r) ∷ []))) × AllByRecursion IsAscending (map (λ (x : ℕ × Row). x.1) (part ++ (n, r) ∷ []))
numbered_more part n r at is all one =
    let rows = map (λ (x : ℕ × Row). x.1) part in
    let split : map (λ (x : ℕ × Row). x.1) (part ++ (n, r) ∷ []) ≡ rows ++ r ∷ [] = map-append (λ (x : ℕ × Row). x.1) part ((n, r) ∷ []) in
    let many = length-rows part in
    let number : n ≡ 1 + length rows = omega (arith, at, many) in (
      (λ i. is i ++ (number i, r) ∷ []) ∙ sym (numbered-append 1 rows r) ∙ ap (numbered 1) (sym split),
      subst (AllByRecursion IsAscending) (sym split) (all-append rows r all one),
    )
  where
    length-rows : (xs : Part) → length (map (λ (x : ℕ × Row). x.1) xs) ≡ length xs
    length-rows [] = refl
    length-rows (x ∷ xs) = ap suc (length-rows xs)

    all-append : (xs : List Row) (y : Row) → AllByRecursion IsAscending xs → IsAscending y → AllByRecursion IsAscending (xs ++ y ∷ [])
    all-append [] y h k = (k, tt)
    all-append (x ∷ xs) y h k = (h.0, all-append xs y h.1 k)
