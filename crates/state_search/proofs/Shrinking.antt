-- What a part grew from is a part.
use Rattle.std.proofs.Common.{◌≡◌, ℕ, ◌+◌, ℤ, T, inl, inr, List, [], ◌∷◌, ◌++◌, sym, ap, subst, ◌∙◌}
use Rattle.std.specs.List.{Contains}
use Rattle.std.specs.Ordering.{int_cmp}
use Rattle.std.specs.FinMap.Entries.{is_sorted, below_all}
use Rattle.labels.specs.Labels.{same_labels}
use Rattle.labels.specs.Rows.{Row}
use Rattle.labels.specs.Parts.{Part, references, AreDistinct, IsPart}
use Rattle.labels.proofs.Lists.{here, there, Contains-cases, none_in_nil}
use Rattle.labels.proofs.Times.{both_T, first_T, second_T}
use Rattle.kept_world.specs.States.{numbered}
use Rattle.kept_world.specs.Births.{IsPartOf}
use Rattle.kept_world.proofs.Parts.{numbers_rise}

-- a row of the earlier rows, and what it has become
pub record Became (later : Part) (row : ℕ × Row) : Type 0 where
  pub now : ℕ × Row
  pub listed : Contains later now
  pub reference : now.0 ≡ row.0
  pub labels : now.1.0 ≡ row.1.0
  pub more : List (ℤ × ℤ)
  pub samples : now.1.1 ≡ row.1.1 ++ more

became : (n : ℕ) (xs ys : List Row) (row : ℕ × Row) → IsPartOf xs ys → Contains (numbered n xs) row → Became (numbered n ys) row
became n [] ys row h k = absurd (none_in_nil row k)
became n (x ∷ xs) [] row h k = absurd h
became n (x ∷ xs) (y ∷ ys) row h k = elim (Contains-cases (n, x) (numbered (n + 1) xs) row k) [
  | inl e ↦ record {
    now = (n, y);
    listed = here (n, y) (numbered (n + 1) ys);
    reference = ap (λ (r : ℕ × Row). r.0) e;
    labels = sym h.0 ∙ ap (λ (r : ℕ × Row). r.1.0) e;
    more = h.1.0;
    samples = h.1.1 ∙ ap (λ (r : ℕ × Row). r.1.1 ++ h.1.0) e;
  }
  | inr m ↦
      let w = became (n + 1) xs ys row h.2 m in
      record { now = w.now; listed = there (n, y) w.now (numbered (n + 1) ys) w.listed; reference = w.reference; labels = w.labels; more = w.more; samples = w.samples }
]

below_front : (x : ℤ) (xs ys : List (ℤ × ℤ)) → T (below_all int_cmp x (xs ++ ys)) → T (below_all int_cmp x xs)
below_front x [] ys h = tt
below_front x (s ∷ ss) ys h = both_T _ _ (first_T _ _ h) (below_front x ss ys (second_T _ _ h))

sorted_front : (xs ys : List (ℤ × ℤ)) → T (is_sorted int_cmp (xs ++ ys)) → T (is_sorted int_cmp xs)
sorted_front [] ys h = tt
sorted_front (s ∷ ss) ys h = both_T _ _ (below_front s.0 ss ys (first_T _ _ h)) (sorted_front ss ys (second_T _ _ h))

reference_stays : (n : ℕ) (xs ys : List Row) (r : ℕ) → IsPartOf xs ys → Contains (references (numbered n xs)) r → Contains (references (numbered n ys)) r
reference_stays n [] ys r h k = absurd (none_in_nil r k)
reference_stays n (x ∷ xs) [] r h k = absurd h
reference_stays n (x ∷ xs) (y ∷ ys) r h k = elim (Contains-cases n (references (numbered (n + 1) xs)) r k) [
  | inl e ↦ subst (λ (z : ℕ). Contains (references (numbered n (y ∷ ys))) z) e (here n (references (numbered (n + 1) ys)))
  | inr m ↦ there n r (references (numbered (n + 1) ys)) (reference_stays (n + 1) xs ys r h.2 m)
]

distinct_before : (n : ℕ) (xs ys : List Row) → IsPartOf xs ys → AreDistinct (numbered n ys) → AreDistinct (numbered n xs)
distinct_before n [] ys h k = tt
distinct_before n (x ∷ xs) [] h k = absurd h
distinct_before n (x ∷ xs) (y ∷ ys) h k = (
  λ other m.
      let w = became (n + 1) xs ys other h.2 m in
      ap (λ l. same_labels l other.1.0) h.0 ∙ ap (same_labels y.0) (sym w.labels) ∙ k.0 w.now w.listed,
  distinct_before (n + 1) xs ys h.2 k.1,
)

pub part_before : (xs ys : List Row) → IsPartOf xs ys → IsPart (numbered 1 ys) → IsPart (numbered 1 xs)
part_before xs ys h part = record {
  ascending = numbers_rise 1 xs;
  in_range = λ r k. part.in_range r (reference_stays 1 xs ys r h k);
  distinct = distinct_before 1 xs ys h part.distinct;
  times = λ row k.
      let w = became 1 xs ys row h k in
      sorted_front row.1.1 w.more (subst (λ (ss : List (ℤ × ℤ)). T (is_sorted int_cmp ss)) w.samples (part.times w.now w.listed));
}
