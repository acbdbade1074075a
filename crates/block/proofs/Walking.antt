-- The rows of a part that pass a test, from a place on.
use Rattle.std.proofs.Common.{◌≡◌, ℕ, zero, suc, ◌+◌, ◌-◌, ◌<◌, ◌≤◌, ℤ, Bool, true, false, cond}
use Rattle.std.proofs.Common.{inl, inr, List, [], ◌∷◌, length, map, drop, get_or, Some, refl, sym}
use Rattle.std.proofs.Common.{◌∙◌, ap, subst, arith}
use Rattle.std.specs.Prelude.{nat_le, slice_get}
use Rattle.std.specs.List.{Contains, filter}
use Rattle.std.specs.List.Sorted.{IsStrictlyIncreasing}
use Rattle.std.proofs.lemmas.List.{drop_more, drop_all, drop-drop, get_or-drop, length-drop}
use Rattle.std.proofs.lemmas.Option.{slice_get-get_or}
use Rattle.std.proofs.lemmas.Bool.Decides.{nat_tests}
use Rattle.labels.specs.Ascending.{first_of, rest_of, not_below}
use Rattle.labels.specs.Rows.{Row}
use Rattle.labels.specs.Parts.{Part, references, references_of, live_references, has_sample}
use Rattle.labels.proofs.Lists.{first_in, Contains-cases, rising-head, rising-tail, filter-all}
use Rattle.labels.proofs.PartRows.{kept_in}
use Rattle.block.specs.ListLaws.{rises_from}
use Rattle.block.proofs.Places.{first_at}

pub refs_drop : (part : Part) (i : ℕ) → references (drop i part) ≡ drop i (references part)
refs_drop part zero = refl
refs_drop [] (suc i) = refl
refs_drop (row ∷ rows) (suc i) = refs_drop rows i

-- some row, which a place inside shows that there is
one : (part : Part) (i : ℕ) → i < length part → ℕ × Row
one [] i l = absurd (omega (arith, l))
one (row ∷ rows) i l = row

module _ (keep : ℕ × Row → Bool) where
  passed : (part : Part) (i : ℕ) (d : ℕ × Row) → i < length part → keep (get_or part i d) ≡ false
      → references_of keep (drop (i + 1) part) ≡ references_of keep (drop i part)
  passed part i d l e =
      sym (ap (references_of keep) (drop_more part i d l)
      ∙ ap (λ b. map (λ (x : ℕ × Row). x.0) (cond b
      (get_or part i d ∷ filter keep (drop (i + 1) part)) (filter keep (drop (i + 1) part)))) e)

  settled_here : (part : Part) (i : ℕ) (d : ℕ × Row) → i < length part
      → keep (get_or part i d) ≡ true
      → first_of (references_of keep (drop i part)) ≡ first_of (references (drop i part))
  settled_here part i d l e =
      ap (λ p. first_of (references_of keep p)) (drop_more part i d l)
      ∙ ap (λ b. first_of (map (λ (x : ℕ × Row). x.0) (cond b
      (get_or part i d ∷ filter keep (drop (i + 1) part)) (filter keep (drop (i + 1) part))))) e
      ∙ sym (ap (λ p. first_of (references p)) (drop_more part i d l))

  settled_end : (part : Part) (i : ℕ) → length part ≤ i
      → first_of (references_of keep (drop i part)) ≡ first_of (references (drop i part))
  settled_end part i l =
      ap (λ p. first_of (references_of keep p)) (drop_all i part l)
      ∙ sym (ap (λ p. first_of (references p)) (drop_all i part l))

  rest_here : (row : ℕ × Row) (rows : Part) → IsStrictlyIncreasing (references (row ∷ rows))
      → first_of (references_of keep (row ∷ rows)) ≡ Some row.0
      → references_of keep rows ≡ rest_of (references_of keep (row ∷ rows))
  rest_here row rows up settled = go (keep row) settled
    where
      go : (b : Bool) → first_of (map (λ (x : ℕ × Row). x.0)
          (cond b (row ∷ filter keep rows) (filter keep rows))) ≡ Some row.0
          → references_of keep rows ≡ rest_of (map (λ (x : ℕ × Row). x.0)
          (cond b (row ∷ filter keep rows) (filter keep rows)))
      go true f = refl
      go false f = absurd (
          let c : Contains (references rows) row.0 =
          kept_in keep rows row.0 (first_in (references_of keep rows) row.0 f) in
          let lt : row.0 < row.0 = rising-head row.0 (references rows) up row.0 c in
          omega arith)

  -- the list less its first, where that is the first of all
  pub rest_at : (part : Part) (i : ℕ) → i < length part → IsStrictlyIncreasing (references part)
      → first_of (references_of keep (drop i part)) ≡ first_of (references (drop i part))
      → references_of keep (drop (i + 1) part) ≡ rest_of (references_of keep (drop i part))
  rest_at part i l up settled =
      let d = one part i l in
      let e : drop i part ≡ get_or part i d ∷ drop (i + 1) part = drop_more part i d l in
      rest_here (get_or part i d) (drop (i + 1) part)
      (subst (λ (p : Part). IsStrictlyIncreasing (references p)) e (rises_from part i up))
      (ap (λ (p : Part). first_of (references_of keep p)) (sym e)
      ∙ settled
      ∙ ap (λ (p : Part). first_of (references p)) e)
      ∙ ap (λ (p : Part). rest_of (references_of keep p)) (sym e)

  -- the rows that pass, from a reference on
  sought_in : (t n : ℕ) (rows : Part) → IsStrictlyIncreasing (references rows) → n ≤ length rows
      → ((k : ℕ) → k < n → get_or (references rows) k 0 < t)
      → (n < length rows → t ≤ get_or (references rows) n 0)
      → references_of keep (drop n rows) ≡ not_below t (references_of keep rows)
  sought_in t zero [] up fits below above = refl
  sought_in t (suc n) [] up fits below above = absurd (omega (arith, fits))
  sought_in t zero (row ∷ rows) up fits below above =
      let first : t ≤ row.0 = above (omega arith) in
      sym (filter-all (λ r. nat_le t r) (references_of keep (row ∷ rows)) (λ r c.
      elim (Contains-cases row.0 (references rows) r (kept_in keep (row ∷ rows) r c)) [
        | inl e ↦ grind (arith, nat_tests)
        | inr m ↦
            let lt : row.0 < r = rising-head row.0 (references rows) up r m in
            grind (arith, nat_tests)
      ]))
  sought_in t (suc n) (row ∷ rows) up fits below above =
      sought_in t n rows (rising-tail row.0 (references rows) up) (omega (arith, fits))
      (λ k l. below (suc k) (omega (arith, l))) (λ l. above (omega (arith, l)))
      ∙ sym (past (keep row))
    where
      test : nat_le t row.0 ≡ false
      test = let lt : row.0 < t = below zero (omega arith) in grind (arith, nat_tests)

      past : (b : Bool) → not_below t
          (map (λ (x : ℕ × Row). x.0) (cond b (row ∷ filter keep rows) (filter keep rows)))
          ≡ not_below t (references_of keep rows)
      past true =
          ap (λ c. cond c (row.0 ∷ not_below t (references_of keep rows))
          (not_below t (references_of keep rows))) test
      past false = refl

  pub sought : (part : Part) (i j t : ℕ) → IsStrictlyIncreasing (references part) → i ≤ j
      → j ≤ length part → ((k : ℕ) → i ≤ k → k < j → get_or (references part) k 0 < t)
      → (j < length part → t ≤ get_or (references part) j 0)
      → references_of keep (drop j part) ≡ not_below t (references_of keep (drop i part))
  sought part i j t up le fits below above =
      let n = j - i in
      let e : i + n ≡ j = omega arith in
      let same : drop n (drop i part) ≡ drop j part =
      drop-drop n i part ∙ ap (λ (k : ℕ). drop k part) e in
      let size = length-drop i part in
      ap (references_of keep) (sym same)
      ∙ sought_in t n (drop i part) (rises_from part i up) (omega arith)
      (λ k l.
      subst (λ (r : ℕ). r < t) (sym (at k)) (below (i + k) (omega arith) (omega (arith, l))))
      (λ l. subst (λ (r : ℕ). t ≤ r) (sym (at n))
      (subst (λ (m : ℕ). t ≤ get_or (references part) m 0) (sym e) (above (omega (arith, l)))))
    where
      at : (k : ℕ) → get_or (references (drop i part)) k 0 ≡ get_or (references part) (i + k) 0
      at k =
          ap (λ (rs : List ℕ). get_or rs k 0) (refs_drop part i)
          ∙ get_or-drop i (references part) k 0

module _ (from to : ℤ) (part : Part) where
  abbrev is_live : ℕ × Row → Bool
  is_live row = has_sample from to row.1.1

  pub step_over : (i : ℕ) (b : Bool) → i < length part
      → ((row : ℕ × Row) → slice_get part i ≡ Some row → b ≡ has_sample from to row.1.1) → b ≡ false
      → live_references from to (drop (i + 1) part) ≡ live_references from to (drop i part)
  step_over i b l is e =
      let d = one part i l in
      passed is_live part i d l (sym (is (get_or part i d) (slice_get-get_or part i d l)) ∙ e)

  pub stops_at : (i : ℕ) (b : Bool) → i < length part
      → ((row : ℕ × Row) → slice_get part i ≡ Some row → b ≡ has_sample from to row.1.1) → b ≡ true
      → first_of (live_references from to (drop i part)) ≡ first_of (references (drop i part))
  stops_at i b l is e =
      let d = one part i l in
      settled_here is_live part i d l (sym (is (get_or part i d) (slice_get-get_or part i d l)) ∙ e)

  pub stops_end : (i : ℕ) → length part ≤ i
      → first_of (live_references from to (drop i part)) ≡ first_of (references (drop i part))
  stops_end i l = settled_end is_live part i l

-- the first of what remains, by its place
pub head_is : (part : Part) (i r : ℕ) → slice_get (references part) i ≡ Some r
    → first_of (references (drop i part)) ≡ Some r
head_is part i r h = ap first_of (refs_drop part i) ∙ first_at (references part) i ∙ h
