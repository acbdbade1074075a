-- The rows of a part that pass a test, and the references at which they stand.
use Rattle.std.proofs.Common.{◌≡◌, ℕ, Bool, true, false, cond, not, ◌&&◌, ◌⊎◌, inl, inr, List, [], ◌∷◌, map, refl, sym, ◌∙◌, ap, subst}
use Rattle.std.specs.List.{Contains, filter}
use Rattle.std.specs.Str.{bytes_eq}
use Rattle.std.specs.List.Sorted.{IsStrictlyIncreasing}
use Rattle.labels.specs.Labels.{Labels}
use Rattle.labels.specs.Rows.{Row}
use Rattle.labels.specs.Parts.{Part, references, references_of, references_where}
use Rattle.labels.proofs.Lists.{here, there, Contains-cases, none_in_nil, rising-tail, rising-head, rising-cons}
use Rattle.labels.proofs.Texts.{bytes_self}
use Rattle.labels.proofs.Times.{true_not_false}

-- what the rows that pass stand at, all rows do
pub kept_in : (keep : ℕ × Row → Bool) (part : Part) (r : ℕ) → Contains (references_of keep part) r → Contains (references part) r
kept_in keep [] r c = absurd (none_in_nil r c)
kept_in keep (row ∷ rows) r c = go (keep row) (kept_in keep rows r) c
  where
    go : (b : Bool) → (Contains (references_of keep rows) r → Contains (references rows) r) → Contains (map (λ (x : ℕ × Row). x.0) (cond b (row ∷ filter keep rows) (filter keep rows))) r → Contains (references (row ∷ rows)) r
    go true ih d = elim (Contains-cases row.0 (references_of keep rows) r d) [
      | inl e ↦ subst (λ (z : ℕ). Contains (references (row ∷ rows)) z) e (here row.0 (references rows))
      | inr m ↦ there row.0 r (references rows) (ih m)
    ]
    go false ih d = there row.0 r (references rows) (ih d)

pub kept_rises : (keep : ℕ × Row → Bool) (part : Part) → IsStrictlyIncreasing (references part) → IsStrictlyIncreasing (references_of keep part)
kept_rises keep [] h = h
kept_rises keep (row ∷ rows) h =
    let ih : IsStrictlyIncreasing (references_of keep rows) = kept_rises keep rows (rising-tail row.0 (references rows) h) in
    elim (keep row) as (λ b. IsStrictlyIncreasing (map (λ (x : ℕ × Row). x.0) (cond b (row ∷ filter keep rows) (filter keep rows)))) [
      | true ↦ rising-cons row.0 (references_of keep rows) (λ s c. rising-head row.0 (references rows) h s (kept_in keep rows s c)) ih
      | false ↦ ih
    ]

-- a part that lists a reference has a row for it
pub some_row : (test : Labels → Bool) (part : Part) → (references_where test part ≡ [] → ⊥) → (row : ℕ × Row) × (Contains part row × (test row.1.0 ≡ true))
some_row test [] h = absurd (h refl)
some_row test (x ∷ xs) h = go (test x.1.0) refl (some_row test xs)
  where
    go : (b : Bool) → test x.1.0 ≡ b → ((references_where test xs ≡ [] → ⊥) → (row : ℕ × Row) × (Contains xs row × (test row.1.0 ≡ true))) → (row : ℕ × Row) × (Contains (x ∷ xs) row × (test row.1.0 ≡ true))
    go true q ih = (x, (here x xs, q))
    go false q ih =
        let r = ih (λ e. h (ap (λ b. map (λ (y : ℕ × Row). y.0) (cond b (x ∷ filter (λ (y : ℕ × Row). test y.1.0) xs) (filter (λ (y : ℕ × Row). test y.1.0) xs))) q ∙ e)) in
        (r.0, (there x r.0 xs r.1.0, r.1.1))

-- a row that passes stands at a reference that is listed
pub row_kept : (test : Labels → Bool) (part : Part) (row : ℕ × Row) → Contains part row → test row.1.0 ≡ true → references_where test part ≡ [] → ⊥
row_kept test [] row c t e = none_in_nil row c
row_kept test (x ∷ xs) row c t e = go (test x.1.0) refl (row_kept test xs row) (Contains-cases x xs row c) e
  where
    go : (b : Bool) → test x.1.0 ≡ b → (Contains xs row → test row.1.0 ≡ true → references_where test xs ≡ [] → ⊥) → (x ≡ row) ⊎ Contains xs row
        → map (λ (y : ℕ × Row). y.0) (cond b (x ∷ filter (λ (y : ℕ × Row). test y.1.0) xs) (filter (λ (y : ℕ × Row). test y.1.0) xs)) ≡ [] → ⊥
    go true q ih at none = cc
    go false q ih (inl same) none = true_not_false (sym t ∙ ap (λ (y : ℕ × Row). test y.1.0) (sym same) ∙ q)
    go false q ih (inr d) none = ih d t none

-- a series with a value that is not empty carries it
pub carried_itself : (v : List ℕ) → bytes_eq v [] ≡ false → (not (bytes_eq v []) && bytes_eq v v) ≡ true
carried_itself v e = ap (λ b. not b && bytes_eq v v) e ∙ bytes_self v
