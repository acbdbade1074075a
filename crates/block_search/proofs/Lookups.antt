-- The rows that a certificate's matches stand for are those that are found.
use Rattle.std.proofs.Common.{◌≡◌, ℕ, ◌<◌, ℤ, Bool, true, false, cond, List, [], ◌∷◌, Option, None}
use Rattle.std.proofs.Common.{Some, length, map, refl, sym, ◌∙◌, ap, subst, arith, inl, inr, eq-eqb}
use Rattle.std.specs.Prelude.{nat_eq, option_map, is_some}
use Rattle.labels.proofs.Times.{true_not_false}
use Rattle.std.specs.List.{filter, filter_map, cons_option, Contains}
use Rattle.std.specs.List.Sorted.{IsStrictlyIncreasing}
use Rattle.std.proofs.lemmas.Bool.{ne_eqb}
use Rattle.std.proofs.lemmas.List.{length-map}
use Rattle.labels.specs.Labels.{Labels}
use Rattle.labels.specs.Rows.{Row}
use Rattle.labels.specs.Parts.{Part, references, references_of, row_at, labels_in, samples_within}
use Rattle.labels.proofs.Lists.{here, there, Contains-cases, none_in_nil, rising-head, rising-tail}
use Rattle.cover.specs.declared.certificate.Interval.{Interval}
use Rattle.cover.specs.Certificates.{is_match, matches_of}
use Rattle.block_search.specs.Answering.{row_within, row_of_interval}
use Rattle.block_search.proofs.Found.{answers, rows_found}

-- the rows of these references
abbrev pub rows_at : ℤ → ℤ → Part → List ℕ → List Row
rows_at from to part refs = filter_map (λ r. option_map (row_within from to) (row_at r part)) refs

contains_reference : (part : Part) (row : ℕ × Row) → Contains part row → Contains (references part)
    row.0
contains_reference [] row h = absurd (none_in_nil row h)
contains_reference (r ∷ rs) row h = elim (Contains-cases r rs row h) [
  | inl same ↦ subst (λ (x : ℕ × Row). Contains (r.0 ∷ references rs) x.0) same
      (here r.0 (references rs))
  | inr rest ↦ there r.0 row.0 (references rs) (contains_reference rs row rest)
]

differs : (a b : ℕ) → a < b → nat_eq a b ≡ false
differs a b h = ne_eqb a b (λ e. absurd (omega (arith, e, h)))

-- each row of a part stands under its reference
at_reference : (part : Part) (row : ℕ × Row) → IsStrictlyIncreasing (references part)
    → Contains part row → row_at row.0 part ≡ Some row.1
at_reference [] row rising h = absurd (none_in_nil row h)
at_reference (r ∷ rs) row rising h = elim (Contains-cases r rs row h) [
  | inl same ↦ subst (λ (x : ℕ × Row). row_at x.0 (r ∷ rs) ≡ Some x.1) same
      (ap (λ b. cond b (Some r.1) (row_at r.0 rs)) (eq-eqb r.0 r.0 refl))
  | inr rest ↦ ap (λ b. cond b (Some r.1) (row_at row.0 rs)) (differs r.0 row.0
      (rising-head r.0 (references rs) rising row.0 (contains_reference rs row rest)))
      ∙ at_reference rs row (rising-tail r.0 (references rs) rising) rest
]

module _ (sat : Labels → Bool) (from to : ℤ) (part : Part) where
  each_found : (rs : Part) → ((row : ℕ × Row) → Contains rs row → row_at row.0 part ≡ Some row.1)
      → rows_at from to part (references_of (answers sat from to) rs) ≡ rows_found sat from to rs
  each_found [] at = refl
  each_found (r ∷ rs) at =
      let rest = each_found rs (λ row h. at row (there r row rs h)) in
      elim (answers sat from to r) as (λ b. rows_at from to part (map (λ row. row.0)
      (cond b (r ∷ filter (answers sat from to) rs) (filter (answers sat from to) rs)))
      ≡ map (λ row. row_within from to row.1) (cond b (r ∷ filter (answers sat from to) rs)
      (filter (answers sat from to) rs))) [
        | true ↦ rw (at r (here r rs)) (ap (λ rows. row_within from to r.1 ∷ rows) rest)
        | false ↦ rest
      ]

  matches_at : (certificate : List Interval) → filter_map (row_of_interval from to part) certificate
      ≡ rows_at from to part (matches_of certificate)
  matches_at [] = refl
  matches_at (i ∷ is) =
      let rest = matches_at is in
      let row = option_map (row_within from to) (row_at i.from part) in
      let others = filter (λ (j : Interval). is_match j.verdict) is in
      elim (is_match i.verdict) as (λ b. cons_option (cond b row None) (filter_map
      (row_of_interval from to part) is)
      ≡ rows_at from to part (map (λ (j : Interval). j.from) (cond b (i ∷ others) others))) [
        | true ↦ ap (cons_option row) rest
        | false ↦ rest
      ]

  -- the rows of a certificate that matches exactly those that answer
  pub rows_matched : (certificate : List Interval) → IsStrictlyIncreasing (references part)
      → matches_of certificate ≡ references_of (answers sat from to) part
      → filter_map (row_of_interval from to part) certificate ≡ rows_found sat from to part
  rows_matched certificate rising exact = matches_at certificate ∙ ap (rows_at from to part) exact
      ∙ each_found part (λ row h. at_reference part row rising h)

  -- as many as match
  pub length-found : length (rows_found sat from to part)
      ≡ length (references_of (answers sat from to) part)
  length-found = length-map (filter (answers sat from to) part) (λ row. row_within from to row.1)
      ∙ sym (length-map (filter (answers sat from to) part) (λ row. row.0))

not_some : (labels : Labels) → Some labels ≡ None → ⊥
not_some labels e = true_not_false (ap is_some e)

-- the label set and the samples of a row, if there is one, are the row
pub row_of_both : (from to : ℤ) (o : Option Row) (labels : Labels) (samples : List (ℤ × ℤ))
    → labels_in o ≡ Some labels → samples ≡ samples_within from to o
    → Some (labels, samples) ≡ option_map (row_within from to) o
row_of_both from to None labels samples known within = absurd (not_some labels (sym known))
row_of_both from to (Some row) labels samples known within =
    ap (λ (ss : List (ℤ × ℤ)). Some (labels, ss)) within
    ∙ ap (option_map (λ (l : Labels). (l, samples_within from to (Some row)))) (sym known)
