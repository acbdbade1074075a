-- The series of a head, one reference after another.
use Rattle.std.proofs.Common.{◌≡◌, ◌≤◌, ◌<◌, ◌+◌, ◌-◌, ℕ, zero, suc, ℤ, true, false, cond, List, [], ◌∷◌, ◌++◌, length, map, take, refl, sym, ◌∙◌, ap, arith}
use Rattle.std.specs.Prelude.{Option, None, Some, nat_eq, is_some}
use Rattle.std.proofs.lemmas.List.{take_all, map_push}
use Rattle.std.proofs.lemmas.Bool.Decides.{nat_tests}
use Rattle.labels.specs.Labels.{Labels}
use Rattle.labels.specs.Rows.{Row}
use Rattle.labels.specs.Parts.{Part, row_at, labels_in, within, samples_within}
use Rattle.labels.proofs.Times.{true_not_false}
use Rattle.matchers.specs.Views.{QueryView}
use Rattle.block.specs.Blocks.{Shown}
use Rattle.head.specs.Blocks.{part_in}
use Rattle.head.specs.Heads.{HeadSeries, numbered, head_part}
use Rattle.head.proofs.PartLaws.{length-numbered}
use Rattle.history.specs.Asking.{part_within}

first_equal : (n : ℕ) → nat_eq n (n + 0) ≡ true
first_equal n = grind (arith, nat_tests)

later_unequal : (n k : ℕ) → nat_eq n (n + suc k) ≡ false
later_unequal n k = grind (arith, nat_tests)

one_on : (n k : ℕ) → n + suc k ≡ (n + 1) + k
one_on n k = omega arith

pub no_some : {X : Type 0} (x : X) → None ≡ Some x → ⊥
no_some x e = true_not_false (sym (ap is_some e))

-- the row of a reference stands at its place
row_found : (n k : ℕ) (hs : List HeadSeries) (row : Row) → row_at (n + k) (numbered n hs) ≡ Some row
    → (k < length hs) × (take (suc k) (numbered n hs) ≡ take k (numbered n hs) ++ (n + k, row) ∷ [])
row_found n k [] row e = absurd (no_some row e)
row_found n zero (h ∷ hs) row e =
    let is : Some (h.labels, h.samples) ≡ Some row = sym (ap (λ b. cond b (Some (
      h.labels,
      h.samples,
    )) (row_at (n + 0) (numbered (n + 1) hs))) (first_equal n))
    ∙ e in
    let n_is : n ≡ n + 0 = omega arith in
    let same : (h.labels, h.samples) ≡ row = cc in
    (omega arith, λ i. (n_is i, same i) ∷ [])
row_found n (suc k) (h ∷ hs) row e =
    let later : row_at (n + suc k) (numbered (n + 1) hs) ≡ Some row = sym (ap (λ b. cond b (Some (
      h.labels,
      h.samples,
    )) (row_at (n + suc k) (numbered (n + 1) hs))) (later_unequal n k))
    ∙ e in
    let rest =
    row_found (n + 1) k hs row
    (ap (λ r. row_at r (numbered (n + 1) hs)) (sym (one_on n k)) ∙ later) in
    let inside = rest.0 in (
      omega arith,
      ap (λ (part : Part). (n, (h.labels, h.samples)) ∷ part) (rest.1
          ∙ ap (λ r. take k (numbered (n + 1) hs) ++ (r, row) ∷ []) (sym (one_on n k))),
    )

-- a reference without a row is past the last
row_none : (n k : ℕ) (hs : List HeadSeries) → row_at (n + k) (numbered n hs) ≡ None → length hs ≤ k
row_none n k [] e = omega arith
row_none n zero (h ∷ hs) e =
    absurd (no_some (h.labels, h.samples) (sym e
    ∙ ap (λ b. cond b (Some (h.labels, h.samples)) (row_at (n + 0) (numbered (n + 1) hs)))
    (first_equal n)))
row_none n (suc k) (h ∷ hs) e =
    let rest = row_none (n + 1) k hs (ap (λ r. row_at r (numbered (n + 1) hs)) (sym (one_on n k))
    ∙ sym (ap (λ b. cond b (Some (h.labels, h.samples)) (row_at (n + suc k) (numbered (n + 1) hs)))
    (later_unequal n k))
    ∙ e) in
    omega arith

-- the series before the number are listed
pub record AreListed (q : QueryView) (hs : List HeadSeries) (number : ℕ)
    (part : Part) : Type 0 where
  pub listed : part ≡ part_within q (take (number - 1) (head_part hs))
  pub from : 1 ≤ number
  pub upto : number ≤ length hs + 1

module _ (q : QueryView) (hs : List HeadSeries) where
  listed_row : (k : ℕ) (o : Option Row) (labels : Labels) (ss : List (ℤ × ℤ))
      → row_at (1 + k) (head_part hs) ≡ o → labels_in o ≡ Some labels
      → ss ≡ samples_within q.from q.to o
      → (k < length hs) × (part_within q (take k (head_part hs)) ++ (
        1 + k,
        (labels, ss),
      ) ∷ [] ≡ part_within q (take (suc k) (head_part hs)))
  listed_row k None labels ss is named found = absurd (no_some labels named)
  listed_row k (Some row) labels ss is named found =
      let at = row_found 1 k hs row is in
      let same : row.0 ≡ labels = cc in (
        at.0,
        (λ i. part_within q (take k (head_part hs)) ++ (1 + k, (sym same i, found i)) ∷ [])
            ∙ sym (map_push (λ (x : ℕ × Row). (
              x.0,
              (x.1.0, within q.from q.to x.1.1),
            )) (take k (head_part hs)) (1 + k, row))
            ∙ ap (part_within q) (sym at.1),
      )

  pub listed_step : (number r : ℕ) (labels own : Labels) (ss : List (ℤ × ℤ)) (old new : Part)
      → r ≡ number → labels_in (row_at r (head_part hs)) ≡ Some labels → own ≡ labels
      → ss ≡ samples_within q.from q.to (row_at r (head_part hs)) → new ≡ old ++ (r, (own, ss)) ∷ []
      → AreListed q hs number old → AreListed q hs (number + 1) new
  listed_step number r labels own ss old new is named same found pushed before =
      let from = before.from in
      let k_is : 1 + (number - 1) ≡ number = omega arith in
      let suc_is : suc (number - 1) ≡ (number + 1) - 1 = omega arith in
      let r_is : r ≡ 1 + (number - 1) = is ∙ sym k_is in
      let row = listed_row (number - 1) (row_at (1 + (number - 1)) (head_part hs)) labels ss refl
      (ap (λ x. labels_in (row_at x (head_part hs))) (sym r_is) ∙ named)
      (found ∙ ap (λ x. samples_within q.from q.to (row_at x (head_part hs))) r_is) in
      let inside = row.0 in
      record {
        listed =
            pushed
            ∙ (λ i. before.listed i ++ (r_is i, (same i, ss)) ∷ [])
            ∙ row.1
            ∙ ap (λ k. part_within q (take k (head_part hs))) suc_is;
        from = omega arith;
        upto = omega arith;
      }

  pub listed_all : (number r : ℕ) (part : Part) → r ≡ number → row_at r (head_part hs) ≡ None
      → AreListed q hs number part → part ≡ part_within q (head_part hs)
  listed_all number r part is none before =
      let from = before.from in
      let k_is : number ≡ 1 + (number - 1) = omega arith in
      let past =
      row_none 1 (number - 1) hs (ap (λ x. row_at x (head_part hs)) (sym (is ∙ k_is)) ∙ none) in
      before.listed
      ∙ ap (part_within q)
      (take_all (number - 1) (head_part hs) (let size = length-numbered 1 hs in omega arith))

-- the parts of blocks
pub parts_in_blocks : (blocks : List Shown)
    → map (λ b. b.part) (map part_in blocks) ≡ map (λ b. b.part) blocks
parts_in_blocks [] = refl
parts_in_blocks (b ∷ bs) = ap (λ (parts : List Part). b.part ∷ parts) (parts_in_blocks bs)
