-- The series that a deletion strikes, and what is left of them.
use Rattle.std.proofs.Common.{◌≡◌, ℕ, zero, suc, ◌+◌, ◌<◌, ℤ, Bool, true, false, cond, List, [], ◌∷◌, ◌++◌, length, map, refl, sym, ◌∙◌, ap, subst, arith}
use Rattle.std.specs.Prelude.{not, ◌&&◌, ◌||◌, ◌==◌, filter, slice_set, slice_index_or}
use Rattle.std.specs.List.{Contains}
use Rattle.std.specs.List.Sorted.{IsStrictlyIncreasing}
use Rattle.std.proofs.lemmas.Bool.Decides.{nat_tests}
use Rattle.std.proofs.lemmas.List.Folds.{list_any-append}
use Rattle.labels.specs.Contents.{in_range}
use Rattle.labels.specs.Rows.{Row}
use Rattle.labels.specs.Parts.{Part, references, references_of, has_sample, part_kept}
use Rattle.labels.proofs.Lists.{here, there, rising-head, rising-tail}
use Rattle.labels.proofs.PartRows.{kept_in}
use Rattle.matchers.specs.Views.{MatcherView}
use Rattle.matchers.specs.Satisfies.{satisfies_all}
use Rattle.block.specs.Fewer.{is_among, part_without}
use Rattle.head.specs.Heads.{HeadSeries, numbered}
use Rattle.head.specs.HeadRowLaws.{numbered_rises}
use Rattle.head.specs.Removing.{series_kept, head_kept, survives, is_struck, outside, series_less, head_less}

equal_self : (n : ℕ) → (n == n) ≡ true
equal_self n = grind (arith, nat_tests)

unequal_less : (r n : ℕ) → r < n → (r == n) ≡ false
unequal_less r n h = grind (arith, nat_tests)

unequal_more : (r n : ℕ) → n < r → (r == n) ≡ false
unequal_more r n h = grind (arith, nat_tests)

-- for each row it is told whether its reference is listed
abbrev pub AreTold : List ℕ → (ℕ × Row → Bool) → Part → Type 0
AreTold listed keep [] = Unit {0}
AreTold listed keep (row ∷ rows) = (is_among listed row.0 ≡ keep row) × AreTold listed keep rows

told_past : (r : ℕ) (listed : List ℕ) (keep : ℕ × Row → Bool) (rows : Part) → ((x : ℕ) → Contains (references rows) x → r < x) → AreTold listed keep rows → AreTold (r ∷ listed) keep rows
told_past r listed keep [] above told = tt
told_past r listed keep (row ∷ rows) above told = (
  ap (λ b. b || is_among listed row.0) (unequal_less r row.0 (above row.0 (here row.0 (references rows)))) ∙ told.0,
  told_past r listed keep rows (λ x c. above x (there row.0 x (references rows) c)) told.1,
)

none_among : (listed : List ℕ) (n : ℕ) → ((x : ℕ) → Contains listed x → n < x) → is_among listed n ≡ false
none_among [] n above = refl
none_among (x ∷ xs) n above =
    ap (λ b. b || is_among xs n) (unequal_more x n (above x (here x xs)))
    ∙ none_among xs n (λ y c. above y (there x y xs c))

-- the references of the rows that pass tell which do
pub are_told : (keep : ℕ × Row → Bool) (part : Part) → IsStrictlyIncreasing (references part) → AreTold (references_of keep part) keep part
are_told keep [] rises = tt
are_told keep (row ∷ rows) rises =
    let above : (x : ℕ) → Contains (references rows) x → row.0 < x = rising-head row.0 (references rows) rises in
    let rest : AreTold (references_of keep rows) keep rows = are_told keep rows (rising-tail row.0 (references rows) rises) in
    elim (keep row) as (λ b. keep row ≡ b → AreTold (map (λ (r : ℕ × Row). r.0) (cond b (row ∷ filter keep rows) (filter keep rows))) keep (row ∷ rows)) [
      | true ↦ λ e. (ap (λ b. b || is_among (references_of keep rows) row.0) (equal_self row.0) ∙ sym e, told_past row.0 (references_of keep rows) keep rows above rest)
      | false ↦ λ e. (none_among (references_of keep rows) row.0 (λ x c. above x (kept_in keep rows x c)) ∙ sym e, rest)
    ] refl

none_in : (from to : ℤ) (ss : List (ℤ × ℤ)) → has_sample from to ss ≡ false → filter (λ (s : ℤ × ℤ). not (false && in_range from to s.0)) ss ≡ outside from to ss
none_in from to [] e = refl
none_in from to (s ∷ ss) e =
    elim (in_range from to s.0) as (λ b. (b || has_sample from to ss) ≡ false → s ∷ filter (λ (x : ℤ × ℤ). not (false && in_range from to x.0)) ss ≡ cond (not b) (s ∷ outside from to ss) (outside from to ss)) [
      | true ↦ λ f. absurd cc
      | false ↦ λ f. ap (λ xs. s ∷ xs) (none_in from to ss f)
    ] e

-- a row without a sample in the range loses none, whether it is listed or not
pub same_left : (sat a : Bool) (from to : ℤ) (ss : List (ℤ × ℤ)) → a ≡ (sat && has_sample from to ss) →
    filter (λ (s : ℤ × ℤ). not (a && in_range from to s.0)) ss ≡ filter (λ (s : ℤ × ℤ). not (sat && in_range from to s.0)) ss
same_left false a from to ss e = ap (λ b. filter (λ (s : ℤ × ℤ). not (b && in_range from to s.0)) ss) e
same_left true true from to ss e = refl
same_left true false from to ss e = none_in from to ss (sym e)

module _ (ms : List MatcherView) (from to : ℤ) where
  pub part_left : (listed : List ℕ) (part : Part) → AreTold listed (is_struck ms from to) part → part_without listed from to part ≡ part_kept (survives ms from to) part
  part_left listed [] told = refl
  part_left listed (row ∷ rows) told = λ i.
      (row.0, (row.1.0, same_left (satisfies_all ms row.1.0) (is_among listed row.0) from to row.1.1 told.0 i)) ∷ part_left listed rows told.1 i

  -- a part without the samples of the series that a deletion strikes
  pub part_struck : (part : Part) → IsStrictlyIncreasing (references part) → part_without (references_of (is_struck ms from to) part) from to part ≡ part_kept (survives ms from to) part
  part_struck part rises = part_left (references_of (is_struck ms from to) part) part (are_told (is_struck ms from to) part rises)

  all_stay : (ss : List (ℤ × ℤ)) → ss ≡ filter (λ (s : ℤ × ℤ). not (false && in_range from to s.0)) ss
  all_stay [] = refl
  all_stay (s ∷ ss) = ap (λ xs. s ∷ xs) (all_stay ss)

  series_left : (h : HeadSeries) (a : Bool) → a ≡ (satisfies_all ms h.labels && has_sample from to h.samples) → cond a (series_less from to h) h ≡ series_kept (survives ms from to) h
  series_left h true e = ap (λ ss. record h { samples = ss }) (same_left (satisfies_all ms h.labels) true from to h.samples e)
  series_left h false e = ap (λ ss. record h { samples = ss }) (all_stay h.samples ∙ same_left (satisfies_all ms h.labels) false from to h.samples e)

  head_left : (listed : List ℕ) (n : ℕ) (hs : List HeadSeries) → AreTold listed (is_struck ms from to) (numbered n hs) → head_less listed from to n hs ≡ head_kept (survives ms from to) hs
  head_left listed n [] told = refl
  head_left listed n (h ∷ hs) told = λ i. series_left h (is_among listed n) told.0 i ∷ head_left listed (n + 1) hs told.1 i

  -- a head without the samples of the series that a deletion strikes
  pub head_struck : (hs : List HeadSeries) → head_less (references_of (is_struck ms from to) (numbered 1 hs)) from to 1 hs ≡ head_kept (survives ms from to) hs
  head_struck hs = head_left (references_of (is_struck ms from to) (numbered 1 hs)) 1 hs (are_told (is_struck ms from to) (numbered 1 hs) (numbered_rises 1 hs))

module _ (from to : ℤ) where
  less_twice : (ss : List (ℤ × ℤ)) → outside from to (outside from to ss) ≡ outside from to ss
  less_twice [] = refl
  less_twice (s ∷ ss) =
      elim (in_range from to s.0) as (λ b. in_range from to s.0 ≡ b → outside from to (cond (not b) (s ∷ outside from to ss) (outside from to ss)) ≡ cond (not b) (s ∷ outside from to ss) (outside from to ss)) [
        | true ↦ λ e. less_twice ss
        | false ↦ λ e. ap (λ b. cond (not b) (s ∷ outside from to (outside from to ss)) (outside from to (outside from to ss))) e ∙ ap (λ xs. s ∷ xs) (less_twice ss)
      ] refl

  less_again : (a : Bool) (h : HeadSeries) → series_less from to (cond a (series_less from to h) h) ≡ series_less from to h
  less_again true h = ap (λ ss. record h { samples = ss }) (less_twice h.samples)
  less_again false h = refl

  or_false : (a b : Bool) → b ≡ false → (a || (b || false)) ≡ a
  or_false true b e = refl
  or_false false true e = e
  or_false false false e = refl

  or_true : (a b : Bool) → b ≡ true → true ≡ (a || (b || false))
  or_true true b e = refl
  or_true false true e = refl
  or_true false false e = sym e

  among-more : (listed : List ℕ) (r n : ℕ) → is_among (listed ++ r ∷ []) n ≡ (is_among listed n || ((r == n) || false))
  among-more listed r n = list_any-append (λ (x : ℕ). x == n) listed (r ∷ [])

  -- one reference more does not count for series of greater references
  less_past : (listed : List ℕ) (r n : ℕ) (hs : List HeadSeries) → r < n → head_less listed from to n hs ≡ head_less (listed ++ r ∷ []) from to n hs
  less_past listed r n [] h = refl
  less_past listed r n (x ∷ hs) h = λ i.
      cond (sym (among-more listed r n ∙ or_false (is_among listed n) (r == n) (unequal_less r n h)) i) (series_less from to x) x ∷ less_past listed r (n + 1) hs (omega (arith, h)) i

  -- the series of one reference more
  pub less_more : (listed : List ℕ) (r n k : ℕ) (hs : List HeadSeries) (d : HeadSeries) → r ≡ n + k → k < length hs →
      slice_set (head_less listed from to n hs) k (series_less from to (slice_index_or (head_less listed from to n hs) k d)) ≡ head_less (listed ++ r ∷ []) from to n hs
  less_more listed r n k [] d e l = absurd (omega (arith, l))
  less_more listed r n zero (x ∷ hs) d e l =
      let same : r ≡ n = omega (arith, e) in
      λ i. (less_again (is_among listed n) x
      ∙ ap (λ b. cond b (series_less from to x) x) (or_true (is_among listed n) (r == n) (subst (λ m. (m == n) ≡ true) (sym same) (equal_self n)) ∙ sym (among-more listed r n))) i
      ∷ less_past listed r (n + 1) hs (omega (arith, e)) i
  less_more listed r n (suc k) (x ∷ hs) d e l =
      let past : (r == n) ≡ false = unequal_more r n (omega (arith, e)) in
      λ i. cond (sym (among-more listed r n ∙ or_false (is_among listed n) (r == n) past) i) (series_less from to x) x
      ∷ less_more listed r (n + 1) k hs d (omega (arith, e)) (omega (arith, l)) i

  pub less_none : (n : ℕ) (hs : List HeadSeries) → head_less [] from to n hs ≡ hs
  less_none n [] = refl
  less_none n (h ∷ hs) = ap (λ xs. h ∷ xs) (less_none (n + 1) hs)

  pub length-head_less : (listed : List ℕ) (n : ℕ) (hs : List HeadSeries) → length (head_less listed from to n hs) ≡ length hs
  length-head_less listed n [] = refl
  length-head_less listed n (h ∷ hs) = ap suc (length-head_less listed (n + 1) hs)
