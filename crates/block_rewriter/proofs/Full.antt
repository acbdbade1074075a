-- The rows of a block that have a sample.
use Rattle.std.proofs.Common.{◌≡◌, ◌≤◌, ℕ, suc, ℤ, Bool, true, false, cond, T, List, []}
use Rattle.std.proofs.Common.{◌∷◌, ◌++◌, None, Some, length, refl, sym, ◌∙◌, ap, subst, arith}
use Rattle.std.specs.Prelude.{nat_le}
use Rattle.std.specs.List.{AllByRecursion, Contains, list_all}
use Rattle.std.specs.List.Sorted.{IsSortedBy}
use Rattle.std.specs.Cmp.{Equal-is}
use Rattle.std.specs.Ordering.{int_cmp}
use Rattle.std.specs.FinMap.Entries.{is_sorted}
use Rattle.std.proofs.lemmas.Bool.{and_parts}
use Rattle.std.proofs.lemmas.Bool.Decides.{nat_tests}
use Rattle.std.proofs.lemmas.List.Kept.{IsSortedBy-filter}
use Rattle.labels.specs.Contents.{Content}
use Rattle.labels.specs.Labels.{Labels, labels_cmp, same_labels}
use Rattle.labels.specs.Parts.{AreDistinct, IsPart, Part, rows_in}
use Rattle.labels.specs.Rows.{Row, points_in, points_of, row_before}
use Rattle.labels.proofs.NamedPairs.{IsSortedBy-map}
use Rattle.labels.proofs.OrderLaws.{labels_exact}
use Rattle.labels.proofs.SortedRows.{AreApart, alike, rises, row_order}
use Rattle.labels.proofs.Times.{T_of, both_T}
use Rattle.block.specs.Blocks.{AreInLabelOrder, AreInside}
use Rattle.block_writer.specs.PartRows.{are_part_rows, has_some, is_series, part_rows}
use Rattle.block_writer.specs.SpellRows.{AreWithin, IsWithin}
use Rattle.block_rewriter.specs.Rows.{are_few, full_rows, is_few}

-- rows without a sample have no points

pub same_points : (rows : List Row) → points_of (full_rows rows) ≡ points_of rows
same_points [] = refl
same_points (r ∷ rows) =
    elim r.1 as (λ ss. points_of (cond (has_some ss) ((r.0, ss) ∷ full_rows rows) (full_rows rows))
    ≡ points_in r.0 ss ++ points_of rows) [
      | [] ↦ same_points rows
      | s ∷ ss ↦ ap (λ (c : Content). points_in r.0 (s ∷ ss) ++ c) (same_points rows)
    ]

-- those of a block stand strictly in label order, and a block's writer takes them

same_path : (a b : Labels) → same_labels a b ≡ true → a ≡ b
same_path a b e = labels_exact a b ((Equal-is (labels_cmp a b)).0 e)

first : (row : ℕ × Row) (part : Part) → Contains (row ∷ part) row
first row part = (0, omega arith, refl)

behind : (row other : ℕ × Row) (part : Part) → Contains part other → Contains (row ∷ part) other
behind row other part (k, l, e) = (suc k, omega (arith, l), e)

none_alike : (l m : Labels) (part : Part) → l ≡ m
    → ((other : ℕ × Row) → Contains part other → same_labels m other.1.0 ≡ false)
    → alike l (full_rows (rows_in part)) ≡ []
none_alike l m [] is apart = refl
none_alike l m (row ∷ part) is apart =
    let rest = none_alike l m part is (λ other held. apart other (behind row other part held)) in
    let differ : same_labels l row.1.0 ≡ false =
    ap (λ (k : Labels). same_labels k row.1.0) is ∙ apart row (first row part) in
    elim (has_some row.1.1) as (λ b. alike l (cond b (row.1 ∷ full_rows (rows_in part))
    (full_rows (rows_in part))) ≡ []) [
      | true ↦ ap (λ b. cond b (row.1 ∷ alike l (full_rows (rows_in part)))
          (alike l (full_rows (rows_in part)))) differ ∙ rest
      | false ↦ rest
    ]

one_at_most : (b : Bool) (r : Row) (rs : List Row) → length rs ≤ 1 → (b ≡ true → rs ≡ [])
    → length (cond b (r ∷ rs) rs) ≤ 1
one_at_most true r rs h none =
    subst (λ (xs : List Row). length (r ∷ xs) ≤ 1) (sym (none refl)) (omega arith)
one_at_most false r rs h none = h

apart_full : (part : Part) → AreDistinct part → AreApart (full_rows (rows_in part))
apart_full [] d l = omega arith
apart_full (row ∷ part) d l =
    let rest = apart_full part d.1 l in
    elim (has_some row.1.1) as (λ b. length (alike l (cond b (row.1 ∷ full_rows (rows_in part))
    (full_rows (rows_in part)))) ≤ 1) [
      | true ↦ one_at_most (same_labels l row.1.0) row.1 (alike l (full_rows (rows_in part))) rest
          (λ e. none_alike l row.1.0 part (same_path l row.1.0 e) d.0)
      | false ↦ rest
    ]

sorted_full : (part : Part) → AreInLabelOrder part
    → IsSortedBy row_before (full_rows (rows_in part))
sorted_full part up =
    IsSortedBy-filter row_before row_order (λ (r : Row). has_some r.1) (rows_in part)
    (IsSortedBy-map (λ (r : ℕ × Row). r.1) row_before part up)

series_full : (part : Part)
    → ((row : ℕ × Row) → Contains part row → T (is_sorted int_cmp row.1.1))
    → T (list_all is_series (full_rows (rows_in part)))
series_full [] times = tt
series_full (row ∷ part) times =
    let rest = series_full part (λ other held. times other (behind row other part held)) in
    let up : T (is_sorted int_cmp row.1.1) = times row (first row part) in
    elim (has_some row.1.1) as (λ b. has_some row.1.1 ≡ b
    → T (list_all is_series (cond b (row.1 ∷ full_rows (rows_in part)) (full_rows (rows_in part))))) [
      | true ↦ λ e. both_T _ _ (both_T _ _ (T_of _ e) up) rest
      | false ↦ λ e. rest
    ] refl

true_of : (b : Bool) → T b → b ≡ true
true_of true h = refl
true_of false h = absurd h

pub writable : (part : Part) → IsPart part → AreInLabelOrder part
    → part_rows (full_rows (rows_in part)) ≡ Some (full_rows (rows_in part))
writable part is up =
    let rows = full_rows (rows_in part) in
    ap (λ b. cond b (Some rows) None) (true_of (are_part_rows rows)
    (both_T _ _ (rises rows (sorted_full part up) (apart_full part is.distinct))
    (series_full part is.times)))

-- rows that are few lie in the range of their block

few_when : (n : ℕ) → nat_le n 1048576 ≡ true → n ≤ 1048576
few_when n h = grind (arith, nat_tests)

each_within : (range : ℤ × ℤ) (part : Part) → AreInside range part
    → list_all is_few (full_rows (rows_in part)) ≡ true
    → AllByRecursion (IsWithin range) (full_rows (rows_in part))
each_within range [] inside few = tt
each_within range (row ∷ part) inside few =
    elim (has_some row.1.1) as (λ b.
    list_all is_few (cond b (row.1 ∷ full_rows (rows_in part)) (full_rows (rows_in part))) ≡ true
    → AllByRecursion (IsWithin range)
    (cond b (row.1 ∷ full_rows (rows_in part)) (full_rows (rows_in part)))) [
      | true ↦ λ few. (
        record {
          few = few_when (length row.1.1)
              (and_parts (is_few row.1) (list_all is_few (full_rows (rows_in part))) few).0;
          inside = inside.0;
        },
        each_within range part inside.1
            (and_parts (is_few row.1) (list_all is_few (full_rows (rows_in part))) few).1,
      )
      | false ↦ λ few. each_within range part inside.1 few
    ] few

pub within_range : (range : ℤ × ℤ) (part : Part) (rows : List Row) → AreInside range part
    → rows ≡ full_rows (rows_in part) → are_few rows ≡ true → AreWithin range rows
within_range range part rows inside is few =
    let all = full_rows (rows_in part) in
    let here : are_few all ≡ true = ap are_few (sym is) ∙ few in
    let both = and_parts (nat_le (length all) 1048576) (list_all is_few all) here in
    subst (AreWithin range) (sym is) (record {
      few = few_when (length all) both.0;
      each = each_within range part inside both.1;
    })
