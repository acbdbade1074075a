-- Lists of rows, as answers and joined.
use Rattle.std.specs.Prelude.{◌≡◌, ◌≢◌, ℤ, T, Bool, true, false, if◌then◌else◌, List, Vec, [], ◌∷◌}
use Rattle.std.specs.Prelude.{◌++◌, map, reverse, length, suc, ◌+◌, refl, Option, Some, None}
use Rattle.std.proofs.Common.{Global, sym, ap, ◌∙◌, append_assoc, arith}
use Rattle.std.proofs.lemmas.List.{map-append, reverse-append, length-append}
use Rattle.std.specs.List.{list_all}
use Rattle.std.specs.Ordering.{int_cmp}
use Rattle.std.specs.FinMap.Entries.{is_sorted}
use Rattle.labels.specs.Labels.{labels_cmp}
use Rattle.labels.specs.Rows.{Row, AreRows, AreFull, points_of}
use Rattle.labels.specs.Parts.{laid_over}
use Rattle.labels.proofs.Times.{first_T, second_T, T_of}
use Rattle.block_writer.proofs.RowContent.{points_rise}
use Rattle.block_writer.specs.PartRows.{has_some, is_series, are_part_rows, part_rows}
use Rattle.labels.specs.Labels.{point_cmp}
use Rattle.labels.specs.Contents.{Content}
use Rattle.labels.proofs.ContentLaws.{find-laid_over, is_sorted-laid_over, or_else_none}
use Rattle.labels.proofs.ContentLaws.{same_content}
use Rattle.std.specs.FinMap.Entries.{find}
use Rattle.cover.specs.declared.part_cover.PartAnswer.{PartAnswer}
use Rattle.series_merge.specs.Merging.{row_lists}
use Rattle.block_outputs.specs.Joined.{lists_in, IsJoined}

some_same : {A : Type 0} (a b : A) → Some a ≡ Some b → a ≡ b
some_same a b e = cc

-- one list more is an answer
pub one_more_answer : (whole : List (List Row)) (lists rest : List (Vec Row Global))
    (rows : Vec Row Global) (answers new : List PartAnswer) (answer : PartAnswer)
    → lists ≡ rest ++ rows ∷ [] → new ≡ answers ++ answer ∷ [] → answer.rows ≡ rows
    → lists_in lists ++ row_lists (reverse answers) ≡ whole
    → lists_in rest ++ row_lists (reverse new) ≡ whole
one_more_answer whole lists rest rows answers new answer e f g h =
    ap (λ (xs : List PartAnswer). lists_in rest ++ row_lists (reverse xs)) f
    ∙ ap (λ (xs : List PartAnswer). lists_in rest ++ row_lists xs)
    (reverse-append answers (answer ∷ []))
    ∙ ap (λ (v : Vec Row Global). lists_in rest ++ (v.items ∷ row_lists (reverse answers))) g
    ∙ sym (append_assoc (lists_in rest) (rows.items ∷ []) (row_lists (reverse answers)))
    ∙ ap (λ ls. ls ++ row_lists (reverse answers))
    (sym (map-append (λ (l : Vec Row Global). l.items) rest (rows ∷ [])))
    ∙ ap (λ (ls : List (Vec Row Global)). lists_in ls ++ row_lists (reverse answers)) (sym e)
    ∙ h

has_one : (ss : List (ℤ × ℤ)) → T (has_some ss) → ss ≢ []
has_one [] h e = h
has_one (s ∷ ss) h e = absurd cc

rows_full : (rows : List Row) → T (list_all is_series rows) → AreFull rows
rows_full [] h = tt
rows_full (row ∷ rows) h = (
  has_one row.1 (first_T (has_some row.1) (is_sorted int_cmp row.1)
      (first_T (is_series row) (list_all is_series rows) h)),
  rows_full rows (second_T (is_series row) (list_all is_series rows) h),
)

laid_over_nothing : (c : Content) → T (is_sorted point_cmp c) → laid_over c [] ≡ c
laid_over_nothing c h =
    same_content (laid_over c []) c (is_sorted-laid_over c [] tt) h (λ q.
    find-laid_over q c [] ∙ or_else_none (find point_cmp q c))

-- the rows of a list alone
pub alone : (rows : List Row) → are_part_rows rows ≡ true → IsJoined (rows ∷ []) rows
alone rows e =
    let both : T (are_part_rows rows) = T_of (are_part_rows rows) e in
    record {
      points = sym (laid_over_nothing (points_of rows) (points_rise rows e));
      ascending = first_T (is_sorted labels_cmp rows) (list_all is_series rows) both;
      full = rows_full rows (second_T (is_sorted labels_cmp rows) (list_all is_series rows) both);
    }

part_is : (rows : List Row) (b : Bool) (part : List Row) → are_part_rows rows ≡ b
    → (if b then Some rows else None) ≡ Some part → (are_part_rows rows ≡ true) × (rows ≡ part)
part_is rows true part e h = (e, some_same rows part h)
part_is rows false part e h = absurd cc

-- rows that a part may have are those
pub part_of_rows : (rows part : List Row) → part_rows rows ≡ Some part
    → (are_part_rows rows ≡ true) × (rows ≡ part)
part_of_rows rows part h = part_is rows (are_part_rows rows) part refl h

-- the only list
pub the_only : (lists rest : List (Vec Row Global)) (rows : Vec Row Global)
    → lists ≡ rest ++ rows ∷ [] → length lists ≡ 1 → rows.items ∷ [] ≡ lists_in lists
the_only lists [] rows e one = sym (ap (λ (ls : List (Vec Row Global)). lists_in ls) e)
the_only lists (x ∷ rest) rows e one =
    let two : length lists ≡ suc (length rest + 1) = ap length e
    ∙ ap suc (length-append rest (rows ∷ [])) in
    absurd (omega (arith, two, one))
