-- The rows of one part alone are those of all parts.
use Rattle.std.proofs.Common.{◌≡◌, ◌≤◌, T, Bool, true, false, cond, List, [], ◌∷◌, map, length, refl}
use Rattle.std.proofs.Common.{sym, ◌∙◌, ap, subst, arith}
use Rattle.std.specs.Prelude.{◌==◌, ◌&&◌, not}
use Rattle.std.specs.List.{AllZip, filter}
use Rattle.std.specs.FinMap.Entries.{find, is_sorted, is_sorted-where_key}
use Rattle.std.proofs.lemmas.Bool.{eqb-true}
use Rattle.labels.specs.Labels.{point_cmp}
use Rattle.labels.specs.Contents.{Content, in_range}
use Rattle.labels.specs.Rows.{Row, AreRows, points_of}
use Rattle.labels.specs.Parts.{Part, content_of, laid_over}
use Rattle.labels.proofs.ContentLaws.{or_else_none, find-laid_over, is_sorted-laid_over}
use Rattle.labels.proofs.ContentLaws.{is_sorted-over, same_content}
use Rattle.matchers.specs.Views.{QueryView}
use Rattle.matchers.specs.Satisfies.{satisfies_all}
use Rattle.matchers.specs.Queries.{selected_by}
use Rattle.cover.specs.declared.part_cover.PartAnswer.{PartAnswer}
use Rattle.head.specs.Heads.{SnapshotParts}
use Rattle.block_search.specs.Skipping.{AskedPart, LosesNothing, asked_parts, searched_parts}
use Rattle.block_search.specs.Answers.{Agree, AreAnswers, IsAnswerOf, IsPartAnswer}
use Rattle.block_search.specs.Answered.{AreAnsweredParts, IsAnsweredPart}
use Rattle.block_search.specs.declared.answered.AnsweredPart.{AnsweredPart}
use Rattle.block_search.specs.declared.answered.AnsweredPart.TheVariants.{Searched, Skipped}
use Rattle.block_search.proofs.Agreement.{all_agree}
use Rattle.series_merge.specs.Merging.{laid_each, row_lists, merged_content}
use Rattle.answers.specs.Audited.{selected_in}
use Rattle.series_merge.specs.OnePart.{has_rows, AreMergedFrom}
use Rattle.series_merge.specs.declared.one_part.MergedRows.{MergedRows}
use Rattle.series_merge.specs.declared.one_part.MergedRows.TheVariants.{OfOnePart, Merged}
use Rattle.answers.specs.MergedRows.{first_rows, rows_by}
use Rattle.answers.proofs.MergedAnswers.{each_answers, merged_is_selected}

-- the rows of the first answer that has any
abbrev first_in : List PartAnswer → List Row
first_in [] = []
first_in (answer ∷ later) = cond (length answer.rows.items == 0) (first_in later) answer.rows.items

none_in : (rows : List Row) → (length rows == 0) ≡ true → rows ≡ []
none_in [] e = refl
none_in (row ∷ rows) e = absurd (omega (arith, eqb-true (length (row ∷ rows)) 0 e))

-- answers of which none has rows lay nothing
bare_laid : (c : Content) (answer : PartAnswer) (lists : List (List Row)) (some : List PartAnswer)
    → length (cond (has_rows answer) (answer ∷ some) some) ≡ 0
    → (length some ≡ 0 → laid_each c lists ≡ c)
    → laid_each c (answer.rows.items ∷ lists) ≡ c
bare_laid c answer lists some e more =
    elim (length answer.rows.items == 0) as (λ t. (length answer.rows.items == 0) ≡ t
    → length (cond (not t) (answer ∷ some) some) ≡ 0
    → laid_each c (answer.rows.items ∷ lists) ≡ c) [
      | true ↦ λ none later.
          ap (λ (rs : List Row). laid_each (laid_over (points_of rs) c) lists)
          (none_in answer.rows.items none)
          ∙ more later
      | false ↦ λ has later. absurd (omega (arith, later))
    ] refl e

are_bare_laid : (answers : List PartAnswer) (c : Content) → length (filter has_rows answers) ≡ 0
    → laid_each c (row_lists answers) ≡ c
are_bare_laid [] c e = refl
are_bare_laid (answer ∷ later) c e =
    bare_laid c answer (row_lists later) (filter has_rows later) e (are_bare_laid later c)

one_laid : (answer : PartAnswer) (lists : List (List Row)) (first : List Row)
    (some : List PartAnswer)
    → length (cond (has_rows answer) (answer ∷ some) some) ≤ 1
    → (length some ≤ 1 → laid_each [] lists ≡ laid_over (points_of first) [])
    → ((c : Content) → length some ≡ 0 → laid_each c lists ≡ c)
    → laid_each [] (answer.rows.items ∷ lists)
    ≡ laid_over (points_of (cond (length answer.rows.items == 0) first answer.rows.items)) []
one_laid answer lists first some e if_one if_bare =
    elim (length answer.rows.items == 0) as (λ t. (length answer.rows.items == 0) ≡ t
    → length (cond (not t) (answer ∷ some) some) ≤ 1
    → laid_each [] (answer.rows.items ∷ lists)
    ≡ laid_over (points_of (cond t first answer.rows.items)) []) [
      | true ↦ λ none later.
          ap (λ (rs : List Row). laid_each (laid_over (points_of rs) []) lists)
          (none_in answer.rows.items none)
          ∙ if_one later
      | false ↦ λ has later.
          if_bare (laid_over (points_of answer.rows.items) []) (omega (arith, later))
    ] refl e

first_laid : (answers : List PartAnswer) → length (filter has_rows answers) ≤ 1
    → laid_each [] (row_lists answers) ≡ laid_over (points_of (first_in answers)) []
first_laid [] e = refl
first_laid (answer ∷ later) e =
    one_laid answer (row_lists later) (first_in later) (filter has_rows later) e
    (first_laid later) (are_bare_laid later)

laid_on_nothing : (es : Content) → T (is_sorted point_cmp es) → laid_over es [] ≡ es
laid_on_nothing es h =
    same_content (laid_over es []) es (is_sorted-laid_over es [] tt) h
    (λ q. find-laid_over q es [] ∙ or_else_none (find point_cmp q es))

-- the answers among what is told of parts
abbrev answers_in : List AnsweredPart → List PartAnswer
answers_in [] = []
answers_in (Searched answer ∷ later) = answer ∷ answers_in later
answers_in (Skipped name ∷ later) = answers_in later

first_told : (parts : List AnsweredPart) → first_rows parts ≡ first_in (answers_in parts)
first_told [] = refl
first_told (Searched answer ∷ later) =
    ap (λ (rows : List Row). cond (length answer.rows.items == 0) rows answer.rows.items)
    (first_told later)
first_told (Skipped name ∷ later) = first_told later

same_first : (xs ys : List PartAnswer) → AllZip Agree xs ys → first_in xs ≡ first_in ys
same_first [] [] are = refl
same_first [] (y ∷ ys) are = absurd are
same_first (x ∷ xs) [] are = absurd are
same_first (x ∷ xs) (y ∷ ys) are =
    ap (λ (rows : List Row). cond (length rows == 0) (first_in xs) rows) are.0.rows
    ∙ ap (λ (rows : List Row). cond (length y.rows.items == 0) rows y.rows.items)
    (same_first xs ys are.1)

module _ (query : QueryView) where
  record HasRows (rows : List Row) : Type 0 where
    content : Content
    are : AreRows rows content
    sorted : T (is_sorted point_cmp content)

  first_are_rows : (parts : List Part) (answers : List PartAnswer)
      → AllZip (IsPartAnswer query) parts answers → HasRows (first_in answers)
  first_are_rows [] [] are = record {
    content = [];
    are = record { points = refl; ascending = tt; full = tt };
    sorted = tt;
  }
  first_are_rows [] (answer ∷ later) are = absurd are
  first_are_rows (part ∷ parts) [] are = absurd are
  first_are_rows (part ∷ parts) (answer ∷ later) are =
      elim (length answer.rows.items == 0) as (λ t.
      HasRows (cond t (first_in later) answer.rows.items)) [
        | true ↦ first_are_rows parts later are.1
        | false ↦ record {
          content = selected_by query (content_of (part ∷ []));
          are = are.0.rows;
          sorted =
              is_sorted-where_key point_cmp
              (λ p. satisfies_all query.matchers p.0 && in_range query.from query.to p.1)
              (content_of (part ∷ [])) (is_sorted-over (part ∷ []) [] tt);
        }
      ]

  first_is_merged : (parts : List Part) (answers : List PartAnswer)
      → AllZip (IsPartAnswer query) parts answers → length (filter has_rows answers) ≤ 1
      → AreRows (first_in answers) (merged_content answers)
  first_is_merged parts answers are one =
      let has : HasRows (first_in answers) = first_are_rows parts answers are in
      subst (AreRows (first_in answers))
      (sym (first_laid answers one ∙ ap (λ (es : Content). laid_over es []) has.are.points
      ∙ laid_on_nothing has.content has.sorted)) has.are

  searched_among : (asked : List AskedPart) (parts : List AnsweredPart)
      → AllZip (IsAnsweredPart query) asked parts
      → AllZip (IsAnswerOf query) (filter (λ p. not p.skipped) asked) (answers_in parts)
  searched_among [] [] are = tt
  searched_among [] (part ∷ parts) are = absurd are
  searched_among (a ∷ asked) [] are = absurd are
  searched_among (a ∷ asked) (Searched answer ∷ parts) are =
      subst (λ (t : Bool). AllZip (IsAnswerOf query)
      (cond (not t) (a ∷ filter (λ (p : AskedPart). not p.skipped) asked)
      (filter (λ (p : AskedPart). not p.skipped) asked)) (answer ∷ answers_in parts))
      (sym are.0.0) (are.0.1, searched_among asked parts are.1)
  searched_among (a ∷ asked) (Skipped name ∷ parts) are =
      subst (λ (t : Bool). AllZip (IsAnswerOf query)
      (cond (not t) (a ∷ filter (λ (p : AskedPart). not p.skipped) asked)
      (filter (λ (p : AskedPart). not p.skipped) asked)) (answers_in parts))
      (sym are.0.0) (searched_among asked parts are.1)

  -- the rows of all parts, by what was kept of them
  pub rows_are_selected : (s : SnapshotParts) (answers : List PartAnswer)
      (parts : List AnsweredPart) (merged : MergedRows) → AreAnswers query s answers
      → AreAnsweredParts query s parts → LosesNothing query s → AreMergedFrom answers merged
      → AreRows (rows_by merged parts) (selected_in query s)
  rows_are_selected s answers parts OfOnePart are told whole one =
      let asked = searched_parts query s in
      let ps = map (λ (p : AskedPart). p.part) asked in
      let each = each_answers query asked answers are in
      subst (λ (rows : List Row). AreRows rows (selected_in query s))
      (same_first answers (answers_in parts) (all_agree query asked answers (answers_in parts) are
      (searched_among (asked_parts query s) parts told)) ∙ sym (first_told parts))
      (subst (AreRows (first_in answers)) (merged_is_selected query ps answers each ∙ whole)
      (first_is_merged ps answers each one))
  rows_are_selected s answers parts (Merged rows) are told whole is =
      let asked = searched_parts query s in
      subst (AreRows rows.items)
      (merged_is_selected query (map (λ (p : AskedPart). p.part) asked) answers
      (each_answers query asked answers are) ∙ whole) is
