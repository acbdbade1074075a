-- What answers list together, the last answer first, is what they list last.
use Rattle.std.proofs.Common.{◌≡◌, ℤ, true, false, cond, T, List, [], ◌∷◌, ◌++◌, None, Some, reverse, refl, sym, ◌∙◌, ap, subst, inl, inr}
use Rattle.std.specs.Prelude.{◌&&◌}
use Rattle.std.specs.List.{AllZip, Contains}
use Rattle.std.specs.declared.cmp.Ordering.{Ordering}
use Rattle.std.specs.declared.cmp.Ordering.TheVariants.{Less, Equal, Greater}
use Rattle.std.specs.Ordering.{is_lt, is_eq, eq_by_cmp}
use Rattle.std.specs.Cmp.{Equal-is}
use Rattle.std.specs.FinMap.Entries.{find, put, is_sorted, below_all, is_sorted-put, is_sorted-where_key}
use Rattle.std.proofs.lemmas.Grind.{reverse_onto}
use Rattle.labels.specs.Labels.{Point, point_cmp}
use Rattle.labels.specs.Contents.{Content, in_range}
use Rattle.labels.specs.Rows.{Row, points_of, AreRows}
use Rattle.labels.specs.Parts.{laid_over, content_of}
use Rattle.labels.proofs.Lists.{here, there, Contains-cases, none_in_nil}
use Rattle.labels.proofs.OrderLaws.{point_total, point_exact}
use Rattle.labels.proofs.Times.{first_T, second_T}
use Rattle.labels.proofs.ContentLaws.{or_else, or_else_none, find-++, find-laid_over, is_sorted-laid_over, is_sorted-over, same_content}
use Rattle.matchers.specs.Views.{QueryView}
use Rattle.matchers.specs.Satisfies.{satisfies_all}
use Rattle.cover.specs.declared.part_cover.PartAnswer.{PartAnswer}
use Rattle.head.specs.Heads.{SnapshotParts}
use Rattle.block_search.specs.Skipping.{AskedPart, searched_parts}
use Rattle.block_search.specs.Answers.{IsAnswerOf, AreAnswers}
use Rattle.series_merge.specs.Merging.{laid_each, row_lists, merged_content}
use Rattle.auditor.specs.Listing.{listed, with_each, last_listed}
use Rattle.auditor.proofs.Merging.{find-with_each}

abbrev Sample : Type 0
Sample = Point × ℤ

not_tied : (o : Ordering) → T (is_lt o) → is_eq o ≡ false
not_tied Less h = refl
not_tied Equal h = absurd h
not_tied Greater h = absurd h

-- nothing is found at a point that is below all
none_below : (p : Point) (es : List Sample) → T (below_all point_cmp p es)
    → find point_cmp p es ≡ None
none_below p [] h = refl
none_below p (e ∷ es) h =
    ap (λ b. cond b (Some e.1) (find point_cmp p es)) (not_tied (point_cmp p e.0) (first_T _ _ h))
    ∙ none_below p es (second_T _ _ h)

-- in samples of rising points the same is found from behind
find-reverse : (q : Point) (es : List Sample) → T (is_sorted point_cmp es)
    → find point_cmp q (reverse es) ≡ find point_cmp q es
find-reverse q [] h = refl
find-reverse q (e ∷ es) h =
    ap (find point_cmp q) (reverse_onto es e [])
    ∙ find-++ q (reverse es) (e ∷ [])
    ∙ ap (λ o. or_else o (cond (eq_by_cmp point_cmp q e.0) (Some e.1) None))
    (find-reverse q es (second_T _ _ h))
    ∙ elim (eq_by_cmp point_cmp q e.0)
    as (λ b. eq_by_cmp point_cmp q e.0 ≡ b → or_else (find point_cmp q es) (cond b (Some e.1) None)
    ≡ cond b (Some e.1) (find point_cmp q es)) [
      | true ↦ λ tied.
          let same : e.0 ≡ q = sym (point_exact q e.0 ((Equal-is (point_cmp q e.0)).0 tied)) in
          let none : find point_cmp q es ≡ None =
          none_below q es
          (subst (λ (p : Point). T (below_all point_cmp p es)) same (first_T _ _ h)) in
          ap (λ o. or_else o (Some e.1)) none
      | false ↦ λ apart. or_else_none (find point_cmp q es)
    ] refl

with_each-++ : (xs ys : List Sample) (c : Content)
    → with_each (xs ++ ys) c ≡ with_each ys (with_each xs c)
with_each-++ [] ys c = refl
with_each-++ (x ∷ xs) ys c = with_each-++ xs ys (put point_cmp x.0 x.1 c)

is_sorted-with_each : (es : List Sample) (c : Content) → T (is_sorted point_cmp c)
    → T (is_sorted point_cmp (with_each es c))
is_sorted-with_each [] c h = h
is_sorted-with_each (e ∷ es) c h =
    is_sorted-with_each es (put point_cmp e.0 e.1 c)
    (is_sorted-put point_cmp point_total e.0 e.1 c h)

-- rising samples are put one after another as they are laid over
laid_with : (es : List Sample) (c : Content) → T (is_sorted point_cmp es)
    → T (is_sorted point_cmp c) → laid_over es c ≡ with_each es c
laid_with es c rising h =
    same_content (laid_over es c) (with_each es c) (is_sorted-laid_over es c h)
    (is_sorted-with_each es c h)
    (λ q. find-laid_over q es c
    ∙ ap (λ o. or_else o (find point_cmp q c)) (sym (find-reverse q es rising))
    ∙ sym (find-with_each q es c))

-- what an answer lists is in order
abbrev pub IsInOrder : PartAnswer → Type 0
IsInOrder a = T (is_sorted point_cmp (points_of a.rows.items))

laid_listed : (answers : List PartAnswer) (c : Content)
    → ((a : PartAnswer) → Contains answers a → IsInOrder a) → T (is_sorted point_cmp c)
    → laid_each c (row_lists answers) ≡ with_each (listed answers) c
laid_listed [] c are h = refl
laid_listed (a ∷ rest) c are h =
    let points = points_of a.rows.items in
    ap (λ d. laid_each d (row_lists rest)) (laid_with points c (are a (here a rest)) h)
    ∙ laid_listed rest (with_each points c) (λ b k. are b (there a b rest k))
    (is_sorted-with_each points c h)
    ∙ sym (with_each-++ points (listed rest) c)

-- what the answers of a search list is in order
module _ (query : QueryView) where
  row_list : (p : AskedPart) (answer : PartAnswer) → IsAnswerOf query p answer → IsInOrder answer
  row_list p answer is =
      subst (λ (c : Content). T (is_sorted point_cmp c)) (sym is.answers.rows.points)
      (is_sorted-where_key point_cmp
      (λ q. satisfies_all query.matchers q.0 && in_range query.from query.to q.1)
      (content_of (p.part ∷ [])) (is_sorted-over (p.part ∷ []) [] tt))

  each_row_list : (parts : List AskedPart) (answers : List PartAnswer)
      → AllZip (IsAnswerOf query) parts answers
      → (answer : PartAnswer) → Contains answers answer → IsInOrder answer
  each_row_list [] [] are answer h = absurd (none_in_nil answer h)
  each_row_list [] (a ∷ rest) are answer h = absurd are
  each_row_list (p ∷ ps) [] are answer h = absurd are
  each_row_list (p ∷ ps) (a ∷ rest) are answer h = elim (Contains-cases a rest answer h) [
    | inl same ↦ subst (λ (x : PartAnswer). IsInOrder x) same (row_list p a are.0)
    | inr later ↦ each_row_list ps rest are.1 answer later
  ]

  pub row_lists_of : (s : SnapshotParts) (answers : List PartAnswer) → AreAnswers query s answers
      → (answer : PartAnswer) → Contains answers answer → IsInOrder answer
  row_lists_of s answers are = each_row_list (searched_parts query s) answers are

  pub merged_last : (s : SnapshotParts) (answers : List PartAnswer) (rows : List Row)
      → AreAnswers query s answers → AreRows rows (merged_content answers)
      → AreRows rows (last_listed answers)
  merged_last s answers rows are h =
      subst (AreRows rows) (laid_listed answers [] (row_lists_of s answers are) tt) h
