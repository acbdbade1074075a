-- What answers list one after another is what the query selects of the parts together.
use Rattle.std.proofs.Common.{◌≡◌, true, false, cond, T, List, [], ◌∷◌, ◌++◌, None, Some, map, inl, inr, reverse, refl, sym, ◌∙◌, ap, subst}
use Rattle.std.specs.List.{AllZip, flat_map}
use Rattle.std.specs.Ordering.{eq_by_cmp}
use Rattle.std.specs.Cmp.{Equal-is}
use Rattle.std.specs.FinMap.Entries.{find, put, is_sorted, below_all, is_sorted-put}
use Rattle.std.proofs.lemmas.Grind.{reverse_onto}
use Rattle.labels.specs.Labels.{Point, point_cmp}
use Rattle.labels.specs.Contents.{Content}
use Rattle.labels.specs.Rows.{Row, points_of, AreRows}
use Rattle.labels.specs.Parts.{Part, laid_over, over, content_of, part_kept}
use Rattle.labels.proofs.OrderLaws.{point_total, point_exact}
use Rattle.labels.proofs.Times.{first_T, second_T}
use Rattle.labels.proofs.ContentLaws.{or_else, or_else_none, find-++, find-laid_over, is_sorted-laid_over, same_content}
use Rattle.labels.proofs.Restricting.{kept-over}
use Rattle.matchers.specs.Queries.{selected_by}
use Rattle.matchers.specs.Views.{QueryView}
use Rattle.postings.specs.declared.part_name.PartName.{PartName}
use Rattle.postings.specs.declared.part_name.PartName.TheVariants.{Block, Head}
use Rattle.reply_reader.specs.declared.reply.ToldPart.{ToldPart}
use Rattle.reply_reader.specs.declared.reply.ToldPart.TheVariants.{Searched, Skipped}
use Rattle.cover.specs.declared.part_cover.PartAnswer.{PartAnswer}
use Rattle.auditor.specs.Auditing.{selected_content}
use Rattle.auditor.specs.Judgements.{answers_of}
use Rattle.auditor.specs.Listing.{listed, with_each, last_listed}
use Rattle.auditor.proofs.Merging.{Sample, find-with_each}
use Rattle.whole_audit.specs.Counting.{asks, asked_points}
use Rattle.whole_audit.specs.Wholes.{IsRightUnder, IsRightOf}
use Rattle.whole_audit.proofs.Listed.{selected_is, none_below}

-- in samples of rising points the same is found from behind
find-reverse : (q : Point) (es : List Sample) → T (is_sorted point_cmp es)
    → find point_cmp q (reverse es) ≡ find point_cmp q es
find-reverse q [] h = refl
find-reverse q (e ∷ es) h =
    ap (find point_cmp q) (reverse_onto es e [])
    ∙ find-++ q (reverse es) (e ∷ [])
    ∙ ap (λ o. or_else o (cond (eq_by_cmp point_cmp q e.0) (Some e.1) None))
    (find-reverse q es (second_T _ _ h))
    ∙ elim (eq_by_cmp point_cmp q e.0)
    as (λ b. eq_by_cmp point_cmp q e.0 ≡ b → or_else (find point_cmp q es) (cond b (Some e.1) None)
    ≡ cond b (Some e.1) (find point_cmp q es)) [
      | true ↦ λ tied.
          let same : e.0 ≡ q = sym (point_exact q e.0 ((Equal-is (point_cmp q e.0)).0 tied)) in
          let none : find point_cmp q es ≡ None =
          none_below point_cmp q es
          (subst (λ (p : Point). T (below_all point_cmp p es)) same (first_T _ _ h)) in
          ap (λ o. or_else o (Some e.1)) none
      | false ↦ λ apart. or_else_none (find point_cmp q es)
    ] refl

with_each-++ : (xs ys : List Sample) (c : Content)
    → with_each (xs ++ ys) c ≡ with_each ys (with_each xs c)
with_each-++ [] ys c = refl
with_each-++ (x ∷ xs) ys c = with_each-++ xs ys (put point_cmp x.0 x.1 c)

is_sorted-with_each : (es : List Sample) (c : Content) → T (is_sorted point_cmp c)
    → T (is_sorted point_cmp (with_each es c))
is_sorted-with_each [] c h = h
is_sorted-with_each (e ∷ es) c h =
    is_sorted-with_each es (put point_cmp e.0 e.1 c)
    (is_sorted-put point_cmp point_total e.0 e.1 c h)

-- samples that are laid in order are put one after another as they are laid over
laid_twice : (es : List Sample) (c : Content) → T (is_sorted point_cmp c)
    → with_each (laid_over es []) c ≡ laid_over es c
laid_twice es c h =
    let rising : T (is_sorted point_cmp (laid_over es [])) = is_sorted-laid_over es [] tt in
    same_content (with_each (laid_over es []) c) (laid_over es c)
    (is_sorted-with_each (laid_over es []) c h) (is_sorted-laid_over es c h)
    (λ q. find-with_each q (laid_over es []) c
    ∙ ap (λ o. or_else o (find point_cmp q c))
    (find-reverse q (laid_over es []) rising
    ∙ find-laid_over q es [] ∙ or_else_none (find point_cmp q es))
    ∙ sym (find-laid_over q es c))

-- rows that are those that the query selects of a part are put as the part is laid over
pub rows_laid : (part : Part) (query : QueryView) (rows : List Row) (c : Content)
    → AreRows rows (selected_content part query) → T (is_sorted point_cmp c)
    → with_each (points_of rows) c ≡ laid_over (asked_points query part) c
rows_laid part query rows c are h =
    ap (λ (es : Content). with_each es c) (are.points ∙ selected_is part query)
    ∙ laid_twice (asked_points query part) c h

-- of one answer
pub one_listed : (part : Part) (query : QueryView) (answer : PartAnswer)
    → AreRows answer.rows.items (selected_content part query)
    → last_listed (answer ∷ []) ≡ selected_content part query
one_listed part query answer are =
    with_each-++ (points_of answer.rows.items) [] []
    ∙ rows_laid part query answer.rows.items [] are tt
    ∙ sym (selected_is part query)

right_rows : (name : PartName) (query : QueryView) (part : Part) (answer : PartAnswer)
    → IsRightUnder name query part answer
    → AreRows answer.rows.items (selected_content part query)
right_rows (Block n) query part answer (inl sound) = sound.rows
right_rows (Block n) query part answer (inr explained) = explained.rows
right_rows Head query part answer sound = sound.rows

-- nothing is laid of a part of which nothing is selected
nothing_laid : (part : Part) (query : QueryView) (c : Content) → selected_content part query ≡ []
    → T (is_sorted point_cmp c) → laid_over (asked_points query part) c ≡ c
nothing_laid part query c none h =
    sym (laid_twice (asked_points query part) c h)
    ∙ ap (λ (es : Content). with_each es c) (sym (selected_is part query) ∙ none)

all_laid : (query : QueryView) (parts : List Part) (told : List ToldPart) (c : Content)
    → AllZip (IsRightOf query) parts told → T (is_sorted point_cmp c)
    → with_each (listed (flat_map answers_of told)) c ≡ over c (map (part_kept (asks query)) parts)
all_laid query [] [] c all h = refl
all_laid query [] (t ∷ ts) c all h = absurd all
all_laid query (p ∷ ps) [] c all h = absurd all
all_laid query (p ∷ ps) (Searched answer ∷ ts) c all h =
    with_each-++ (points_of answer.rows.items) (listed (flat_map answers_of ts)) c
    ∙ ap (with_each (listed (flat_map answers_of ts)))
    (rows_laid p query answer.rows.items c (right_rows answer.part query p answer all.0) h)
    ∙ all_laid query ps ts (laid_over (asked_points query p) c) all.1
    (is_sorted-laid_over (asked_points query p) c h)
all_laid query (p ∷ ps) (Skipped n ∷ ts) c all h =
    all_laid query ps ts c all.1 h
    ∙ ap (λ (d : Content). over d (map (part_kept (asks query)) ps))
    (sym (nothing_laid p query c all.0 h))

-- what a reply lists of parts of which it is right is what the query selects of all of them
pub whole_listed : (query : QueryView) (parts : List Part) (told : List ToldPart)
    → AllZip (IsRightOf query) parts told
    → last_listed (flat_map answers_of told) ≡ selected_by query (content_of parts)
whole_listed query parts told all =
    all_laid query parts told [] all tt ∙ sym (kept-over (asks query) parts [] tt)
