-- The samples that a query asks for, listed series by series, and how many they are.
use Rattle.std.proofs.Common.{◌≡◌, ℕ, ◌+◌, ℤ, false, cond, T, List, [], ◌∷◌, ◌++◌, Option, None, Some, is_some, length, refl, ◌∙◌, ap, arith}
use Rattle.std.specs.List.{Contains}
use Rattle.std.specs.Ordering.{int_cmp, is_lt, is_eq}
use Rattle.std.specs.declared.cmp.Ordering.{Ordering}
use Rattle.std.specs.declared.cmp.Ordering.TheVariants.{Less, Equal, Greater}
use Rattle.std.specs.FinMap.Entries.{find, put, is_sorted, below_all, length-put, is_sorted-where_key}
use Rattle.labels.specs.Labels.{Labels, Point, point_cmp, same_labels}
use Rattle.labels.specs.Contents.{Content}
use Rattle.labels.specs.Rows.{points_in}
use Rattle.labels.specs.Parts.{Part, AreDistinct, IsPart, laid_over}
use Rattle.labels.proofs.Lists.{here, there}
use Rattle.labels.proofs.OrderLaws.{point_total}
use Rattle.labels.proofs.Times.{first_T, second_T}
use Rattle.labels.proofs.ContentLaws.{or_else, find-laid_over, find-++, find-points_in, is_sorted-laid_over, labels_self}
use Rattle.labels.proofs.Restricting.{kept-over}
use Rattle.matchers.specs.Views.{QueryView}
use Rattle.auditor.specs.Auditing.{selected_content}
use Rattle.whole_audit.specs.Counting.{asks, asked_of, asked_points}

pub selected_is : (part : Part) (query : QueryView)
    → selected_content part query ≡ laid_over (asked_points query part) []
selected_is part query = kept-over (asks query) (part ∷ []) [] tt

not_tied : (o : Ordering) → T (is_lt o) → is_eq o ≡ false
not_tied Less h = refl
not_tied Equal h = absurd h
not_tied Greater h = absurd h

-- nothing is found at a key that is below all
pub none_below : {K X : Type 0} (R : K → K → Ordering) (k : K) (es : List (K × X))
    → T (below_all R k es) → find R k es ≡ None
none_below R k [] h = refl
none_below {K} {X} R k (e ∷ es) h =
    ap (λ b. cond b (Some e.1) (find R k es)) (not_tied (R k e.0) (first_T _ _ h))
    ∙ none_below R k es (second_T _ _ h)

none_else : (x y : Option ℤ) → x ≡ None → y ≡ None → or_else x y ≡ None
none_else x y e f = ap (λ o. or_else o y) e ∙ f

-- nothing is found of a label set that no series has
none_listed : (query : QueryView) (l : Labels) (t : ℤ) (part : Part)
    → ((other : ℕ × (Labels × List (ℤ × ℤ))) → Contains part other → same_labels l other.1.0 ≡ false)
    → find point_cmp (l, t) (asked_points query part) ≡ None
none_listed query l t [] apart = refl
none_listed query l t (r ∷ rs) apart =
    let ss : List (ℤ × ℤ) = asked_of query r.1.0 r.1.1 in
    find-++ (l, t) (points_in r.1.0 ss) (asked_points query rs)
    ∙ none_else _ _
    (find-points_in l t r.1.0 ss
    ∙ ap (λ b. cond b (find int_cmp t ss) None) (apart r (here r rs)))
    (none_listed query l t rs (λ o h. apart o (there r o rs h)))

put_new : (p : Point) (v : ℤ) (c : Content) → T (is_sorted point_cmp c)
    → find point_cmp p c ≡ None → length (put point_cmp p v c) ≡ length c + 1
put_new p v c h none =
    length-put point_cmp point_total p v c h
    ∙ ap (λ o. cond (is_some o) (length c) (length c + 1)) none

-- samples of one row, each at a time of its own, laid over what has no sample of its label set
laid_row : (l : Labels) (ss : List (ℤ × ℤ)) (rest : Content) → T (is_sorted int_cmp ss)
    → ((t : ℤ) → find point_cmp (l, t) rest ≡ None)
    → length (laid_over rest []) ≡ length rest
    → length (laid_over (points_in l ss ++ rest) []) ≡ length (points_in l ss ++ rest)
laid_row l [] rest h none so_far = so_far
laid_row l (s ∷ ss) rest h none so_far =
    let later : Content = points_in l ss ++ rest in
    let nothing : find point_cmp (l, s.0) (laid_over later []) ≡ None =
    find-laid_over (l, s.0) later []
    ∙ none_else _ None
    (find-++ (l, s.0) (points_in l ss) rest
    ∙ none_else _ _
    (find-points_in l s.0 l ss
    ∙ ap (λ o. cond (is_eq o) (find int_cmp s.0 ss) None) (labels_self l)
    ∙ none_below int_cmp s.0 ss (first_T _ _ h)) (none s.0)) refl in
    put_new (l, s.0) s.1 (laid_over later []) (is_sorted-laid_over later [] tt) nothing
    ∙ ap (λ n. n + 1) (laid_row l ss rest (second_T _ _ h) none so_far)
    ∙ (omega arith)

pub laid_all : (query : QueryView) (part : Part) → AreDistinct part
    → ((row : ℕ × (Labels × List (ℤ × ℤ))) → Contains part row → T (is_sorted int_cmp row.1.1))
    → length (laid_over (asked_points query part) []) ≡ length (asked_points query part)
laid_all query [] apart times = refl
laid_all query (r ∷ rs) apart times =
    laid_row r.1.0 (asked_of query r.1.0 r.1.1) (asked_points query rs)
    (is_sorted-where_key int_cmp (λ t. asks query (r.1.0, t)) r.1.1 (times r (here r rs)))
    (λ t. none_listed query r.1.0 t rs apart.0)
    (laid_all query rs apart.1 (λ row h. times row (there r row rs h)))

-- a query selects as many samples of a part as its series have for it
pub selected_length : (part : Part) (query : QueryView) → IsPart part
    → length (selected_content part query) ≡ length (asked_points query part)
selected_length part query is =
    ap length (selected_is part query) ∙ laid_all query part is.distinct is.times
