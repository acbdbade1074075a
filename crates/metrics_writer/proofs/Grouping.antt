-- Rows of one metric together.
use Rattle.std.proofs.Common.{◌≡◌, ◌⊎◌, ℕ, Bool, true, false, not, ◌||◌, List, [], ◌∷◌, ◌++◌}
use Rattle.std.proofs.Common.{refl, sym, ap, subst, ◌∙◌, append_assoc, inl, inr, ◌+◌, ◌<◌, length}
use Rattle.std.proofs.Common.{take, get_or, add-one}
use Rattle.std.specs.Borrow.{Bor}
use Rattle.std.proofs.Math.Seq.{take-suc}
use Rattle.std.specs.Prelude.{filter, map, IsPermutation, if◌then◌else◌}
use Rattle.std.specs.List.{AllByRecursion, flat_map, list_any}
use Rattle.std.specs.Ordering.{is_eq, is_lt, ordering_reverse}
use Rattle.std.specs.Str.{bytes_eq}
use Rattle.std.specs.Cmp.Lexicographic.{texts_ties}
use Rattle.std.specs.declared.cmp.Ordering.{Ordering}
use Rattle.std.specs.declared.cmp.Ordering.TheVariants.{Less, Equal, Greater}
use Rattle.std.proofs.lemmas.Bool.{cases_Bool}
use Rattle.std.proofs.lemmas.List.{append-nil}
use Rattle.std.proofs.lemmas.List.Concat.{flat_map-append}
use Rattle.std.proofs.lemmas.List.Elements.{filter-append}
use Rattle.std.proofs.lemmas.List.Folds.{list_any-append}
use Rattle.std.proofs.lemmas.List.Sorted.{IsPermutation-cons, IsPermutation-filter_both}
use Rattle.std.proofs.lemmas.List.Sorted.{IsPermutation-refl}
use Rattle.std.proofs.lemmas.List.Sorted.{IsPermutation-trans}
use Rattle.labels.specs.Labels.{text_cmp}
use Rattle.labels.specs.Rows.{Row}
use Rattle.labels.proofs.Texts.{bytes_exact, bytes_self, bytes_turn, text_exact, text_total}
use Rattle.metrics_writer.specs.Groups.{grouped, is_of, metrics_of, of_metric, other_metrics}
use Rattle.metrics_writer.specs.Series.{metric_of, row_text, rows_text}

-- the rows of some metrics
abbrev pub of_metrics : List Row → List (List ℕ) → List Row
of_metrics rows metrics = flat_map (λ metric. of_metric metric rows) metrics

abbrev pub is_other : List ℕ → Row → Bool
is_other metric row = not (is_of metric row)

turned : (a b : List ℕ) → bytes_eq a b ≡ false → bytes_eq b a ≡ false
turned a b e = bytes_turn b a ∙ e

-- a row is of one metric alone
one_metric : (m x : List ℕ) (row : Row) → bytes_eq m x ≡ false → is_of x row ≡ true
    → is_of m row ≡ false
one_metric m x row apart is =
    subst (λ (n : List ℕ). bytes_eq m n ≡ false) (bytes_exact x (metric_of row.0) is) apart

none_of : (m x : List ℕ) (rows : List Row) → bytes_eq m x ≡ false
    → of_metric m (of_metric x rows) ≡ []
none_of m x [] apart = refl
none_of m x (row ∷ rows) apart =
    elim (cases_Bool (is_of x row)) [
      | inl e ↦ rw (e, one_metric m x row apart e) (none_of m x rows apart)
      | inr e ↦ rw e (none_of m x rows apart)
    ]

same_of : (m : List ℕ) (rows : List Row) → of_metric m (of_metric m rows) ≡ of_metric m rows
same_of m [] = refl
same_of m (row ∷ rows) =
    elim (cases_Bool (is_of m row)) [
      | inl e ↦ rw (e, e) (ap (λ (r : List Row). row ∷ r) (same_of m rows))
      | inr e ↦ rw e (same_of m rows)
    ]

all_other : (m x : List ℕ) (rows : List Row) → bytes_eq m x ≡ false
    → filter (is_other m) (of_metric x rows) ≡ of_metric x rows
all_other m x [] apart = refl
all_other m x (row ∷ rows) apart =
    elim (cases_Bool (is_of x row)) [
      | inl e ↦ rw (e, one_metric m x row apart e) (ap (λ (r : List Row). row ∷ r)
          (all_other m x rows apart))
      | inr e ↦ rw e (all_other m x rows apart)
    ]

none_other : (m : List ℕ) (rows : List Row) → filter (is_other m) (of_metric m rows) ≡ []
none_other m [] = refl
none_other m (row ∷ rows) =
    elim (cases_Bool (is_of m row)) [
      | inl e ↦ rw (e, e) (none_other m rows)
      | inr e ↦ rw e (none_other m rows)
    ]

-- the rows of other metrics are those that are not of this one
others_are : (h : List ℕ) (rows : List Row) (ms : List (List ℕ))
    → of_metrics rows (other_metrics h ms) ≡ filter (is_other h) (of_metrics rows ms)
others_are h rows [] = refl
others_are h rows (x ∷ xs) =
    let split = filter-append (is_other h) (of_metric x rows) (of_metrics rows xs) in
    elim (cases_Bool (bytes_eq x h)) [
      | inl e ↦
          let none : filter (is_other h) (of_metric x rows) ≡ [] =
          subst (λ (n : List ℕ). filter (is_other h) (of_metric n rows) ≡ [])
          (sym (bytes_exact x h e)) (none_other h rows) in
          rw (e, split, none) (others_are h rows xs)
      | inr e ↦ rw (e, split, all_other h x rows (turned x h e))
          (ap (λ (r : List Row). of_metric x rows ++ r) (others_are h rows xs))
    ]

-- of other metrics a row before does not count
without_first : (row : Row) (rows : List Row) (ms : List (List ℕ))
    → of_metrics (row ∷ rows) (other_metrics (metric_of row.0) ms)
    ≡ of_metrics rows (other_metrics (metric_of row.0) ms)
without_first row rows [] = refl
without_first row rows (x ∷ xs) =
    elim (cases_Bool (bytes_eq x (metric_of row.0))) [
      | inl e ↦ rw e (without_first row rows xs)
      | inr e ↦ rw (e, e) (ap (λ (r : List Row). of_metric x rows ++ r) (without_first row rows
          xs))
    ]

grouped_cons : (row : Row) (rows : List Row)
    → grouped (row ∷ rows)
    ≡ row ∷ (of_metric (metric_of row.0) rows
    ++ filter (is_other (metric_of row.0)) (grouped rows))
grouped_cons row rows =
    let h = metric_of row.0 in
    let others = without_first row rows (metrics_of rows) ∙ others_are h rows (metrics_of rows) in
    rw (bytes_self h) (ap (λ (r : List Row). row ∷ (of_metric h rows ++ r)) others)

-- what is not of one metric has all rows of another
other_has : (m h : List ℕ) (rows : List Row) → bytes_eq m h ≡ false
    → of_metric m (filter (is_other h) rows) ≡ of_metric m rows
other_has m h [] apart = refl
other_has m h (row ∷ rows) apart =
    elim (cases_Bool (is_of h row)) [
      | inl e ↦ rw (e, one_metric m h row apart e) (other_has m h rows apart)
      | inr e ↦ elim (cases_Bool (is_of m row)) [
        | inl f ↦ rw (e, f) (ap (λ (r : List Row). row ∷ r) (other_has m h rows apart))
        | inr f ↦ rw (e, f) (other_has m h rows apart)
      ]
    ]

other_has_none : (h : List ℕ) (rows : List Row) → of_metric h (filter (is_other h) rows) ≡ []
other_has_none h [] = refl
other_has_none h (row ∷ rows) =
    elim (cases_Bool (is_of h row)) [
      | inl e ↦ rw e (other_has_none h rows)
      | inr e ↦ rw (e, e) (other_has_none h rows)
    ]

-- the rows of each metric stay in their order
pub of_grouped : (m : List ℕ) (rows : List Row) → of_metric m (grouped rows) ≡ of_metric m rows
of_grouped m [] = refl
of_grouped m (row ∷ rows) =
    let h = metric_of row.0 in
    let others = filter (is_other h) (grouped rows) in
    let split = filter-append (is_of m) (of_metric h rows) others in
    ap (of_metric m) (grouped_cons row rows)
    ∙ elim (cases_Bool (bytes_eq m h)) [
      | inl e ↦
          let same = bytes_exact m h e in
          let mine : of_metric m (of_metric h rows) ≡ of_metric m rows =
          ap (λ (n : List ℕ). of_metric m (of_metric n rows)) (sym same) ∙ same_of m rows in
          let none : of_metric m others ≡ [] =
          ap (λ (n : List ℕ). of_metric n others) same ∙ other_has_none h (grouped rows) in
          rw (e, split, mine, none)
          (ap (λ (r : List Row). row ∷ r) (append-nil (of_metric m rows)))
      | inr e ↦ rw (e, split, none_of m h rows e)
          (other_has m h (grouped rows) e ∙ of_grouped m rows)
    ]

-- the first row, those of its metric, and the others, as they stand without it
pub grouped_first : (row : Row) (rows : List Row)
    → grouped (row ∷ rows)
    ≡ row ∷ (of_metric (metric_of row.0) (grouped rows)
    ++ filter (is_other (metric_of row.0)) (grouped rows))
grouped_first row rows =
    grouped_cons row rows
    ∙ ap (λ (r : List Row). row ∷ (r ++ filter (is_other (metric_of row.0)) (grouped rows)))
    (sym (of_grouped (metric_of row.0) rows))

pub grouped_permuted : (rows : List Row) → IsPermutation rows (grouped rows)
grouped_permuted [] = IsPermutation-refl []
grouped_permuted (row ∷ rows) =
    let h = metric_of row.0 in
    let g = grouped rows in
    let parts = of_metric h g ++ filter (is_other h) g in
    subst (λ (r : List Row). IsPermutation (row ∷ rows) r) (sym (grouped_first row rows))
    (IsPermutation-cons row rows parts
    (IsPermutation-trans rows g parts (grouped_permuted rows)
    (IsPermutation-filter_both (is_of h) (is_other h) (λ r. refl) g)))

-- NAMES THAT ASCEND
abbrev pub ascend_from : List ℕ → List Row → Bool
ascend_from last [] = true
ascend_from last (row ∷ rows) =
    if is_lt (text_cmp (metric_of row.0) last) then false else ascend_from (metric_of row.0) rows

-- no row is of this metric
abbrev IsAbsent : List ℕ → List Row → Type 0
IsAbsent m rows = AllByRecursion (λ (row : Row). is_of m row ≡ false) rows

absent_none : (m : List ℕ) (rows : List Row) → IsAbsent m rows → of_metric m rows ≡ []
absent_none m [] all = refl
absent_none m (row ∷ rows) all = rw all.0 (absent_none m rows all.1)

absent_all : (m : List ℕ) (rows : List Row) → IsAbsent m rows → filter (is_other m) rows ≡ rows
absent_all m [] all = refl
absent_all m (row ∷ rows) all = rw all.0 (ap (λ (r : List Row). row ∷ r) (absent_all m rows all.1))

not_before : (o : Ordering) → is_lt o ≡ false → (ordering_reverse o ≡ Less) ⊎ (o ≡ Equal)
not_before Less e = absurd cc
not_before Equal e = inr refl
not_before Greater e = inl refl

-- what is below a text is below one that does not stand before it
below_next : (m last x : List ℕ) → text_cmp m last ≡ Less → is_lt (text_cmp x last) ≡ false
    → text_cmp m x ≡ Less
below_next m last x less behind =
    elim (not_before (text_cmp x last) behind) [
      | inl e ↦ text_total.trans m last x less (text_total.antisymm last x ∙ e)
      | inr e ↦ subst (λ (y : List ℕ). text_cmp m y ≡ Less) (sym (text_exact x last e)) less
    ]

less_apart : (m x : List ℕ) → text_cmp m x ≡ Less → bytes_eq m x ≡ false
less_apart m x less = texts_ties m x ∙ ap is_eq less

-- where names ascend, a metric that is passed does not come again
passed_gone : (m last : List ℕ) (rows : List Row) → text_cmp m last ≡ Less
    → ascend_from last rows ≡ true → IsAbsent m rows
passed_gone m last [] less up = tt
passed_gone m last (row ∷ rows) less up =
    let x = metric_of row.0 in
    elim (cases_Bool (is_lt (text_cmp x last))) [
      | inl e ↦ absurd (let f = rw e at up in cc)
      | inr e ↦
          let more = below_next m last x less e in
          (less_apart m x more, passed_gone m x rows more (rw e at up))
    ]

in_front : (m : List ℕ) (rows : List Row) → ascend_from m rows ≡ true
    → of_metric m rows ++ filter (is_other m) rows ≡ rows
in_front m [] up = refl
in_front m (row ∷ rows) up =
    let x = metric_of row.0 in
    elim (cases_Bool (is_lt (text_cmp x m))) [
      | inl e ↦ absurd (let f = rw e at up in cc)
      | inr e ↦
          let rest : ascend_from x rows ≡ true = rw e at up in
          elim (cases_Bool (bytes_eq m x)) [
            | inl f ↦ rw f (ap (λ (r : List Row). row ∷ r) (in_front m rows
                (subst (λ (n : List ℕ). ascend_from n rows ≡ true) (sym (bytes_exact m x f)) rest)))
            | inr f ↦
                let less : text_cmp m x ≡ Less = elim (not_before (text_cmp x m) e) [
                  | inl g ↦ text_total.antisymm m x ∙ g
                  | inr g ↦ absurd (
                      let k : bytes_eq x m ≡ true = texts_ties x m ∙ ap is_eq g in
                      let n = sym (turned m x f) ∙ k in cc)
                ] in
                let gone = passed_gone m x rows less rest in
                rw (f, absent_none m rows gone, absent_all m rows gone) refl
          ]
    ]

-- the first name is not before the empty text
ascend_grouped : (last : List ℕ) (rows : List Row) → ascend_from last rows ≡ true
    → grouped rows ≡ rows
ascend_grouped last [] up = refl
ascend_grouped last (row ∷ rows) up =
    let h = metric_of row.0 in
    elim (cases_Bool (is_lt (text_cmp h last))) [
      | inl e ↦ absurd (let f = rw e at up in cc)
      | inr e ↦
          let rest : ascend_from h rows ≡ true = rw e at up in
          let same = ascend_grouped h rows rest in
          grouped_first row rows
          ∙ (ap (λ (g : List Row). row ∷ (of_metric h g ++ filter (is_other h) g)) same
          ∙ ap (λ (r : List Row). row ∷ r) (in_front h rows rest))
    ]

pub names_up : (rows : List Row) → ascend_from [] rows ≡ true → grouped rows ≡ rows
names_up rows up = ascend_grouped [] rows up

-- METRICS, ROW BY ROW
-- the rows of a metric that is none of these
abbrev pub left_of : List ℕ → List (List ℕ) → List Row → List Row
left_of m ms rows = if list_any (bytes_eq m) ms then [] else of_metric m rows

abbrev pub with_metric : List (List ℕ) → List ℕ → List (List ℕ)
with_metric ms m = if list_any (bytes_eq m) ms then ms else ms ++ m ∷ []

any_other : (m h : List ℕ) (ms : List (List ℕ)) → bytes_eq m h ≡ false
    → list_any (bytes_eq m) (other_metrics h ms) ≡ list_any (bytes_eq m) ms
any_other m h [] apart = refl
any_other m h (x ∷ xs) apart =
    elim (cases_Bool (bytes_eq x h)) [
      | inl e ↦
          let other : bytes_eq m x ≡ false =
          subst (λ (n : List ℕ). bytes_eq m n ≡ false) (sym (bytes_exact x h e)) apart in
          rw (e, other) (any_other m h xs apart)
      | inr e ↦ rw e (ap (λ (b : Bool). bytes_eq m x || b) (any_other m h xs apart))
    ]

pub metrics_more : (rows : List Row) (row : Row)
    → metrics_of (rows ++ row ∷ []) ≡ with_metric (metrics_of rows) (metric_of row.0)
metrics_more [] row = refl
metrics_more (r ∷ rs) row =
    let h = metric_of r.0 in
    let m = metric_of row.0 in
    let ms = metrics_of rs in
    let others = other_metrics h ms in
    let split = filter-append (λ (x : List ℕ). not (bytes_eq x h)) ms (m ∷ []) in
    ap (λ (xs : List (List ℕ)). h ∷ other_metrics h xs) (metrics_more rs row)
    ∙ elim (cases_Bool (bytes_eq m h)) [
      | inl e ↦ elim (cases_Bool (list_any (bytes_eq m) ms)) [
        | inl f ↦ rw (e, f) refl
        | inr f ↦ rw (e, f, split, e) (ap (λ (xs : List (List ℕ)). h ∷ xs) (append-nil others))
      ]
      | inr e ↦ elim (cases_Bool (list_any (bytes_eq m) ms)) [
        | inl f ↦ rw (e, any_other m h ms e, f) refl
        | inr f ↦ rw (e, any_other m h ms e, f, split, e) refl
      ]
    ]

rows_both : (places : ℕ) (xs ys : List Row)
    → rows_text places (xs ++ ys) ≡ rows_text places xs ++ rows_text places ys
unfolding rows_text
rows_both places xs ys = flat_map-append _ xs ys

-- the rows of the metric of one more row are appended, unless they were before
pub text_more : (places : ℕ) (rows front : List Row) (row : Row) (old new : List ℕ)
    (ms : List (List ℕ)) → ms ≡ metrics_of front → (start : List ℕ)
    → old ≡ start ++ rows_text places (of_metrics rows ms)
    → new ≡ old ++ rows_text places (left_of (metric_of row.0) ms rows)
    → new ≡ start ++ rows_text places (of_metrics rows (metrics_of (front ++ row ∷ [])))
text_more places rows front row old new ms is start before wrote =
    let m = metric_of row.0 in
    let more : metrics_of (front ++ row ∷ []) ≡ with_metric ms m =
    metrics_more front row ∙ ap (λ (x : List (List ℕ)). with_metric x m) (sym is) in
    let joined : of_metrics rows ms ++ left_of m ms rows ≡ of_metrics rows (with_metric ms m) =
    elim (cases_Bool (list_any (bytes_eq m) ms)) [
      | inl f ↦ rw f (append-nil (of_metrics rows ms))
      | inr f ↦ rw f
          (ap (λ (r : List Row). of_metrics rows ms ++ r) (sym (append-nil (of_metric m rows)))
          ∙ sym (flat_map-append (λ metric. of_metric metric rows) ms (m ∷ [])))
    ] in
    wrote
    ∙ (ap (λ (t : List ℕ). t ++ rows_text places (left_of m ms rows)) before
    ∙ (append_assoc start (rows_text places (of_metrics rows ms))
    (rows_text places (left_of m ms rows))
    ∙ ap (λ (t : List ℕ). start ++ t)
    (sym (rows_both places (of_metrics rows ms) (left_of m ms rows))
    ∙ (ap (rows_text places) joined
    ∙ ap (λ (x : List (List ℕ)). rows_text places (of_metrics rows x)) (sym more)))))

-- what is left of each metric then
pub left_more : (rows front : List Row) (row : Row) (q : List ℕ)
    → (if bytes_eq q (metric_of row.0) then [] else left_of q (metrics_of front) rows)
    ≡ left_of q (metrics_of (front ++ row ∷ [])) rows
left_more rows front row q =
    let m = metric_of row.0 in
    let ms = metrics_of front in
    ◌∙◌ (elim (cases_Bool (list_any (bytes_eq m) ms)) [
      | inl f ↦ elim (cases_Bool (bytes_eq q m)) [
        | inl e ↦
            let known : list_any (bytes_eq q) ms ≡ true =
            subst (λ (n : List ℕ). list_any (bytes_eq n) ms ≡ true) (sym (bytes_exact q m e)) f in
            rw (e, f, known) refl
        | inr e ↦ rw (e, f) refl
      ]
      | inr f ↦
          let both = list_any-append (bytes_eq q) ms (m ∷ []) in
          elim (cases_Bool (bytes_eq q m)) [
            | inl e ↦ elim (cases_Bool (list_any (bytes_eq q) ms)) [
              | inl g ↦ rw (e, f, both, g) refl
              | inr g ↦ rw (e, f, both, g, e) refl
            ]
            | inr e ↦ elim (cases_Bool (list_any (bytes_eq q) ms)) [
              | inl g ↦ rw (e, f, both, g) refl
              | inr g ↦ rw (e, f, both, g, e) refl
            ]
          ]
    ]) (ap (λ (x : List (List ℕ)). left_of q x rows) (sym (metrics_more front row)))

pub flat_map_map : {X Y A : Type 0} (f : Y → List A) (g : X → Y) (xs : List X)
    → flat_map (λ x. f (g x)) xs ≡ flat_map f (map g xs)
flat_map_map f g [] = refl
flat_map_map {A = A} f g (x ∷ xs) = ap (λ (r : List A). f (g x) ++ r) (flat_map_map f g xs)

-- TEXT, ROW BY ROW
pub group_text : (places : ℕ) (group : List (Bor Row))
    → flat_map (λ row. row_text places row.now) group ≡ rows_text places (map (λ row. row.now) group)
unfolding rows_text
group_text places group = flat_map_map (row_text places) (λ row. row.now) group

pub no_rows : (places : ℕ) (start : List ℕ) → start ≡ start ++ rows_text places []
unfolding rows_text
no_rows places start = sym (append-nil start)

pub take_next : (rows : List Row) (i : ℕ) (row : Row) → i < length rows → row ≡ get_or rows i row
    → take (i + 1) rows ≡ take i rows ++ row ∷ []
take_next rows i row lt is =
    rw (add-one, take-suc rows i row lt)
    (ap (λ (r : Row). take i rows ++ r ∷ []) (sym is))

pub text_next : (places : ℕ) (rows front next : List Row) (row : Row) → next ≡ front ++ row ∷ []
    → (name : List ℕ) → name ≡ metric_of row.0 → (group : List Row)
    → group ≡ left_of name (metrics_of front) rows → (start old new : List ℕ)
    → old ≡ start ++ rows_text places (of_metrics rows (metrics_of front))
    → new ≡ old ++ rows_text places group
    → new ≡ start ++ rows_text places (of_metrics rows (metrics_of next))
text_next places rows front next row is name named group taken start old new before wrote =
    subst (λ (t : List Row). new ≡ start ++ rows_text places (of_metrics rows (metrics_of t)))
    (sym is)
    (text_more places rows front row old new (metrics_of front) refl start before
    (wrote
    ∙ ap (λ (g : List Row). old ++ rows_text places g)
    (taken ∙ ap (λ (n : List ℕ). left_of n (metrics_of front) rows) named)))

pub left_next : (rows front next : List Row) (row : Row) → next ≡ front ++ row ∷ []
    → (name : List ℕ) → name ≡ metric_of row.0 → (q : List ℕ) (old new : List Row)
    → new ≡ (if bytes_eq q name then [] else old) → old ≡ left_of q (metrics_of front) rows
    → new ≡ left_of q (metrics_of next) rows
left_next rows front next row is name named q old new left before =
    subst (λ (t : List Row). new ≡ left_of q (metrics_of t) rows) (sym is)
    (left
    ∙ (ap (λ (n : List ℕ). if bytes_eq q n then [] else old) named
    ∙ (ap (λ (g : List Row). if bytes_eq q (metric_of row.0) then [] else g) before
    ∙ left_more rows front row q)))
