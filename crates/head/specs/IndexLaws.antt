-- An index goes along with its part.
use Rattle.std.specs.Prelude.{◌≡◌, ◌≢◌, ℕ, zero, suc, ◌<◌, ◌+◌, Bool, true, false, cond, not, ◌&&◌}
use Rattle.std.specs.Prelude.{◌||◌, T, List, [], ◌∷◌, ◌++◌, Option, Some, map, filter, unwrap_or}
use Rattle.std.specs.Prelude.{refl, length, get_or}
use Rattle.std.proofs.Common.{sym, ◌∙◌, ap, subst, arith}
use Rattle.std.specs.Str.{bytes_eq}
use Rattle.std.specs.declared.cmp.Ordering.{Ordering}
use Rattle.std.specs.declared.cmp.Ordering.TheVariants.{Less, Equal, Greater}
use Rattle.std.specs.Ordering.{nat_cmp, ordering_then, eq_by_cmp, is_eq, is_lt}
use Rattle.std.specs.Cmp.{Equal-is}
use Rattle.std.specs.Cmp.Lexicographic.{slice_cmp, texts_ties}
use Rattle.std.specs.List.{list_all, All}
use Rattle.std.specs.FinMap.Entries.{find, is_sorted, below_all, find-put, is_sorted-put}
use Rattle.std.proofs.lemmas.Cmp.{nat_list_cmp_total}
use Rattle.labels.specs.Labels.{Labels, text_cmp, pair_cmp, value_of, IsByName}
use Rattle.labels.specs.LabelSets.{IsLabelSet}
use Rattle.labels.specs.Rows.{Row}
use Rattle.labels.specs.Parts.{Part, references_where, carries}
use Rattle.labels.proofs.Texts.{text_self, pair_total, pair_exact, bytes_exact, bytes_turn}
use Rattle.labels.proofs.Times.{both_T, first_T, second_T, T_of, not_T, true_not_false}
use Rattle.head.specs.Index.{Pair, PairLists, listed, listed_more, listed_each, IsIndexOf, IsProper}

-- whether one of the pairs is this one
abbrev pub has_pair : Pair → Labels → Bool
has_pair q [] = false
has_pair q (p ∷ ps) = eq_by_cmp pair_cmp q p || has_pair q ps

less_is : (o : Ordering) → T (is_lt o) → o ≡ Less
less_is Less t = refl
less_is Equal t = absurd t
less_is Greater t = absurd t

then_other : (o s : Ordering) → is_eq o ≡ false → is_eq (ordering_then o s) ≡ false
then_other Less s e = refl
then_other Equal s e = absurd (true_not_false e)
then_other Greater s e = refl

-- a name below all names stands in no pair
pub above_name : (n v : List ℕ) (ps : Labels) → T (below_all (slice_cmp nat_cmp) n ps)
    → has_pair (n, v) ps ≡ false
above_name n v [] h = refl
above_name n v (p ∷ ps) h =
    ap (λ o. is_eq (ordering_then o (text_cmp v p.1)) || has_pair (n, v) ps)
    (less_is (text_cmp n p.0) (first_T _ _ h))
    ∙ above_name n v ps (second_T _ _ h)

full_and : (v w : List ℕ) (b : Bool) → T (not (bytes_eq v [])) → bytes_eq v w ≡ b
    → b ≡ (not (bytes_eq w []) && b)
full_and v w true full e =
    subst (λ (z : List ℕ). true ≡ (not (bytes_eq z []) && true)) (bytes_exact v w e)
    (sym (ap (λ b. not b && true) (not_T _ full)))
full_and v w false full e =
    elim (bytes_eq w []) as (λ b. false ≡ (not b && false)) [ true ↦ refl | false ↦ refl ]

or_false : (b : Bool) → (b || false) ≡ b
or_false true = refl
or_false false = refl

at_name : (n v w : List ℕ) (ps : Labels) → T (below_all (slice_cmp nat_cmp) n ps)
    → T (not (bytes_eq v []))
    → has_pair (n, w) ((n, v) ∷ ps) ≡ (not (bytes_eq w []) && bytes_eq v w)
at_name n v w ps above full =
    ap (λ o. is_eq (ordering_then o (text_cmp w v)) || has_pair (n, w) ps) (text_self n)
    ∙ ap (λ b. is_eq (text_cmp w v) || b) (above_name n w ps above)
    ∙ or_false (is_eq (text_cmp w v))
    ∙ sym (texts_ties w v) ∙ bytes_turn w v
    ∙ full_and v w (bytes_eq v w) full refl

none_empty : (w : List ℕ) → false ≡ (not (bytes_eq w []) && bytes_eq [] w)
none_empty [] = refl
none_empty (x ∷ xs) = refl

-- a label set without its first pair
pub proper-rest : (p : Pair) (ps : Labels) → IsProper (p ∷ ps) → IsProper ps
proper-rest p ps h = record {
  by_name =
      second_T (below_all (slice_cmp nat_cmp) p.0 ps) (is_sorted (slice_cmp nat_cmp) ps) h.by_name;
  full =
      second_T (not (bytes_eq p.1 [])) (list_all (λ (x : Pair). not (bytes_eq x.1 [])) ps) h.full;
}

-- a name that comes before the first of some names comes before all
before_each : (n : List ℕ) (ps : Labels) → IsByName ps
    → ((d : Pair) → 0 < length ps → slice_cmp nat_cmp n (get_or ps 0 d).0 ≡ Less)
    → T (below_all (slice_cmp nat_cmp) n ps)
before_each n [] h first = tt
before_each n (p ∷ ps) h first =
    let less : text_cmp n p.0 ≡ Less = first p (omega arith) in
    both_T _ _ (T_of _ (ap is_lt less))
    (before_each n ps (later_names p ps h)
    (λ d l. nat_list_cmp_total.trans n p.0 (get_or ps 0 d).0 less (next_name p ps h d l)))
  where
    later_names : (q : Pair) (qs : Labels) → IsByName (q ∷ qs) → IsByName qs
    later_names q qs g =
        λ k d l. let e : suc k + 1 ≡ suc (k + 1) = omega arith in
        subst (λ m. text_cmp (get_or qs k d).0 (get_or (q ∷ qs) m d).0 ≡ Less) e
        (g (suc k) d (omega (arith, l)))

    next_name : (q : Pair) (qs : Labels) → IsByName (q ∷ qs) → (d : Pair) → 0 < length qs
        → text_cmp q.0 (get_or qs 0 d).0 ≡ Less
    next_name q qs g d l =
        let e : zero + 1 ≡ suc zero = omega arith in
        subst (λ m. text_cmp q.0 (get_or (q ∷ qs) m d).0 ≡ Less) e (g 0 d (omega (arith, l)))

by_name_sorted : (ps : Labels) → IsByName ps → T (is_sorted (slice_cmp nat_cmp) ps)
by_name_sorted [] h = tt
by_name_sorted (p ∷ ps) h =
    both_T _ _
    (before_each p.0 ps
    (λ k d l. let e : suc k + 1 ≡ suc (k + 1) = omega arith in
    subst (λ m. text_cmp (get_or ps k d).0 (get_or (p ∷ ps) m d).0 ≡ Less) e
    (h (suc k) d (omega (arith, l))))
    (λ d l. let e : zero + 1 ≡ suc zero = omega arith in
    subst (λ m. text_cmp p.0 (get_or (p ∷ ps) m d).0 ≡ Less) e (h 0 d (omega (arith, l)))))
    (by_name_sorted ps
    (λ k d l. let e : suc k + 1 ≡ suc (k + 1) = omega arith in
    subst (λ m. text_cmp (get_or ps k d).0 (get_or (p ∷ ps) m d).0 ≡ Less) e
    (h (suc k) d (omega (arith, l)))))

full_value : (v : List ℕ) → v ≢ [] → T (not (bytes_eq v []))
full_value [] h = absurd (h refl)
full_value (x ∷ xs) h = tt

all_full : (ps : Labels) → All (λ pair. pair.1 ≢ []) ps
    → T (list_all (λ (p : Pair). not (bytes_eq p.1 [])) ps)
all_full [] h = tt
all_full (p ∷ ps) h =
    both_T _ _ (full_value p.1 (h 0 p (omega arith)))
    (all_full ps (λ k d l. h (suc k) d (omega (arith, l))))

pub proper_set : (ps : Labels) → IsLabelSet ps → IsProper ps
proper_set ps h = record { by_name = by_name_sorted ps h.by_name; full = all_full ps h.valued }

-- a label set carries just its pairs
pub carries-pairs : (n w : List ℕ) (ps : Labels) → IsProper ps → has_pair (n, w) ps ≡ carries n w ps
carries-pairs n w [] h = none_empty w
carries-pairs n w (p ∷ ps) h = go (carries-pairs n w ps (proper-rest p ps h)) (bytes_eq p.0 n) refl
  where
    go : has_pair (n, w) ps ≡ carries n w ps → (b : Bool) → bytes_eq p.0 n ≡ b
        → has_pair (n, w) (p ∷ ps)
        ≡ (not (bytes_eq w []) && bytes_eq (cond b p.1 (value_of ps n)) w)
    go rest true e =
        subst (λ (m : List ℕ). has_pair (m, w) (p ∷ ps) ≡ (not (bytes_eq w []) && bytes_eq p.1 w))
        (bytes_exact p.0 n e) (at_name p.0 p.1 w ps (first_T _ _ h.by_name) (first_T _ _ h.full))
    go rest false e =
        ap (λ b. b || has_pair (n, w) ps)
        (then_other (text_cmp n p.0) (text_cmp w p.1)
        (sym (texts_ties n p.0) ∙ bytes_turn n p.0 ∙ e))
        ∙ rest

unwrap_cond : (b : Bool) (xs : List ℕ) (o : Option (List ℕ))
    → unwrap_or (cond b (Some xs) o) [] ≡ cond b xs (unwrap_or o [])
unwrap_cond true xs o = refl
unwrap_cond false xs o = refl

pub listed-more : (q p : Pair) (r : ℕ) (lists : PairLists)
    → listed q (listed_more p r lists)
    ≡ cond (eq_by_cmp pair_cmp q p) (listed p lists ++ r ∷ []) (listed q lists)
listed-more q p r lists =
    ap (λ (o : Option (List ℕ)). unwrap_or o [])
    (find-put pair_cmp pair_total q p (listed p lists ++ r ∷ []) lists)
    ∙ unwrap_cond (eq_by_cmp pair_cmp q p) (listed p lists ++ r ∷ []) (find pair_cmp q lists)

-- the list of a pair of the label set has the reference last, and no other list is changed
pub listed-listed_each : (q : Pair) (r : ℕ) (ps : Labels) (lists : PairLists) → IsProper ps
    → listed q (listed_each ps r lists)
    ≡ cond (has_pair q ps) (listed q lists ++ r ∷ []) (listed q lists)
listed-listed_each q r [] lists h = refl
listed-listed_each q r (p ∷ ps) lists h =
    listed-listed_each q r ps (listed_more p r lists) (proper-rest p ps h)
    ∙ go (eq_by_cmp pair_cmp q p) refl
  where
    go : (b : Bool) → eq_by_cmp pair_cmp q p ≡ b
        → cond (has_pair q ps) (listed q (listed_more p r lists) ++ r ∷ [])
        (listed q (listed_more p r lists))
        ≡ cond (b || has_pair q ps) (listed q lists ++ r ∷ []) (listed q lists)
    go true e =
        let same : q ≡ p = pair_exact q p ((Equal-is (pair_cmp q p)).0 e) in
        let not_there : has_pair q ps ≡ false =
        subst (λ (x : Pair). has_pair x ps ≡ false) (sym same)
        (above_name p.0 p.1 ps (first_T _ _ h.by_name)) in
        let now : listed q (listed_more p r lists) ≡ listed q lists ++ r ∷ [] =
        listed-more q p r lists
        ∙ ap (λ b. cond b (listed p lists ++ r ∷ []) (listed q lists)) e
        ∙ ap (λ (x : Pair). listed x lists ++ r ∷ []) (sym same) in
        ap (λ b. cond b (listed q (listed_more p r lists) ++ r ∷ [])
        (listed q (listed_more p r lists))) not_there ∙ now
    go false e =
        let now : listed q (listed_more p r lists) ≡ listed q lists =
        listed-more q p r lists
        ∙ ap (λ b. cond b (listed p lists ++ r ∷ []) (listed q lists)) e in
        ap (λ (xs : List ℕ). cond (has_pair q ps) (xs ++ r ∷ []) xs) now

pub is_sorted-listed_each : (ps : Labels) (r : ℕ) (lists : PairLists)
    → T (is_sorted pair_cmp lists) → T (is_sorted pair_cmp (listed_each ps r lists))
is_sorted-listed_each [] r lists h = h
is_sorted-listed_each (p ∷ ps) r lists h =
    is_sorted-listed_each ps r (listed_more p r lists)
    (is_sorted-put pair_cmp pair_total p (listed p lists ++ r ∷ []) lists h)

more_than_none : (xs : List ℕ) (r : ℕ) → Some (xs ++ r ∷ []) ≢ Some []
more_than_none [] r e = cc
more_than_none (x ∷ xs) r e = cc

filled_cond : (b : Bool) (xs : List ℕ) (r : ℕ) (o : Option (List ℕ)) → o ≢ Some []
    → cond b (Some (xs ++ r ∷ [])) o ≢ Some []
filled_cond true xs r o h e = more_than_none xs r e
filled_cond false xs r o h e = h e

pub filled-listed_each : (q : Pair) (ps : Labels) (r : ℕ) (lists : PairLists)
    → find pair_cmp q lists ≢ Some [] → find pair_cmp q (listed_each ps r lists) ≢ Some []
filled-listed_each q [] r lists h = h
filled-listed_each q (p ∷ ps) r lists h =
    filled-listed_each q ps r (listed_more p r lists)
    (subst (λ (o : Option (List ℕ)). o ≢ Some [])
    (sym (find-put pair_cmp pair_total q p (listed p lists ++ r ∷ []) lists))
    (filled_cond (eq_by_cmp pair_cmp q p) (listed p lists) r (find pair_cmp q lists) h))

firsts_cond : (b : Bool) (row : ℕ × Row)
    → map (λ (x : ℕ × Row). x.0) (cond b (row ∷ []) []) ≡ cond b (row.0 ∷ []) []
firsts_cond true row = refl
firsts_cond false row = refl

end_cond : (b : Bool) (xs : List ℕ) (r : ℕ) → xs ++ cond b (r ∷ []) [] ≡ cond b (xs ++ r ∷ []) xs
end_cond true xs r = refl
end_cond false xs r = append_nil xs
  where
    append_nil : (ys : List ℕ) → ys ++ [] ≡ ys
    append_nil [] = refl
    append_nil (y ∷ ys) = ap (λ zs. y ∷ zs) (append_nil ys)

pub references_where-last : (test : Labels → Bool) (part : Part) (row : ℕ × Row)
    → references_where test (part ++ row ∷ [])
    ≡ cond (test row.1.0) (references_where test part ++ row.0 ∷ [])
    (references_where test part)
references_where-last test [] row = firsts_cond (test row.1.0) row
references_where-last test (x ∷ xs) row = go (references_where-last test xs row) (test x.1.0)
  where
    out : (b : Bool) (ys : List ℕ)
        → x.0 ∷ cond b (ys ++ row.0 ∷ []) ys ≡ cond b ((x.0 ∷ ys) ++ row.0 ∷ []) (x.0 ∷ ys)
    out true ys = refl
    out false ys = refl

    go : references_where test (xs ++ row ∷ [])
        ≡ cond (test row.1.0) (references_where test xs ++ row.0 ∷ []) (references_where test xs)
        → (b : Bool)
        → map (λ (y : ℕ × Row). y.0)
        (cond b (x ∷ filter (λ (y : ℕ × Row). test y.1.0) (xs ++ row ∷ []))
        (filter (λ (y : ℕ × Row). test y.1.0) (xs ++ row ∷ [])))
        ≡ cond (test row.1.0)
        (map (λ (y : ℕ × Row). y.0)
        (cond b (x ∷ filter (λ (y : ℕ × Row). test y.1.0) xs)
        (filter (λ (y : ℕ × Row). test y.1.0) xs)) ++ row.0 ∷ [])
        (map (λ (y : ℕ × Row). y.0)
        (cond b (x ∷ filter (λ (y : ℕ × Row). test y.1.0) xs)
        (filter (λ (y : ℕ × Row). test y.1.0) xs)))
    go ih true = ap (λ ys. x.0 ∷ ys) ih ∙ out (test row.1.0) (references_where test xs)
    go ih false = ih

-- an index of the empty part
pub IsIndexOf-empty : IsIndexOf [] []
IsIndexOf-empty =
    record { ascending = tt; filled = λ name value e. cc; listed = λ name value. refl }

-- a series with a further reference goes last
pub IsIndexOf-last : (lists : PairLists) (part : Part) (r : ℕ) (row : Row) → IsProper row.0
    → IsIndexOf lists part → IsIndexOf (listed_each row.0 r lists) (part ++ (r, row) ∷ [])
IsIndexOf-last lists part r row proper h = record {
  ascending = is_sorted-listed_each row.0 r lists h.ascending;
  filled = λ name value. filled-listed_each (name, value) row.0 r lists (h.filled name value);
  listed = λ name value.
      listed-listed_each (name, value) r row.0 lists proper
      ∙ ap (λ b. cond b (listed (name, value) lists ++ r ∷ []) (listed (name, value) lists))
      (carries-pairs name value row.0 proper)
      ∙ ap (λ (xs : List ℕ). cond (carries name value row.0) (xs ++ r ∷ []) xs)
      (h.listed name value)
      ∙ sym (references_where-last (carries name value) part (r, row));
}

-- the label sets of a part, without the samples
abbrev pub labelled : Part → List (ℕ × Labels)
labelled part = map (λ row. (row.0, row.1.0)) part

abbrev where_labelled : (Labels → Bool) → List (ℕ × Labels) → List ℕ
where_labelled test ls = map (λ (l : ℕ × Labels). l.0) (filter (λ (l : ℕ × Labels). test l.1) ls)

references_where-labelled : (test : Labels → Bool) (part : Part)
    → references_where test part ≡ where_labelled test (labelled part)
references_where-labelled test [] = refl
references_where-labelled test (row ∷ rows) =
    go (references_where-labelled test rows) (test row.1.0)
  where
    go : references_where test rows ≡ where_labelled test (labelled rows)
        → (b : Bool)
        → map (λ (y : ℕ × Row). y.0)
        (cond b (row ∷ filter (λ (y : ℕ × Row). test y.1.0) rows)
        (filter (λ (y : ℕ × Row). test y.1.0) rows))
        ≡ map (λ (l : ℕ × Labels). l.0)
        (cond b ((row.0, row.1.0) ∷ filter (λ (l : ℕ × Labels). test l.1) (labelled rows))
        (filter (λ (l : ℕ × Labels). test l.1) (labelled rows)))
    go ih true = ap (λ ys. row.0 ∷ ys) ih
    go ih false = ih

-- an index does not see samples
pub IsIndexOf-labelled : (lists : PairLists) (part other : Part) → labelled part ≡ labelled other
    → IsIndexOf lists part → IsIndexOf lists other
IsIndexOf-labelled lists part other same h = record {
  ascending = h.ascending;
  filled = h.filled;
  listed = λ name value.
      h.listed name value
      ∙ references_where-labelled (carries name value) part
      ∙ ap (where_labelled (carries name value)) same
      ∙ sym (references_where-labelled (carries name value) other);
}
