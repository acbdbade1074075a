-- The content of parts has at each point the sample of the last part that has one.
use Rattle.std.specs.Prelude.{◌≡◌, ◌↔◌, ℕ, ℤ, Bool, true, false, cond, T, List, [], ◌∷◌, ◌++◌, Option, None, Some, refl}
use Rattle.std.specs.List.{Contains}
use Rattle.std.specs.declared.cmp.Ordering.{Ordering}
use Rattle.std.specs.declared.cmp.Ordering.TheVariants.{Less, Equal, Greater}
use Rattle.std.specs.Ordering.{int_cmp, ordering_reverse, eq_by_cmp, is_eq, is_lt}
use Rattle.std.specs.Cmp.{IsTotalOrder, tied_itself, Equal-is}
use Rattle.std.specs.FinMap.{IsAntisymmetric, int_cmp-IsAntisymmetric}
use Rattle.std.specs.FinMap.Entries.{find, is_sorted, below_all}
use Rattle.std.proofs.Common.{inl, inr, sym, ◌∙◌, ap, subst}
use Rattle.std.proofs.lemmas.Cmp.{int_cmp_total}
use Rattle.labels.specs.Labels.{Labels, Point, labels_cmp, point_cmp, same_labels}
use Rattle.labels.specs.Contents.{Content}
use Rattle.labels.specs.Rows.{Row, points_in, points_of}
use Rattle.labels.specs.Parts.{Part, AreDistinct, IsPart, rows_in, laid_over, over, content_of}
use Rattle.labels.specs.LastParts.{HasSample, IsOfLast, AreParts}
use Rattle.labels.proofs.ContentLaws.{or_else, or_else_none, find-laid_over, find-++, find-points_in, is_sorted-over}
use Rattle.labels.proofs.Lists.{here, there, Contains-cases, none_in_nil}
use Rattle.labels.proofs.OrderLaws.{labels_exact, point_total, point_exact, same_self, same_turn}
use Rattle.labels.proofs.Times.{first_T, second_T}

-- ---- what is found is there, and what is there is found

some_is : (v w : ℤ) → Some v ≡ Some w → v ≡ w
some_is v w e = cc

pub in_found : {K : Type 0} (R : K → K → Ordering) → IsAntisymmetric R → (q : K) (es : List (K × ℤ)) (v : ℤ) → find R q es ≡ Some v → Contains es (q, v)
in_found R exact q [] v h = absurd cc
in_found R exact q (e ∷ es) v h = go (in_found R exact q es v) (eq_by_cmp R q e.0) refl h
  where
    go : (find R q es ≡ Some v → Contains es (q, v)) → (b : Bool) → eq_by_cmp R q e.0 ≡ b → cond b (Some e.1) (find R q es) ≡ Some v → Contains (e ∷ es) (q, v)
    go more true t f =
        let k = exact q e.0 ((Equal-is (R q e.0)).0 t) in
        let w = some_is e.1 v f in
        let s : e ≡ (q, v) = λ i. (sym k i, w i) in
        subst (λ x. Contains (e ∷ es) x) s (here e es)
    go more false t f = there e (q, v) es (more f)

lt_turned : (r : Ordering) → T (is_lt r) → is_eq (ordering_reverse r) ≡ false
lt_turned Less h = refl
lt_turned Equal h = absurd h
lt_turned Greater h = absurd h

below_has : {K : Type 0} (R : K → K → Ordering) (x q : K) (es : List (K × ℤ)) (v : ℤ) → T (below_all R x es) → Contains es (q, v) → T (is_lt (R x q))
below_has R x q [] v h c = absurd (none_in_nil (q, v) c)
below_has R x q (e ∷ es) v h c =
    elim (Contains-cases e es (q, v) c) [
      | inl s ↦ subst (λ y. T (is_lt (R x y.0))) s (first_T _ _ h)
      | inr m ↦ below_has R x q es v (second_T _ _ h) m
    ]

pub find_there : {K : Type 0} (R : K → K → Ordering) → IsTotalOrder R → (q : K) (es : List (K × ℤ)) (v : ℤ) → T (is_sorted R es) → Contains es (q, v) → find R q es ≡ Some v
find_there R o q [] v h c = absurd (none_in_nil (q, v) c)
find_there R o q (e ∷ es) v h c =
    elim (Contains-cases e es (q, v) c) [
      | inl s ↦
          let t : eq_by_cmp R q e.0 ≡ true = ap (λ y. eq_by_cmp R q y.0) s ∙ ap is_eq (tied_itself o q) in
          ap (λ b. cond b (Some e.1) (find R q es)) t ∙ ap (λ y. Some y.1) s
      | inr m ↦
          let t : eq_by_cmp R q e.0 ≡ false = ap is_eq (o.antisymm q e.0) ∙ lt_turned (R e.0 q) (below_has R e.0 q es v (first_T _ _ h) m) in
          ap (λ b. cond b (Some e.1) (find R q es)) t ∙ find_there R o q es v (second_T _ _ h) m
    ]

-- ---- one part

-- what a part has at a point
abbrev found_in : Point → Part → Option ℤ
found_in q part = find point_cmp q (points_of (rows_in part))

row_first : (l : Labels) (t : ℤ) (row : ℕ × Row) (rows : Part) → found_in (l, t) (row ∷ rows) ≡ or_else (cond (same_labels l row.1.0) (find int_cmp t row.1.1) None) (found_in (l, t) rows)
row_first l t row rows =
    find-++ (l, t) (points_in row.1.0 row.1.1) (points_of (rows_in rows)) ∙ ap (λ o. or_else o (found_in (l, t) rows)) (find-points_in l t row.1.0 row.1.1)

has_found : (part : Part) (l : Labels) (s : ℤ × ℤ) → found_in (l, s.0) part ≡ Some s.1 → HasSample part l s
has_found [] l s h = absurd cc
has_found (row ∷ rows) l s h = go (has_found rows l s) (same_labels l row.1.0) refl (find int_cmp s.0 row.1.1) refl (sym (row_first l s.0 row rows) ∙ h)
  where
    later : HasSample rows l s → HasSample (row ∷ rows) l s
    later x = record { row = x.row; listed = there row x.row rows x.listed; labels_are = x.labels_are; has = x.has }

    go : (found_in (l, s.0) rows ≡ Some s.1 → HasSample rows l s) → (b : Bool) → same_labels l row.1.0 ≡ b → (o : Option ℤ) → find int_cmp s.0 row.1.1 ≡ o
        → or_else (cond b o None) (found_in (l, s.0) rows) ≡ Some s.1 → HasSample (row ∷ rows) l s
    go more true t (Some v) f e = record {
      row = row;
      listed = here row rows;
      labels_are = sym (labels_exact l row.1.0 ((Equal-is (labels_cmp l row.1.0)).0 t));
      has = in_found int_cmp int_cmp-IsAntisymmetric s.0 row.1.1 s.1 (f ∙ e);
    }
    go more true t None f e = later (more e)
    go more false t o f e = later (more e)

has_there : (part : Part) (l : Labels) (s : ℤ × ℤ) → AreDistinct part → ((row : ℕ × Row) → Contains part row → T (is_sorted int_cmp row.1.1)) → HasSample part l s → found_in (l, s.0) part ≡ Some s.1
has_there [] l s distinct times x = absurd (none_in_nil x.row x.listed)
has_there (row ∷ rows) l s distinct times x =
    elim (Contains-cases row rows x.row x.listed) [
      | inl e ↦
          let t : same_labels l row.1.0 ≡ true = ap (λ (y : ℕ × Row). same_labels l y.1.0) e ∙ ap (same_labels l) x.labels_are ∙ same_self l in
          let here_has : Contains row.1.1 s = subst (λ (y : ℕ × Row). Contains y.1.1 s) (sym e) x.has in
          let f : find int_cmp s.0 row.1.1 ≡ Some s.1 = find_there int_cmp int_cmp_total s.0 row.1.1 s.1 (times row (here row rows)) here_has in
          row_first l s.0 row rows ∙ rw (t, f) refl
      | inr m ↦
          let t : same_labels l row.1.0 ≡ false = same_turn l row.1.0 ∙ ap (same_labels row.1.0) (sym x.labels_are) ∙ distinct.0 x.row m in
          let more = has_there rows l s distinct.1 (λ r c. times r (there row r rows c)) (record { row = x.row; listed = m; labels_are = x.labels_are; has = x.has }) in
          row_first l s.0 row rows ∙ rw t more
    ]

part_has : (part : Part) (l : Labels) (s : ℤ × ℤ) → IsPart part → HasSample part l s → found_in (l, s.0) part ≡ Some s.1
part_has part l s p x = has_there part l s p.distinct p.times x

-- ---- a list of parts

abbrev last_found : Point → List Part → Option ℤ
last_found q [] = None
last_found q (p ∷ ps) = or_else (last_found q ps) (found_in q p)

or_else_turn : (a b c : Option ℤ) → or_else a (or_else b c) ≡ or_else (or_else a b) c
or_else_turn None b c = refl
or_else_turn (Some v) b c = refl

find-over : (q : Point) (parts : List Part) (c : Content) → find point_cmp q (over c parts) ≡ or_else (last_found q parts) (find point_cmp q c)
find-over q [] c = refl
find-over q (p ∷ ps) c =
    find-over q ps (laid_over (points_of (rows_in p)) c)
    ∙ ap (or_else (last_found q ps)) (find-laid_over q (points_of (rows_in p)) c)
    ∙ or_else_turn (last_found q ps) (found_in q p) (find point_cmp q c)

find-content : (q : Point) (parts : List Part) → find point_cmp q (content_of parts) ≡ last_found q parts
find-content q parts = find-over q parts [] ∙ or_else_none (last_found q parts)

last_at : (q : Point) (v : ℤ) (before : List Part) (part : Part) (after : List Part) → found_in q part ≡ Some v → last_found q after ≡ None → last_found q (before ++ part ∷ after) ≡ Some v
last_at q v [] part after h n = ap (λ o. or_else o (found_in q part)) n ∙ h
last_at q v (b ∷ bs) part after h n = ap (λ o. or_else o (found_in q b)) (last_at q v bs part after h n)

none_found : (q : Point) (parts : List Part) → ((p : Part) → Contains parts p → (v : ℤ) → found_in q p ≡ Some v → ⊥) → last_found q parts ≡ None
none_found q [] h = refl
none_found q (p ∷ ps) h = go (none_found q ps (λ r c. h r (there p r ps c))) (found_in q p) refl
  where
    go : last_found q ps ≡ None → (o : Option ℤ) → found_in q p ≡ o → last_found q (p ∷ ps) ≡ None
    go more None f = ap (λ x. or_else x (found_in q p)) more ∙ f
    go more (Some v) f = absurd (h p (here p ps) v f)

none_of_both : (a b : Option ℤ) → or_else a b ≡ None → (a ≡ None) × (b ≡ None)
none_of_both None b h = (refl, h)
none_of_both (Some v) b h = absurd cc

all_none : (q : Point) (parts : List Part) → last_found q parts ≡ None → (p : Part) → Contains parts p → found_in q p ≡ None
all_none q [] h p c = absurd (none_in_nil p c)
all_none q (x ∷ xs) h p c =
    let n = none_of_both (last_found q xs) (found_in q x) h in
    elim (Contains-cases x xs p c) [
      | inl e ↦ ap (found_in q) (sym e) ∙ n.1
      | inr m ↦ all_none q xs n.0 p m
    ]

some_not_none : (o : Option ℤ) (v : ℤ) → o ≡ Some v → o ≡ None → ⊥
some_not_none (Some w) v e f = absurd cc
some_not_none None v e f = absurd cc

is_of_last : (parts : List Part) (l : Labels) (s : ℤ × ℤ) → AreParts parts → last_found (l, s.0) parts ≡ Some s.1 → IsOfLast parts l s
is_of_last [] l s are h = absurd cc
is_of_last (p ∷ ps) l s are h = go (is_of_last ps l s (λ r c. are r (there p r ps c))) (last_found (l, s.0) ps) refl h
  where
    go : (last_found (l, s.0) ps ≡ Some s.1 → IsOfLast ps l s) → (o : Option ℤ) → last_found (l, s.0) ps ≡ o → or_else o (found_in (l, s.0) p) ≡ Some s.1 → IsOfLast (p ∷ ps) l s
    go more (Some v) f e =
        let x = more (f ∙ e) in
        record { before = p ∷ x.before; part = x.part; after = x.after; order = ap (λ (xs : List Part). p ∷ xs) x.order; has = x.has; last = x.last }
    go more None f e = record {
      before = [];
      part = p;
      after = ps;
      order = refl;
      has = has_found p l s e;
      last = λ r c v x. some_not_none (found_in (l, s.0) r) v (part_has r l (s.0, v) (are r (there p r ps c)) x) (all_none (l, s.0) ps f r c);
    }

after_in : (before : List Part) (part : Part) (after : List Part) (r : Part) → Contains after r → Contains (before ++ part ∷ after) r
after_in [] part after r c = there part r after c
after_in (b ∷ bs) part after r c = there b r (bs ++ part ∷ after) (after_in bs part after r c)

part_in : (before : List Part) (part : Part) (after : List Part) → Contains (before ++ part ∷ after) part
part_in [] part after = here part after
part_in (b ∷ bs) part after = there b part (bs ++ part ∷ after) (part_in bs part after)

last_is : (parts : List Part) (l : Labels) (s : ℤ × ℤ) → AreParts parts → IsOfLast parts l s → last_found (l, s.0) parts ≡ Some s.1
last_is parts l s are x =
    let all : AreParts (x.before ++ x.part ∷ x.after) = subst AreParts x.order are in
    let one = part_has x.part l s (all x.part (part_in x.before x.part x.after)) x.has in
    let none = none_found (l, s.0) x.after (λ r c v f. x.last r c v (has_found r l (s.0, v) f)) in
    ap (last_found (l, s.0)) x.order ∙ last_at (l, s.0) s.1 x.before x.part x.after one none

pub content_sorted : (parts : List Part) → T (is_sorted point_cmp (content_of parts))
content_sorted parts = is_sorted-over parts [] tt

pub content_points : (parts : List Part) (l : Labels) (s : ℤ × ℤ) → AreParts parts → Contains (content_of parts) ((l, s.0), s.1) ↔ IsOfLast parts l s
content_points parts l s are = (
  (λ c. is_of_last parts l s are (sym (find-content (l, s.0) parts) ∙ find_there point_cmp point_total (l, s.0) (content_of parts) s.1 (content_sorted parts) c)),
  (λ x. in_found point_cmp point_exact (l, s.0) (content_of parts) s.1 (find-content (l, s.0) parts ∙ last_is parts l s are x)),
)
