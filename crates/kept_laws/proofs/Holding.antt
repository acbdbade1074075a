-- How many samples of a label set the store holds from the floor on.
use Rattle.std.proofs.Common.{◌≡◌, ℕ, ℤ, suc, Bool, true, false, not, cond, T, List, [], ◌∷◌, Some, None, length, refl, sym, ap, subst, ◌∙◌, int_lt}
use Rattle.std.specs.Prelude.{◌&&◌}
use Rattle.std.specs.List.{list_all, AllByRecursion}
use Rattle.std.specs.declared.cmp.Ordering.{Ordering}
use Rattle.std.specs.declared.cmp.Ordering.TheVariants.{Less, Equal, Greater}
use Rattle.std.specs.Ordering.{int_cmp, is_eq, is_lt, eq_by_cmp}
use Rattle.std.specs.Cmp.{Equal-is}
use Rattle.std.specs.FinMap.{int_cmp-IsAntisymmetric}
use Rattle.std.specs.FinMap.Entries.{find, is_sorted, below_all, where_key, find-where_key, is_sorted-where_key}
use Rattle.labels.specs.Labels.{Labels, Point, point_cmp, labels_cmp, same_labels}
use Rattle.labels.specs.Contents.{held_from}
use Rattle.labels.specs.Rows.{points_in}
use Rattle.labels.proofs.ContentLaws.{same_content, find-points_in, length-points_in, is_sorted-points_in}
use Rattle.labels.proofs.OrderLaws.{labels_exact, point_exact, same_turn}
use Rattle.labels.proofs.Times.{first_T, second_T}
use Rattle.head.specs.Worlds.{World}
use Rattle.kept_world.specs.States.{Born, HeadSeries, State, shown, samples_of}
use Rattle.kept_world.specs.Sound.{IsSoundSeries}
use Rattle.kept_laws.specs.Likeness.{or_else, at_time, in_rows, IsLike, IsKept}
use Rattle.kept_laws.proofs.Leaving.{or-none, at-none}

-- the samples of a label set in a head, and how many
abbrev samples_at : Labels → List HeadSeries → List (ℤ × ℤ)
samples_at l [] = []
samples_at l (e ∷ es) = cond (same_labels l e.labels) (samples_of e.samples) (samples_at l es)

abbrev pub count_in : Labels → List HeadSeries → ℕ
count_in l [] = 0
count_in l (e ∷ es) = cond (same_labels l e.labels) (length e.samples) (count_in l es)

count-is : (l : Labels) (head : List HeadSeries) → length (samples_at l head) ≡ count_in l head
count-is l [] = refl
count-is l (e ∷ es) =
    elim (same_labels l e.labels) as (λ b. length (cond b (samples_of e.samples) (samples_at l es)) ≡ cond b (length e.samples) (count_in l es)) [
      | true ↦ length-map e.samples
      | false ↦ count-is l es
    ]
  where
    length-map : (ks : List Born) → length (samples_of ks) ≡ length ks
    length-map [] = refl
    length-map (k ∷ ks) = ap suc (length-map ks)

rows-at : (l : Labels) (t : ℤ) (head : List HeadSeries) → in_rows l t (shown head) ≡ at_time t (samples_at l head)
rows-at l t [] = refl
rows-at l t (e ∷ es) =
    elim (same_labels l e.labels) as (λ b. cond b (at_time t (samples_of e.samples)) (in_rows l t (shown es)) ≡ at_time t (cond b (samples_of e.samples) (samples_at l es))) [
      | true ↦ refl
      | false ↦ rows-at l t es
    ]

sorted-at : (l : Labels) (head : List HeadSeries) → AllByRecursion IsSoundSeries head → T (is_sorted int_cmp (samples_at l head))
sorted-at l [] h = tt
sorted-at l (e ∷ es) h = elim (same_labels l e.labels) as (λ b. T (is_sorted int_cmp (cond b (samples_of e.samples) (samples_at l es)))) [ true ↦ h.0.ascending | false ↦ sorted-at l es h.1 ]

above-at : (floor : ℤ) (l : Labels) (head : List HeadSeries) → AllByRecursion (λ (e : HeadSeries). T (list_all (λ (k : ℤ × ℤ). not (int_lt k.0 floor)) (samples_of e.samples))) head → T (list_all (λ (k : ℤ × ℤ). not (int_lt k.0 floor)) (samples_at l head))
above-at floor l [] h = tt
above-at floor l (e ∷ es) h = elim (same_labels l e.labels) as (λ b. T (list_all (λ (k : ℤ × ℤ). not (int_lt k.0 floor)) (cond b (samples_of e.samples) (samples_at l es)))) [ true ↦ h.0 | false ↦ above-at floor l es h.1 ]

-- of sorted samples the first at a time is the last
lt_apart : (o : Ordering) → T (is_lt o) → is_eq o ≡ false
lt_apart Less h = refl
lt_apart Equal h = absurd h
lt_apart Greater h = absurd h

none-below : (t : ℤ) (ss : List (ℤ × ℤ)) → T (below_all int_cmp t ss) → at_time t ss ≡ None
none-below t [] h = refl
none-below t (s ∷ ss) h =
    ap (λ x. or_else x (cond (eq_by_cmp int_cmp t s.0) (Some s.1) None)) (none-below t ss (second_T _ _ h))
    ∙ ap (λ b. cond b (Some s.1) None) (lt_apart (int_cmp t s.0) (first_T _ _ h))

at-sorted : (t : ℤ) (ss : List (ℤ × ℤ)) → T (is_sorted int_cmp ss) → find int_cmp t ss ≡ at_time t ss
at-sorted t [] h = refl
at-sorted t (s ∷ ss) h =
    ap (cond (eq_by_cmp int_cmp t s.0) (Some s.1)) (at-sorted t ss (second_T _ _ h))
    ∙ elim (eq_by_cmp int_cmp t s.0) as (λ b. eq_by_cmp int_cmp t s.0 ≡ b → cond b (Some s.1) (at_time t ss) ≡ or_else (at_time t ss) (cond b (Some s.1) None)) [
      | true ↦ λ e.
          let q : t ≡ s.0 = int_cmp-IsAntisymmetric t s.0 ((Equal-is (int_cmp t s.0)).0 e) in
          ap (λ x. or_else x (Some s.1)) (sym (ap (λ i. at_time i ss) q ∙ none-below s.0 ss (first_T _ _ h)))
      | false ↦ λ e. sym (or-none (at_time t ss))
    ] refl

abbrev is_held : ℤ → Labels → Point → Bool
is_held floor l p = same_labels l p.0 && not (int_lt p.1 floor)

found-held : (s : State) (w : World) (l : Labels) (q : Point) → IsLike s w → IsKept s → find point_cmp q (where_key {X = ℤ} point_cmp (is_held w.floor l) w.content) ≡ find point_cmp q (points_in l (samples_at l s.head))
found-held s w l q h k =
    let ss = samples_at l s.head in
    find-where_key point_cmp (is_held w.floor l) q (λ x e. ap (is_held w.floor l) (sym (point_exact q x e))) w.content
    ∙ elim (same_labels l q.0) as (λ b. same_labels l q.0 ≡ b → cond (b && not (int_lt q.1 w.floor)) (find point_cmp q w.content) None ≡ cond b (find int_cmp q.1 ss) None) [
      | true ↦ λ e.
          let same : l ≡ q.0 = labels_exact l q.0 ((Equal-is (labels_cmp l q.0)).0 e) in
          elim (int_lt q.1 w.floor) as (λ c. int_lt q.1 w.floor ≡ c → cond (true && not c) (find point_cmp q w.content) None ≡ find int_cmp q.1 ss) [
            | true ↦ λ f. sym (at-sorted q.1 ss (sorted-at l s.head k.sound) ∙ at-none (λ (x : ℤ). not (int_lt x s.floor)) q.1 ss (above-at s.floor l s.head k.above) (ap (λ x. not (int_lt q.1 x)) h.floor ∙ ap not f))
            | false ↦ λ f.
                h.content q.0 q.1
                ∙ ap (or_else (in_rows q.0 q.1 (shown s.head))) (k.below q.0 q.1 (ap (int_lt q.1) h.floor ∙ f))
                ∙ or-none (in_rows q.0 q.1 (shown s.head))
                ∙ ap (λ m. in_rows m q.1 (shown s.head)) (sym same)
                ∙ rows-at l q.1 s.head ∙ sym (at-sorted q.1 ss (sorted-at l s.head k.sound))
          ] refl
      | false ↦ λ e. refl
    ] refl
    ∙ ap (λ b. cond b (find int_cmp q.1 ss) None) (same_turn l q.0)
    ∙ sym (find-points_in q.0 q.1 l ss)

pub held-is : (s : State) (w : World) (l : Labels) → IsLike s w → IsKept s → held_from w.floor l w.content ≡ count_in l s.head
held-is s w l h k =
    let ss = samples_at l s.head in
    ap length (same_content (where_key {X = ℤ} point_cmp (is_held w.floor l) w.content) (points_in l ss)
    (is_sorted-where_key point_cmp (is_held w.floor l) w.content h.sorted) (subst T (sym (is_sorted-points_in l ss)) (sorted-at l s.head k.sound)) (λ q. found-held s w l q h k))
    ∙ length-points_in l ss ∙ count-is l s.head
