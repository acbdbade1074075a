-- Times that ascend up to the newest one.
use Rattle.std.proofs.Common.{◌≡◌, ℕ, zero, suc, ◌+◌, ◌-◌, ◌<◌, length, drop, get_or, arith, ℤ, Bool, true, false, cond, T, not, List, [], ◌∷◌, ◌++◌, map, filter, refl, sym, ap, subst, ◌∙◌, int_lt}
use Rattle.std.specs.Prelude.{◌&&◌, if◌then◌else◌}
use Rattle.std.specs.Ordering.{int_cmp, int_eq, is_lt}
use Rattle.std.specs.declared.cmp.Ordering.{Ordering}
use Rattle.std.specs.declared.cmp.Ordering.TheVariants.{Less, Equal, Greater}
use Rattle.std.specs.Cmp.{tied_itself}
use Rattle.std.proofs.lemmas.Cmp.{int_cmp_total}
use Rattle.std.specs.List.{list_all}
use Rattle.std.specs.FinMap.Entries.{is_sorted, below_all}
use Rattle.std.proofs.lemmas.List.{map-append}
use Rattle.labels.specs.Labels.{Labels}
use Rattle.labels.specs.Contents.{in_range}
use Rattle.labels.proofs.Times.{both_T, first_T, second_T, T_of, not_T, less_of, lt_of, not_lt_of, later, is_sorted-++, all_upto-++}
use Rattle.kept_walk.specs.Kept.{Series}
use Rattle.kept_world.specs.States.{Born, HeadSeries, Entry, samples_of, new_series, with_last, struck_series}
use Rattle.kept_world.specs.Sound.{IsSoundSeries, rises, first_series}

below_kept : (p : Born → Bool) (x : ℤ) (ks : List Born) → T (below_all int_cmp x (samples_of ks)) → T (below_all int_cmp x (samples_of (filter p ks)))
below_kept p x [] h = tt
below_kept p x (k ∷ ks) h =
    let rest = below_kept p x ks (second_T _ _ h) in
    elim (p k) as (λ b. T (below_all int_cmp x (samples_of (cond b (k ∷ filter p ks) (filter p ks))))) [
      | true ↦ both_T _ _ (first_T _ _ h) rest
      | false ↦ rest
    ]

pub ascending_kept : (p : Born → Bool) (ks : List Born) → T (is_sorted int_cmp (samples_of ks)) → T (is_sorted int_cmp (samples_of (filter p ks)))
ascending_kept p [] h = tt
ascending_kept p (k ∷ ks) h =
    let rest = ascending_kept p ks (second_T _ _ h) in
    elim (p k) as (λ b. T (is_sorted int_cmp (samples_of (cond b (k ∷ filter p ks) (filter p ks))))) [
      | true ↦ both_T _ _ (below_kept p k.1.0 ks (first_T _ _ h)) rest
      | false ↦ rest
    ]

upto_kept : (p : Born → Bool) (q : ℤ × ℤ → Bool) (ks : List Born) → T (list_all q (samples_of ks)) → T (list_all q (samples_of (filter p ks)))
upto_kept p q [] h = tt
upto_kept p q (k ∷ ks) h =
    let rest = upto_kept p q ks (second_T _ _ h) in
    elim (p k) as (λ b. T (list_all q (samples_of (cond b (k ∷ filter p ks) (filter p ks))))) [
      | true ↦ both_T _ _ (first_T _ _ h) rest
      | false ↦ rest
    ]

-- what stays of a sound series is one
pub sound_kept : (p : Born → Bool) (e : HeadSeries) → IsSoundSeries e → IsSoundSeries (record e { samples = filter p e.samples })
sound_kept p e h = record {
  ascending = ascending_kept p e.samples h.ascending;
  upto = upto_kept p (λ (s : ℤ × ℤ). not (int_lt e.newest.0 s.0)) e.samples h.upto;
}

pub sound_struck : (sat : Labels → Bool) (from to : ℤ) (e : HeadSeries) → IsSoundSeries e → IsSoundSeries (struck_series sat from to e)
sound_struck sat from to e h =
    elim (sat e.labels) as (λ b. IsSoundSeries (if b then record e { samples = filter (λ (k : Born). not (in_range from to k.1.0)) e.samples } else e)) [
      | true ↦ sound_kept (λ (k : Born). not (in_range from to k.1.0)) e h
      | false ↦ h
    ]

not_below : (t : ℤ) → int_lt t t ≡ false
not_below t = not_lt_of t t Equal (tied_itself int_cmp_total t) refl

pub sound_new : (n : ℕ) (x : Entry) → IsSoundSeries (new_series n x)
sound_new n x = record { ascending = tt; upto = both_T _ _ (T_of _ (ap not (not_below x.1.0))) tt }

-- one more sample, behind the newest
pub sound_last : (n : ℕ) (s : ℤ × ℤ) (e : HeadSeries) → int_lt s.0 e.newest.0 ≡ false → int_eq s.0 e.newest.0 ≡ false → IsSoundSeries e → IsSoundSeries (with_last n s e)
sound_last n s e early level h =
    let less = less_of e.newest.0 s.0 (later s.0 e.newest.0 early level) in
    let more : samples_of (e.samples ++ (n, s) ∷ []) ≡ samples_of e.samples ++ s ∷ [] = map-append (λ (k : Born). k.1) e.samples ((n, s) ∷ []) in
    record {
      ascending = subst (λ ss. T (is_sorted int_cmp ss)) (sym more) (is_sorted-++ e.newest.0 s (samples_of e.samples) less h.upto h.ascending);
      upto = subst (λ ss. T (list_all (λ (k : ℤ × ℤ). not (int_lt s.0 k.0)) ss)) (sym more) (all_upto-++ e.newest.0 s (samples_of e.samples) less h.upto);
    }

true_of : (b : Bool) → T b → b ≡ true
true_of true h = refl
true_of false h = absurd h

lt_T : (a b : ℤ) → T (int_lt a b) → T (is_lt (int_cmp a b))
lt_T a b h = T_of _ (ap is_lt (less_of a b (true_of (int_lt a b) h)))

-- below a time that is below all of these
below_later : (a b : ℤ) (ss : List (ℤ × ℤ)) → int_lt a b ≡ true → T (below_all int_cmp b ss) → T (below_all int_cmp a ss)
below_later a b [] l h = tt
below_later a b (s ∷ ss) l h =
    let next : int_cmp b s.0 ≡ Less = less_from (int_cmp b s.0) (first_T _ _ h) in
    both_T _ _ (T_of _ (ap is_lt (int_cmp_total.trans a b s.0 (less_of a b l) next))) (below_later a b ss l (second_T _ _ h))
  where
    less_from : (o : Ordering) → T (is_lt o) → o ≡ Less
    less_from Less k = refl
    less_from Equal k = absurd k
    less_from Greater k = absurd k

pub rises_ascend : (n : ℤ) (ss : List (ℤ × ℤ)) → T (rises n ss) → T (is_sorted int_cmp ss)
rises_ascend n [] h = tt
rises_ascend n (s ∷ []) h = tt
rises_ascend n (s ∷ t ∷ ss) h =
    let rest : T (is_sorted int_cmp (t ∷ ss)) = rises_ascend n (t ∷ ss) (second_T _ _ h) in
    let l : int_lt s.0 t.0 ≡ true = true_of _ (first_T _ _ h) in
    both_T _ _ (both_T _ _ (lt_T s.0 t.0 (first_T _ _ h)) (below_later s.0 t.0 ss l (first_T _ _ rest))) rest

-- a time below one that is not above the newest is not above it
under : (n a b : ℤ) → int_lt a b ≡ true → T (not (int_lt n b)) → T (not (int_lt n a))
under n a b l h =
    T_of _ (ap not (elim (int_lt n a) as (λ c. int_lt n a ≡ c → int_lt n a ≡ false) [
      | true ↦ λ e. absurd (let k : int_lt n b ≡ true = lt_of n b (int_cmp_total.trans n a b (less_of n a e) (less_of a b l)) in let m : int_lt n b ≡ false = not_T _ h in let z : true ≡ false = sym k ∙ m in cc)
      | false ↦ λ e. e
    ] refl))

pub rises_upto : (n : ℤ) (ss : List (ℤ × ℤ)) → T (rises n ss) → T (list_all (λ (s : ℤ × ℤ). not (int_lt n s.0)) ss)
rises_upto n [] h = tt
rises_upto n (s ∷ []) h = both_T _ _ h tt
rises_upto n (s ∷ t ∷ ss) h =
    let rest = rises_upto n (t ∷ ss) (second_T _ _ h) in
    both_T _ _ (under n s.0 t.0 (true_of _ (first_T _ _ h)) (first_T _ _ rest)) rest

unborn : (ss : List (ℤ × ℤ)) → samples_of (map (λ (s : ℤ × ℤ). (0, s)) ss) ≡ ss
unborn [] = refl
unborn (s ∷ ss) = ap (λ l. s ∷ l) (unborn ss)

pub sound_first : (e : Series) → T (rises e.newest.0 e.samples) → IsSoundSeries (first_series e)
sound_first e h = record {
  ascending = subst (λ ss. T (is_sorted int_cmp ss)) (sym (unborn e.samples)) (rises_ascend e.newest.0 e.samples h);
  upto = subst (λ ss. T (list_all (λ (k : ℤ × ℤ). not (int_lt e.newest.0 k.0)) ss)) (sym (unborn e.samples)) (rises_upto e.newest.0 e.samples h);
}

rises_two : (n : ℤ) (ss : List (ℤ × ℤ)) (i : ℕ) (x y : ℤ × ℤ) → suc i < length ss → x ≡ get_or ss i x → y ≡ get_or ss (suc i) y → int_lt x.0 y.0 ≡ true → rises n (drop (suc i) ss) ≡ rises n (drop i ss)
rises_two n [] i x y l h k e = absurd (omega arith)
rises_two n (s ∷ []) i x y l h k e = absurd (omega arith)
rises_two n (s ∷ t ∷ ss) zero x y l h k e =
    let q : int_lt s.0 t.0 ≡ true = ap (λ (z : ℤ × ℤ). int_lt z.0 t.0) (sym h) ∙ ap (λ (z : ℤ × ℤ). int_lt x.0 z.0) (sym k) ∙ e in
    ap (λ b. b && rises n (t ∷ ss)) (sym q)
rises_two n (s ∷ t ∷ ss) (suc i) x y l h k e = rises_two n (t ∷ ss) i x y (omega arith) h k e

-- whether times from a place on rise
pub rises_on : (n : ℤ) (ss : List (ℤ × ℤ)) (i : ℕ) (x y : ℤ × ℤ) → 0 < i → i < length ss → x ≡ get_or ss (i - 1) x → y ≡ get_or ss i y → int_lt x.0 y.0 ≡ true → rises n (drop (i + 1 - 1) ss) ≡ rises n (drop (i - 1) ss)
rises_on n ss zero x y a l h k e = absurd (omega arith)
rises_on n ss (suc j) x y a l h k e =
    let same : suc j + 1 - 1 ≡ suc j = omega arith in
    let back : suc j - 1 ≡ j = omega arith in
    let g : x ≡ get_or ss j x = h ∙ ap (λ m. get_or ss m x) back in
    ap (λ m. rises n (drop m ss)) same ∙ rises_two n ss j x y l g k e ∙ ap (λ m. rises n (drop m ss)) (sym back)
