-- What a cut leaves at each label set and time.
use Rattle.std.proofs.Common.{◌≡◌, ℕ, ℤ, zero, suc, Bool, true, false, not, cond, T, List, [], ◌∷◌, Option, Some, None, map, filter, refl, sym, ap, ◌∙◌, int_lt}
use Rattle.std.specs.Prelude.{if◌then◌else◌}
use Rattle.std.specs.List.{list_all, AllByRecursion}
use Rattle.std.specs.declared.cmp.Ordering.TheVariants.{Less, Equal, Greater}
use Rattle.std.specs.Ordering.{int_cmp, is_eq, eq_by_cmp, ordering_reverse}
use Rattle.std.specs.Cmp.{Equal-is}
use Rattle.std.specs.FinMap.{int_cmp-IsAntisymmetric}
use Rattle.std.specs.FinMap.Entries.{find, put, find-put}
use Rattle.labels.specs.Labels.{Labels, labels_cmp, same_labels}
use Rattle.labels.specs.Laws.{labels_total}
use Rattle.labels.specs.Rows.{Row}
use Rattle.labels.proofs.OrderLaws.{labels_exact, same_self, same_turn}
use Rattle.labels.proofs.Times.{first_T, second_T, less_of, lt_of}
use Rattle.std.proofs.lemmas.Cmp.{int_cmp_total}
use Rattle.kept_world.specs.States.{Born, HeadSeries, shown, samples_of, leaving, gathered, rows_below, stays, rest_of}
use Rattle.kept_world.specs.Sound.{IsSoundSeries, AreApart, place_in, next_place, label_sets}
use Rattle.kept_laws.specs.Likeness.{or_else, at_time, in_rows}

pub or-none : (x : Option ℤ) → or_else x None ≡ x
or-none None = refl
or-none (Some v) = refl

nothing : (b : Bool) → cond {A = Option ℤ} b None None ≡ None
nothing true = refl
nothing false = refl

-- samples whose times pass a test
elsewhere : (p : ℤ → Bool) (t : ℤ) (k : Born) (ks : List Born) → is_eq (int_cmp t k.1.0) ≡ false → at_time t (samples_of (cond (p k.1.0) (k ∷ filter (λ (j : Born). p j.1.0) ks) (filter (λ (j : Born). p j.1.0) ks))) ≡ at_time t (samples_of (filter (λ (j : Born). p j.1.0) ks))
elsewhere p t k ks h =
    let rest = filter (λ (j : Born). p j.1.0) ks in
    elim (p k.1.0) as (λ v. at_time t (samples_of (cond v (k ∷ rest) rest)) ≡ at_time t (samples_of rest)) [
      | true ↦ ap (λ v. or_else (at_time t (samples_of rest)) (cond v (Some k.1.1) None)) h ∙ or-none (at_time t (samples_of rest))
      | false ↦ refl
    ]

here : (v : Bool) (t : ℤ) (k : Born) (ks rest : List Born) → is_eq (int_cmp t k.1.0) ≡ true → at_time t (samples_of rest) ≡ cond v (at_time t (samples_of ks)) None → at_time t (samples_of (cond v (k ∷ rest) rest)) ≡ cond v (or_else (at_time t (samples_of ks)) (Some k.1.1)) None
here true t k ks rest h e = ap (λ v. or_else (at_time t (samples_of rest)) (cond v (Some k.1.1) None)) h ∙ ap (λ z. or_else z (Some k.1.1)) e
here false t k ks rest h e = e

pub at-kept : (p : ℤ → Bool) (t : ℤ) (ks : List Born) → at_time t (samples_of (filter (λ (j : Born). p j.1.0) ks)) ≡ cond (p t) (at_time t (samples_of ks)) None
at-kept p t [] = sym (nothing (p t))
at-kept p t (k ∷ ks) =
    let rest = filter (λ (j : Born). p j.1.0) ks in
    elim (int_cmp t k.1.0) as (λ r. int_cmp t k.1.0 ≡ r → at_time t (samples_of (cond (p k.1.0) (k ∷ rest) rest)) ≡ cond (p t) (or_else (at_time t (samples_of ks)) (cond (is_eq r) (Some k.1.1) None)) None) [
      | Less ↦ λ e. elsewhere p t k ks (ap is_eq e) ∙ at-kept p t ks ∙ ap (λ z. cond (p t) z None) (sym (or-none (at_time t (samples_of ks))))
      | Equal ↦ λ e.
          let q : t ≡ k.1.0 = int_cmp-IsAntisymmetric t k.1.0 e in
          ap (λ i. at_time t (samples_of (cond (p i) (k ∷ rest) rest))) (sym q)
          ∙ here (p t) t k ks rest (ap is_eq e) (at-kept p t ks)
      | Greater ↦ λ e. elsewhere p t k ks (ap is_eq e) ∙ at-kept p t ks ∙ ap (λ z. cond (p t) z None) (sym (or-none (at_time t (samples_of ks))))
    ] refl

true_false : true ≡ false → ⊥
true_false h = cc

-- a time that fails a test which all samples pass
pub at-none : (p : ℤ → Bool) (t : ℤ) (ss : List (ℤ × ℤ)) → T (list_all (λ (s : ℤ × ℤ). p s.0) ss) → p t ≡ false → at_time t ss ≡ None
at-none p t [] h fails = refl
at-none p t (s ∷ ss) h fails =
    ap (λ z. or_else z (cond (eq_by_cmp int_cmp t s.0) (Some s.1) None)) (at-none p t ss (second_T _ _ h) fails)
    ∙ elim (int_cmp t s.0) as (λ r. int_cmp t s.0 ≡ r → cond (is_eq r) (Some s.1) None ≡ None) [
      | Less ↦ λ e. refl
      | Equal ↦ λ e. absurd (true_false (sym (passes (p s.0) (first_T _ _ h)) ∙ ap p (sym (int_cmp-IsAntisymmetric t s.0 e)) ∙ fails))
      | Greater ↦ λ e. refl
    ] refl
  where
    passes : (b : Bool) → T b → b ≡ true
    passes true k = refl
    passes false k = absurd k

-- WHAT LEAVES

some_none : {A : Type 0} (x : A) → Some x ≡ None → ⊥
some_none x h = cc

next_none : (o : Option ℕ) → next_place o ≡ None → o ≡ None
next_none None h = refl
next_none (Some i) h = absurd (some_none (suc i) h)

not_first : (l m : Labels) (ms : List Labels) → place_in l (m ∷ ms) ≡ None → same_labels l m ≡ false
not_first l m ms h = elim (same_labels l m) as (λ b. (if b then Some zero else next_place (place_in l ms)) ≡ None → b ≡ false) [
  | true ↦ λ q. absurd (some_none zero q)
  | false ↦ λ q. refl
] h

not_later : (l m : Labels) (ms : List Labels) → place_in l (m ∷ ms) ≡ None → place_in l ms ≡ None
not_later l m ms h = elim (same_labels l m) as (λ b. (if b then Some zero else next_place (place_in l ms)) ≡ None → place_in l ms ≡ None) [
  | true ↦ λ q. absurd (some_none zero q)
  | false ↦ λ q. next_none (place_in l ms) q
] h

-- a row for each series
abbrev pub rows_by : (HeadSeries → List (ℤ × ℤ)) → List HeadSeries → List Row
rows_by f head = map (λ (e : HeadSeries). (e.labels, f e)) head

pub absent : (f : HeadSeries → List (ℤ × ℤ)) (l : Labels) (t : ℤ) (head : List HeadSeries) → place_in l (label_sets head) ≡ None → in_rows l t (rows_by f head) ≡ None
absent f l t [] h = refl
absent f l t (e ∷ es) h =
    ap (λ b. cond b (at_time t (f e)) (in_rows l t (rows_by f es))) (not_first l e.labels (label_sets es) h)
    ∙ absent f l t es (not_later l e.labels (label_sets es) h)

abbrev at_of : ℤ → Option (List (ℤ × ℤ)) → Option ℤ
at_of t None = None
at_of t (Some ss) = at_time t ss

by-find : (l : Labels) (t : ℤ) (rows : List Row) → in_rows l t rows ≡ at_of t (find labels_cmp l rows)
by-find l t [] = refl
by-find l t (r ∷ rs) =
    ap (cond (same_labels l r.0) (at_time t r.1)) (by-find l t rs)
    ∙ elim (same_labels l r.0) as (λ b. cond b (at_time t r.1) (at_of t (find labels_cmp l rs)) ≡ at_of t (cond b (Some r.1) (find labels_cmp l rs))) [ true ↦ refl | false ↦ refl ]

-- no label set of the head is among the rows
abbrev AreFresh : List Row → List HeadSeries → Type 0
AreFresh rows head = AllByRecursion (λ (e : HeadSeries). find labels_cmp e.labels rows ≡ None) head

find-gathered : (l m : Labels) (ss : List (ℤ × ℤ)) (rows : List Row) → same_labels l m ≡ false → find labels_cmp l (gathered m ss rows) ≡ find labels_cmp l rows
find-gathered l m [] rows h = refl
find-gathered l m (s ∷ ss) rows h = find-put labels_cmp labels_total l m (s ∷ ss) rows ∙ ap (λ b. cond b (Some (s ∷ ss)) (find labels_cmp l rows)) h

at-gathered : (m : Labels) (t : ℤ) (ss : List (ℤ × ℤ)) (rows : List Row) → find labels_cmp m rows ≡ None → in_rows m t (gathered m ss rows) ≡ at_time t ss
at-gathered m t [] rows h = by-find m t rows ∙ ap (at_of t) h
at-gathered m t (s ∷ ss) rows h =
    by-find m t (put labels_cmp m (s ∷ ss) rows)
    ∙ ap (at_of t) (find-put labels_cmp labels_total m m (s ∷ ss) rows ∙ ap (λ b. cond b (Some (s ∷ ss)) (find labels_cmp m rows)) (same_self m))

fresh-gathered : (m : Labels) (ss : List (ℤ × ℤ)) (rows : List Row) (head : List HeadSeries) → place_in m (label_sets head) ≡ None → AreFresh rows head → AreFresh (gathered m ss rows) head
fresh-gathered m ss rows [] p h = tt
fresh-gathered m ss rows (e ∷ es) p h = (
  find-gathered e.labels m ss rows (same_turn e.labels m ∙ not_first m e.labels (label_sets es) p) ∙ h.0,
  fresh-gathered m ss rows es (not_later m e.labels (label_sets es) p) h.1,
)

pub gathers : (u : ℤ) (l : Labels) (t : ℤ) (rows : List Row) (head : List HeadSeries) → AreApart (label_sets head) → AreFresh rows head → in_rows l t (rows_below u rows head) ≡ or_else (in_rows l t (rows_by (leaving u) head)) (in_rows l t rows)
gathers u l t rows [] apart fresh = refl
gathers u l t rows (e ∷ es) apart fresh =
    let new = gathered e.labels (leaving u e) rows in
    gathers u l t new es apart.1 (fresh-gathered e.labels (leaving u e) rows es apart.0 fresh.1)
    ∙ elim (same_labels l e.labels) as (λ b. same_labels l e.labels ≡ b → or_else (in_rows l t (rows_by (leaving u) es)) (in_rows l t new) ≡ or_else (cond b (at_time t (leaving u e)) (in_rows l t (rows_by (leaving u) es))) (in_rows l t rows)) [
      | true ↦ λ h.
          let q : l ≡ e.labels = labels_exact l e.labels ((Equal-is (labels_cmp l e.labels)).0 h) in
          ap (λ x. or_else x (in_rows l t new)) (ap (λ m. in_rows m t (rows_by (leaving u) es)) q ∙ absent (leaving u) e.labels t es apart.0)
          ∙ ap (λ m. in_rows m t new) q ∙ at-gathered e.labels t (leaving u e) rows fresh.0
          ∙ sym (or-none (at_time t (leaving u e)))
          ∙ ap (or_else (at_time t (leaving u e))) (sym (ap (λ m. in_rows m t rows) q ∙ by-find e.labels t rows ∙ ap (at_of t) fresh.0))
      | false ↦ λ h. ap (or_else (in_rows l t (rows_by (leaving u) es))) (by-find l t new ∙ ap (at_of t) (find-gathered l e.labels (leaving u e) rows h) ∙ sym (by-find l t rows))
    ] refl

fresh-none : (head : List HeadSeries) → AreFresh [] head
fresh-none [] = tt
fresh-none (e ∷ es) = (refl, fresh-none es)

-- what leaves, found by its label set
pub below-is : (u : ℤ) (l : Labels) (t : ℤ) (head : List HeadSeries) → AreApart (label_sets head) → in_rows l t (rows_below u [] head) ≡ in_rows l t (rows_by (leaving u) head)
below-is u l t head apart = gathers u l t [] head apart (fresh-none head) ∙ or-none (in_rows l t (rows_by (leaving u) head))

-- WHAT STAYS

none-kept : (p : HeadSeries → Bool) (l : Labels) (head : List HeadSeries) → place_in l (label_sets head) ≡ None → place_in l (label_sets (filter p head)) ≡ None
none-kept p l [] h = refl
none-kept p l (e ∷ es) h =
    let rest = none-kept p l es (not_later l e.labels (label_sets es) h) in
    elim (p e) as (λ b. place_in l (label_sets (cond b (e ∷ filter p es) (filter p es))) ≡ None) [
      | true ↦ ap (λ b. if b then Some zero else next_place (place_in l (label_sets (filter p es)))) (not_first l e.labels (label_sets es) h) ∙ ap next_place rest
      | false ↦ rest
    ]

abbrev pub kept : ℤ → List HeadSeries → List Row
kept u head = shown (map (rest_of u) (filter (stays u) head))

as_rows : (u : ℤ) (head : List HeadSeries) → shown (map (rest_of u) head) ≡ rows_by (λ (e : HeadSeries). samples_of (rest_of u e).samples) head
as_rows u [] = refl
as_rows u (e ∷ es) = ap (λ rs. (e.labels, samples_of (rest_of u e).samples) ∷ rs) (as_rows u es)

kept-absent : (u : ℤ) (l : Labels) (t : ℤ) (head : List HeadSeries) → place_in l (label_sets head) ≡ None → in_rows l t (kept u head) ≡ None
kept-absent u l t head h =
    ap (in_rows l t) (as_rows u (filter (stays u) head))
    ∙ absent (λ (e : HeadSeries). samples_of (rest_of u e).samples) l t (filter (stays u) head) (none-kept (stays u) l head h)

split : (b : Bool) (x : Option ℤ) → or_else (cond (not b) x None) (cond b x None) ≡ x
split true x = refl
split false x = or-none x

-- a series that leaves has nothing from the time on
gone : (u t : ℤ) (e : HeadSeries) → IsSoundSeries e → int_lt e.newest.0 u ≡ true → cond (int_lt t u) (at_time t (samples_of e.samples)) None ≡ at_time t (samples_of e.samples)
gone u t e sound low =
    elim (int_lt t u) as (λ b. int_lt t u ≡ b → cond b (at_time t (samples_of e.samples)) None ≡ at_time t (samples_of e.samples)) [
      | true ↦ λ h. refl
      | false ↦ λ h. sym (at-none (λ (x : ℤ). not (int_lt e.newest.0 x)) t (samples_of e.samples) sound.upto (ap not (under e.newest.0 u t low h)))
    ] refl
  where
    under : (n u t : ℤ) → int_lt n u ≡ true → int_lt t u ≡ false → int_lt n t ≡ true
    under n u t a b =
        lt_of n t (elim (int_cmp u t) as (λ r. int_cmp u t ≡ r → int_cmp n t ≡ Less) [
          | Less ↦ λ p. int_cmp_total.trans n u t (less_of n u a) p
          | Equal ↦ λ p. ap (int_cmp n) (sym (int_cmp-IsAntisymmetric u t p)) ∙ less_of n u a
          | Greater ↦ λ p. absurd (true_false (sym (lt_of t u (int_cmp_total.antisymm t u ∙ ap ordering_reverse p)) ∙ b))
        ] refl)

-- nothing is lost, and nothing comes
pub parted : (u : ℤ) (l : Labels) (t : ℤ) (head : List HeadSeries) → AreApart (label_sets head) → AllByRecursion IsSoundSeries head → or_else (in_rows l t (kept u head)) (in_rows l t (rows_by (leaving u) head)) ≡ in_rows l t (shown head)
parted u l t [] apart sound = refl
parted u l t (e ∷ es) apart sound =
    let rest = at-kept (λ (x : ℤ). not (int_lt x u)) t e.samples in
    let less = at-kept (λ (x : ℤ). int_lt x u) t e.samples in
    elim (stays u e) as (λ c. stays u e ≡ c → or_else (in_rows l t (shown (map (rest_of u) (cond c (e ∷ filter (stays u) es) (filter (stays u) es))))) (cond (same_labels l e.labels) (at_time t (leaving u e)) (in_rows l t (rows_by (leaving u) es))) ≡ cond (same_labels l e.labels) (at_time t (samples_of e.samples)) (in_rows l t (shown es))) [
      | true ↦ λ s. elim (same_labels l e.labels) as (λ b. or_else (cond b (at_time t (samples_of (rest_of u e).samples)) (in_rows l t (kept u es))) (cond b (at_time t (leaving u e)) (in_rows l t (rows_by (leaving u) es))) ≡ cond b (at_time t (samples_of e.samples)) (in_rows l t (shown es))) [
        | true ↦ ap (λ x. or_else x (at_time t (leaving u e))) rest ∙ ap (or_else (cond (not (int_lt t u)) (at_time t (samples_of e.samples)) None)) less ∙ split (int_lt t u) (at_time t (samples_of e.samples))
        | false ↦ parted u l t es apart.1 sound.1
      ]
      | false ↦ λ s. elim (same_labels l e.labels) as (λ b. same_labels l e.labels ≡ b → or_else (in_rows l t (kept u es)) (cond b (at_time t (leaving u e)) (in_rows l t (rows_by (leaving u) es))) ≡ cond b (at_time t (samples_of e.samples)) (in_rows l t (shown es))) [
        | true ↦ λ h.
            let q : l ≡ e.labels = labels_exact l e.labels ((Equal-is (labels_cmp l e.labels)).0 h) in
            ap (λ x. or_else x (at_time t (leaving u e))) (ap (λ m. in_rows m t (kept u es)) q ∙ kept-absent u e.labels t es apart.0)
            ∙ less ∙ gone u t e sound.0 (flipped (int_lt e.newest.0 u) s)
        | false ↦ λ h. parted u l t es apart.1 sound.1
      ] refl
    ] refl
  where
    flipped : (b : Bool) → not b ≡ false → b ≡ true
    flipped true h = refl
    flipped false h = absurd (true_false h)

-- below the time nothing stays
pub kept-none : (u : ℤ) (l : Labels) (t : ℤ) (head : List HeadSeries) → int_lt t u ≡ true → in_rows l t (kept u head) ≡ None
kept-none u l t [] low = refl
kept-none u l t (e ∷ es) low =
    elim (stays u e) as (λ c. in_rows l t (shown (map (rest_of u) (cond c (e ∷ filter (stays u) es) (filter (stays u) es)))) ≡ None) [
      | true ↦
          ap (cond (same_labels l e.labels) (at_time t (samples_of (rest_of u e).samples))) (kept-none u l t es low)
          ∙ ap (λ x. cond (same_labels l e.labels) x None) (at-kept (λ (x : ℤ). not (int_lt x u)) t e.samples ∙ ap (λ b. cond (not b) (at_time t (samples_of e.samples)) None) low)
          ∙ nothing (same_labels l e.labels)
      | false ↦ kept-none u l t es low
    ]
