-- the certificate that goes farthest at each step is the leftmost one
use Rattle.std.proofs.Common.{◌≡◌, ℕ, ◌<◌, ◌≤◌, Bool, true, false, cond, ◌&&◌, inl, inr, List, [], ◌∷◌, ◌++◌, map, refl, sym, ◌∙◌, ap, subst, arith}
use Rattle.std.specs.List.{filter, flat_map, Contains}
use Rattle.std.specs.List.Sorted.{IsStrictlyIncreasing}
use Rattle.std.specs.Prelude.{nat_le, nat_lt, Some}
use Rattle.std.proofs.lemmas.Bool.Decides.{nat_tests}
use Rattle.std.proofs.lemmas.List.Elements.{Contains-push_cases}
use Rattle.std.proofs.lemmas.List.Concat.{flat_map-append}
use Rattle.labels.specs.Ascending.{first_of, rest_of, not_below, first_or_end}
use Rattle.labels.proofs.Lists.{Contains-cases, none_in_nil, rising-tail, filter-has, filter-from, filter-same, filter-none, filter-all, filter-filter, filter-split, below_or_not, rising-filter, not_below-here, first-least, first-not_below-least, first-not_below-in}
use Rattle.cover.specs.declared.certificate.Interval.{Interval}
use Rattle.cover.specs.declared.certificate.Verdict.{Verdict}
use Rattle.cover.specs.declared.certificate.Verdict.TheVariants.{Match, NoSample, Rejected}
use Rattle.cover.specs.Certificates.{Asked, IsAsked, references_between, IsRun, FitsUnder, run_of, IsChained, NamesSmallest, IsLeftmost}
use Rattle.cover.specs.Walking.{accepted_by, alive}
use Rattle.cover.proofs.Runs.{in_run, of_run, in_between, of_map, interval_run}
use Rattle.cover.proofs.Longest.{GoesFarthest, farthest_longest}

-- what a certificate's interval owes, alone
pub record IsGood (a : Asked) (i : Interval) : Type 0 where
  pub of_part : Contains a.references i.from
  pub forward : i.from < i.until
  pub fits : FitsUnder a i.verdict (run_of a i)
  pub farthest : GoesFarthest a i
  pub smallest : NamesSmallest a i.verdict (run_of a i)

-- where a list of intervals begins, if it ends at `end`
abbrev pub begins_or : ℕ → List Interval → ℕ
begins_or end [] = end
begins_or end (i ∷ is) = i.from

abbrev pub IsChainedTo : ℕ → List Interval → Type 0
IsChainedTo end [] = Unit {0}
IsChainedTo end (i ∷ is) = (i.until ≡ begins_or end is) × IsChainedTo end is

-- a certificate of the references below `end`
pub record Sofar (a : Asked) (c : List Interval) (end : ℕ) : Type 0 where
  pub chained : IsChainedTo end c
  pub covered : flat_map (λ (run : List ℕ). run) (map (run_of a) c)
      ≡ filter (λ (r : ℕ). nat_lt r end) a.references
  pub good : (i : Interval) → Contains c i → IsGood a i

chained_push : (c : List Interval) (i : Interval) → IsChainedTo i.from c
    → IsChainedTo i.until (c ++ i ∷ [])
chained_push [] i h = (refl, tt)
chained_push (k ∷ []) i h = (h.0, (refl, tt))
chained_push (k ∷ l ∷ ls) i h = (h.0, chained_push (l ∷ ls) i h.1)

map-push : {X Y : Type 0} (f : X → Y) (xs : List X) (x : X)
    → map f (xs ++ x ∷ []) ≡ map f xs ++ f x ∷ []
map-push f [] x = refl
map-push f (y ∷ ys) x = ap (λ zs. f y ∷ zs) (map-push f ys x)

append-nil' : {X : Type 0} (xs : List X) → xs ++ [] ≡ xs
append-nil' [] = refl
append-nil' (x ∷ xs) = ap (λ ys. x ∷ ys) (append-nil' xs)

pub sofar_none : (a : Asked) (end : ℕ)
    → ((r : ℕ) → Contains a.references r → end ≤ r) → Sofar a [] end
sofar_none a end h = record {
  chained = tt;
  covered =
      sym (filter-none (λ (r : ℕ). nat_lt r end) a.references (λ r c.
      let l : end ≤ r = h r c in grind (arith, nat_tests)));
  good = λ i c. absurd (none_in_nil i c);
}

pub sofar_push : (a : Asked) (c : List Interval) (i : Interval) → IsAsked a → Sofar a c i.from
    → IsGood a i → Sofar a (c ++ i ∷ []) i.until
sofar_push a c i part so good = record {
  chained = chained_push c i so.chained;
  covered =
      ap (λ runs. flat_map (λ (run : List ℕ). run) runs) (map-push (run_of a) c i)
      ∙ flat_map-append (λ (run : List ℕ). run) (map (run_of a) c) (run_of a i ∷ [])
      ∙ ap (λ ys. ys ++ (run_of a i ++ [])) so.covered
      ∙ ap (λ ys. filter (λ (r : ℕ). nat_lt r i.from) a.references ++ ys) (append-nil' (run_of a i))
      ∙ filter-split a.references i.from i.until part.ascending
      (let f : i.from < i.until = good.forward in omega arith);
  good = λ k m. elim (Contains-push_cases c i k m) [
    | inl d ↦ so.good k d
    | inr e ↦ subst (IsGood a) e good
  ];
}

to_chained : (c : List Interval) → IsChainedTo 4294967296 c → IsChained c
to_chained [] h = tt
to_chained (i ∷ []) h = (h.0, tt)
to_chained (i ∷ k ∷ ks) h = (h.0, to_chained (k ∷ ks) h.1)

pub sofar_done : (a : Asked) (c : List Interval) → IsAsked a → Sofar a c 4294967296 → IsLeftmost a c
sofar_done a c part so = record {
  valid = record {
    partition = record {
      each = λ run m.
          let k : (i : Interval) × (Contains c i × (run_of a i ≡ run)) =
          of_map (run_of a) c run m in
          let g : IsGood a k.0 = so.good k.0 k.1.0 in
          subst (IsRun a) k.1.1 (interval_run a k.0 part g.of_part g.forward);
      whole =
          so.covered
          ∙ filter-all (λ (r : ℕ). nat_lt r 4294967296) a.references (λ r m.
          let l : r < 4294967296 = part.in_range r m in grind (arith, nat_tests));
    };
    begins =
        λ i m.
        let g : IsGood a i = so.good i m in in_run a i i.from g.of_part (omega arith) g.forward;
    chained = to_chained c so.chained;
    fits = λ i m. (so.good i m).fits;
  };
  longest = λ i m. farthest_longest a i part (so.good i m).farthest;
  smallest = λ i m. (so.good i m).smallest;
}

-- the first reference from e on that passes a test, or the end
abbrev pub reach_of : List ℕ → (ℕ → Bool) → ℕ → ℕ
reach_of refs test e = first_or_end (not_below e (filter test refs))

-- the first reference from e on that matcher j accepts, or the end
abbrev pub reach : Asked → ℕ → ℕ → ℕ
reach a e j = first_or_end (not_below e (accepted_by a j))

-- the first live reference from e on, or the end
abbrev pub reach_live : Asked → ℕ → ℕ
reach_live a e = first_or_end (not_below e (alive a))

pub fails_before : (refs : List ℕ) (test : ℕ → Bool) (e r : ℕ) → IsStrictlyIncreasing refs
    → Contains refs r → e ≤ r → r < reach_of refs test e → test r ≡ false
fails_before refs test e r rising c l lt = go (test r) refl
  where
    go : (b : Bool) → test r ≡ b → test r ≡ false
    go true t = absurd (
        let m : Contains (filter test refs) r = filter-has test refs r c t in
        let least : reach_of refs test e ≤ r =
        first-not_below-least (filter test refs) e r (rising-filter test refs rising) m l in
        omega arith)
    go false t = t

pub passes_at : (refs : List ℕ) (test : ℕ → Bool) (e : ℕ) → reach_of refs test e < 4294967296
    → Contains refs (reach_of refs test e) × (test (reach_of refs test e) ≡ true)
    × (e ≤ reach_of refs test e)
passes_at refs test e l =
    let k : Contains (filter test refs) (reach_of refs test e) × (e ≤ reach_of refs test e) =
    first-not_below-in (filter test refs) e l in
    let m : Contains refs (reach_of refs test e) × (test (reach_of refs test e) ≡ true) =
    filter-from test refs (reach_of refs test e) k.0 in
    (m.0, m.1, k.1)

rejects_before : (a : Asked) (e j r : ℕ) → IsAsked a → Contains a.references r → e ≤ r
    → r < reach a e j → a.accepts j r ≡ false
rejects_before a e j r part c l lt =
    fails_before a.references (λ (x : ℕ). a.accepts j x) e r part.ascending c l lt

accepts_at : (a : Asked) (e j : ℕ) → reach a e j < 4294967296
    → Contains a.references (reach a e j) × (a.accepts j (reach a e j) ≡ true) × (e ≤ reach a e j)
accepts_at a e j l = passes_at a.references (λ (x : ℕ). a.accepts j x) e l

silent_before : (a : Asked) (e r : ℕ) → IsAsked a → Contains a.references r → e ≤ r
    → r < reach_live a e → a.live r ≡ false
silent_before a e r part c l lt =
    fails_before a.references (λ (x : ℕ). a.live x) e r part.ascending c l lt

lives_at : (a : Asked) (e : ℕ) → reach_live a e < 4294967296
    → Contains a.references (reach_live a e) × (a.live (reach_live a e) ≡ true)
    × (e ≤ reach_live a e)
lives_at a e l = passes_at a.references (λ (x : ℕ). a.live x) e l

-- a matcher that accepts a reference before the end does not reject the run
not_rejected : (a : Asked) (e until k : ℕ) (v : Verdict) → until ≤ 4294967296 → reach a e k < until
    → FitsUnder a (Rejected k) (run_of a (record { from = e; until = until; verdict = v })) → ⊥
not_rejected a e until k v within lt fit =
    let at : Contains a.references (reach a e k) × (a.accepts k (reach a e k) ≡ true)
    × (e ≤ reach a e k) = accepts_at a e k (omega arith) in
    let no : a.accepts k (reach a e k) ≡ false = fit.1 (reach a e k) (in_run a (record {
      from = e;
      until = until;
      verdict = v;
    }) (reach a e k) at.0 at.2 lt) in
    let takes : a.accepts k (reach a e k) ≡ true = at.1 in
    cc

-- past where each test has passed, a run from e fits under Match alone
beyond : (a : Asked) (e until high : ℕ) → IsAsked a → e < until
    → ((k : ℕ) → k < a.matchers → reach a e k ≤ until) → reach_live a e ≤ until
    → Contains a.references high → until ≤ high → (FitsUnder a Match (references_between a e high) → ⊥)
    → (v : Verdict) → FitsUnder a v (references_between a e high) → ⊥
beyond a e until high part forward least live_least ch past no_match Match fit = no_match fit
beyond a e until high part forward least live_least ch past no_match NoSample fit =
    let top : high < 4294967296 = part.in_range high ch in
    let at : Contains a.references (reach_live a e) × (a.live (reach_live a e) ≡ true)
    × (e ≤ reach_live a e) = lives_at a e (omega arith) in
    let no : a.live (reach_live a e) ≡ false =
    fit (reach_live a e) (in_between a e high (reach_live a e) at.0 at.2 (omega arith)) in
    let lives : a.live (reach_live a e) ≡ true = at.1 in
    cc
beyond a e until high part forward least live_least ch past no_match (Rejected k) fit =
    let up : reach a e k ≤ until = least k fit.0 in
    let top : high < 4294967296 = part.in_range high ch in
    let at : Contains a.references (reach a e k) × (a.accepts k (reach a e k) ≡ true)
    × (e ≤ reach a e k) = accepts_at a e k (omega arith) in
    let no : a.accepts k (reach a e k) ≡ false =
    fit.1 (reach a e k) (in_between a e high (reach a e k) at.0 at.2 (omega arith)) in
    let takes : a.accepts k (reach a e k) ≡ true = at.1 in
    cc

-- the one reference of a run from e that fits under Match is e
match_is : (a : Asked) (e high : ℕ) → Contains a.references e → e ≤ high
    → (fit : FitsUnder a Match (references_between a e high)) → fit.0 ≡ e
match_is a e high c l fit =
    let in_it : Contains (references_between a e high) e = in_between a e high e c (omega arith) l in
    let in_one : Contains (fit.0 ∷ []) e = rw fit.1 at in_it in
    elim (Contains-cases fit.0 [] e in_one) [ inl d ↦ d | inr d ↦ absurd (none_in_nil e d) ]

pub good_rejected : (a : Asked) (e until j : ℕ) → IsAsked a → Contains a.references e → e < until
    → until ≤ 4294967296 → j < a.matchers
    → reach a e j ≡ until → ((k : ℕ) → k < a.matchers → reach a e k ≤ until)
    → reach_live a e ≤ until → ((k : ℕ) → k < j → reach a e k < until)
    → IsGood a (record { from = e; until = until; verdict = Rejected j })
good_rejected a e until j part c forward within jm is least live_least first = record {
  of_part = c;
  forward = forward;
  fits = (
    jm,
    λ r m.
        let k : Contains a.references r × (e ≤ r) × (r < until) =
        of_run a (record { from = e; until = until; verdict = Rejected j }) r m in
        rejects_before a e j r part k.0 k.1 (omega arith),
  );
  farthest = λ high ch fit.
      elim (below_or_not high until) [
        | inl done ↦ done
        | inr past ↦
            absurd (beyond a e until high part forward least live_least ch past (no_match high past)
            fit.verdict fit.fits)
      ];
  smallest = λ k fit.
      elim (below_or_not k j) [
        | inl below ↦ absurd (not_rejected a e until k (Rejected j) within (first k below) fit)
        | inr done ↦ done
      ];
}
  where
    no_match : (high : ℕ) → until ≤ high → FitsUnder a Match (references_between a e high) → ⊥
    no_match high past fit =
        let same : fit.0 ≡ e = match_is a e high c (omega arith) fit in
        let takes : a.accepts j e ≡ true = rw (← same) (fit.2.0 j jm) in
        let no : a.accepts j e ≡ false =
        rejects_before a e j e part c (omega arith) (omega arith) in
        cc

pub good_silent : (a : Asked) (e until : ℕ) → IsAsked a → Contains a.references e → e < until
    → until ≤ 4294967296
    → reach_live a e ≡ until → ((k : ℕ) → k < a.matchers → reach a e k < until)
    → IsGood a (record { from = e; until = until; verdict = NoSample })
good_silent a e until part c forward within is least = record {
  of_part = c;
  forward = forward;
  fits = λ r m.
      let k : Contains a.references r × (e ≤ r) × (r < until) =
      of_run a (record { from = e; until = until; verdict = NoSample }) r m in
      silent_before a e r part k.0 k.1 (omega arith);
  farthest = λ high ch fit.
      elim (below_or_not high until) [
        | inl done ↦ done
        | inr past ↦
            absurd (beyond a e until high part forward
            (λ k m. let l : reach a e k < until = least k m in omega arith) (omega (
              arith,
              is,
            )) ch past (no_match high past) fit.verdict fit.fits)
      ];
  smallest = λ k fit. not_rejected a e until k NoSample within (least k fit.0) fit;
}
  where
    no_match : (high : ℕ) → until ≤ high → FitsUnder a Match (references_between a e high) → ⊥
    no_match high past fit =
        let same : fit.0 ≡ e = match_is a e high c (omega arith) fit in
        let lives : a.live e ≡ true = rw (← same) fit.2.1 in
        let no : a.live e ≡ false = silent_before a e e part c (omega arith) (omega arith) in
        cc

-- the references from e on, where e is one: e, and then the rest
pub first_rest : (xs : List ℕ) (e : ℕ) → first_of xs ≡ Some e → xs ≡ e ∷ rest_of xs
first_rest [] e h = cc
first_rest (x ∷ xs) e h = let same : x ≡ e = cc in ap (λ y. y ∷ xs) same

none_below_first : (xs : List ℕ) → IsStrictlyIncreasing xs → (u : ℕ) → u ≡ first_or_end xs
    → filter (λ (r : ℕ). nat_lt r u) xs ≡ []
none_below_first xs h u e =
    filter-none (λ (r : ℕ). nat_lt r u) xs (λ r c.
    let l : first_or_end xs ≤ r = first-least xs r h c in grind (arith, nat_tests))

pub good_match : (a : Asked) (e until : ℕ) → IsAsked a → Contains a.references e → e < until
    → until ≡ first_or_end (rest_of (not_below e a.references))
    → ((k : ℕ) → k < a.matchers → reach a e k ≤ e) → reach_live a e ≤ e
    → IsGood a (record { from = e; until = until; verdict = Match })
good_match a e until part c forward next every live_every =
    let here_it : Interval = record { from = e; until = until; verdict = Match } in
    let rising : IsStrictlyIncreasing (not_below e a.references) =
    rising-filter (λ x. nat_le e x) a.references part.ascending in
    let split : not_below e a.references ≡ e ∷ rest_of (not_below e a.references) =
    first_rest (not_below e a.references) e (not_below-here a.references e part.ascending c) in
    let rest_rising : IsStrictlyIncreasing (rest_of (not_below e a.references)) =
    rising-tail e (rest_of (not_below e a.references)) (subst IsStrictlyIncreasing split rising) in
    let first_test : nat_lt e until ≡ true = grind (arith, nat_tests) in
    let alone : run_of a here_it ≡ e ∷ [] =
    filter-same (λ r. nat_le e r && nat_lt r until) (λ r. nat_lt r until && nat_le e r) a.references
    (λ r _. grind (arith, nat_tests))
    ∙ sym (filter-filter (λ r. nat_lt r until) (λ r. nat_le e r) a.references)
    ∙ ap (filter (λ r. nat_lt r until)) split
    ∙ ap (λ b. cond b (e ∷ filter (λ r. nat_lt r until) (rest_of (not_below e a.references)))
    (filter (λ r. nat_lt r until) (rest_of (not_below e a.references)))) first_test
    ∙ ap (λ ys. e ∷ ys)
    (none_below_first (rest_of (not_below e a.references)) rest_rising until next) in
    let takes : (k : ℕ) → k < a.matchers → a.accepts k e ≡ true = λ k km.
    let up : reach a e k ≤ e = every k km in
    let top : e < 4294967296 = part.in_range e c in
    let at : Contains a.references (reach a e k) × (a.accepts k (reach a e k) ≡ true)
    × (e ≤ reach a e k) = accepts_at a e k (omega arith) in
    let same : reach a e k ≡ e = omega arith in
    subst (λ (x : ℕ). a.accepts k x ≡ true) same at.1 in
    let lives : a.live e ≡ true =
    let top : e < 4294967296 = part.in_range e c in
    let at : Contains a.references (reach_live a e) × (a.live (reach_live a e) ≡ true)
    × (e ≤ reach_live a e) = lives_at a e (omega arith) in
    let same : reach_live a e ≡ e = omega arith in
    subst (λ (x : ℕ). a.live x ≡ true) same at.1 in
    record {
      of_part = c;
      forward = forward;
      fits = (e, alone, (takes, lives));
      farthest = λ high ch fit.
          elim (below_or_not high e) [
            | inl below ↦ omega arith
            | inr above ↦
                match_ends a e until high c ch above forward takes lives fit.verdict fit.fits
          ];
      smallest = tt;
    }
  where
    match_ends : (a : Asked) (e until high : ℕ) → Contains a.references e
        → Contains a.references high → e ≤ high → e < until
        → ((k : ℕ) → k < a.matchers → a.accepts k e ≡ true) → a.live e ≡ true → (v : Verdict)
        → FitsUnder a v (references_between a e high) → high < until
    match_ends a e until high c ch above forward takes lives Match fit =
        let in_e : Contains (references_between a e high) e = in_between a e high e c (omega arith) above in
        let in_h : Contains (references_between a e high) high =
        in_between a e high high ch above (omega arith) in
        let one_e : Contains (fit.0 ∷ []) e = rw fit.1 at in_e in
        let one_h : Contains (fit.0 ∷ []) high = rw fit.1 at in_h in
        let same_e : fit.0 ≡ e =
        elim (Contains-cases fit.0 [] e one_e) [ inl d ↦ d | inr d ↦ absurd (none_in_nil e d) ] in
        let same_h : fit.0 ≡ high =
        elim (Contains-cases fit.0 [] high one_h)
        [ inl d ↦ d | inr d ↦ absurd (none_in_nil high d) ] in
        omega arith
    match_ends a e until high c ch above forward takes lives NoSample fit = absurd (
        let no : a.live e ≡ false = fit e (in_between a e high e c (omega arith) above) in
        cc)
    match_ends a e until high c ch above forward takes lives (Rejected k) fit = absurd (
        let no : a.accepts k e ≡ false = fit.1 e (in_between a e high e c (omega arith) above) in
        let t : a.accepts k e ≡ true = takes k fit.0 in
        cc)
