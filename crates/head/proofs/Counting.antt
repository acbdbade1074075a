-- A version owns no more series than its batch has label sets.
use Rattle.std.specs.Prelude.{◌≡◌, ◌≤◌, ◌+◌, ◌*◌, ℕ, ℤ, suc, Bool, true, false, cond, not, ◌||◌, T, List, [], ◌∷◌, Option, None, Some, length, is_some, refl, if◌then◌else◌}
use Rattle.std.specs.List.{list_all}
use Rattle.std.proofs.Common.{sym, ◌∙◌, ap, subst, arith}
use Rattle.std.proofs.lemmas.List.Sums.{sum_by-append}
use Rattle.labels.specs.Labels.{Labels, same_labels}
use Rattle.labels.proofs.OrderLaws.{same_self, same_turn}
use Rattle.labels.proofs.Times.{true_not_false, both_T, first_T, second_T, T_of, not_T}
use Rattle.head.specs.Worlds.{Batch}
use Rattle.head.specs.Batches.{has_set, set_count}
use Rattle.head.specs.Heads.{HeadSeries, series_at, IsSoundHead}
use Rattle.head.specs.Slots.{Slot, Shared, Own, series_in, series_in_each, own_count, owned, AllOwn}
use Rattle.head.proofs.HeadLaws.{same_path}

-- the label sets of the version's own series
abbrev own_sets : List Slot → List Labels
own_sets [] = []
own_sets (Shared a ∷ ss) = own_sets ss
own_sets (Own a ∷ ss) = a.labels ∷ own_sets ss

one_more : (n : ℕ) → 1 + n ≡ suc n
one_more n = omega arith

owned_is : (slots : List Slot) → owned slots ≡ length (own_sets slots)
owned_is [] = refl
owned_is (Shared a ∷ ss) = owned_is ss
owned_is (Own a ∷ ss) = sum_by-append own_count (Own a ∷ []) ss ∙ ap (λ n. 1 + n) (owned_is ss) ∙ one_more (length (own_sets ss))

-- none of these is the label set
abbrev IsNew : Labels → List Labels → Type 0
IsNew l ls = T (list_all (λ k. not (same_labels l k)) ls)

abbrev AreApart : List Labels → Type 0
AreApart [] = Unit {0}
AreApart (l ∷ ls) = IsNew l ls × AreApart ls

absent_first : (b : Bool) (h : HeadSeries) (o : Option HeadSeries) → cond b (Some h) o ≡ None → (b ≡ false) × (o ≡ None)
absent_first true h o e = absurd (true_not_false (ap is_some e))
absent_first false h o e = (refl, e)

new_own : (l : Labels) (slots : List Slot) → series_at l (series_in_each slots) ≡ None → IsNew l (own_sets slots)
new_own l [] e = tt
new_own l (Shared a ∷ ss) e = new_own l ss (absent_first (same_labels l (series_in (Shared a)).labels) (series_in (Shared a)) (series_at l (series_in_each ss)) e).1
new_own l (Own a ∷ ss) e =
    let first = absent_first (same_labels l a.labels) a (series_at l (series_in_each ss)) e in
    both_T _ _ (T_of _ (ap not first.0)) (new_own l ss first.1)

apart_own : (floor : ℤ) (slots : List Slot) → IsSoundHead floor (series_in_each slots) → AreApart (own_sets slots)
apart_own floor [] sound = tt
apart_own floor (Shared a ∷ ss) sound = apart_own floor ss sound.2
apart_own floor (Own a ∷ ss) sound = (new_own a.labels ss sound.1, apart_own floor ss sound.2)

all_own : (p : Labels → Bool) (slots : List Slot) → AllOwn p slots → T (list_all p (own_sets slots))
all_own p [] all = tt
all_own p (Shared a ∷ ss) all = all_own p ss all
all_own p (Own a ∷ ss) all = both_T _ _ (first_T _ _ all) (all_own p ss (second_T _ _ all))

-- the others
abbrev removed : Labels → List Labels → List Labels
removed l [] = []
removed l (k ∷ ks) = if same_labels l k then removed l ks else k ∷ removed l ks

removed-new : (l : Labels) (ls : List Labels) → IsNew l ls → removed l ls ≡ ls
removed-new l [] new = refl
removed-new l (k ∷ ks) new =
    ap (λ b. if b then removed l ks else k ∷ removed l ks) (not_T _ (first_T _ _ new))
    ∙ ap (λ ts. k ∷ ts) (removed-new l ks (second_T _ _ new))

length-removed : (l : Labels) (ls : List Labels) → AreApart ls → length ls ≤ length (removed l ls) + 1
length-removed l [] apart = omega arith
length-removed l (k ∷ ks) apart =
    elim (same_labels l k) as (λ b. same_labels l k ≡ b → suc (length ks) ≤ length (if b then removed l ks else k ∷ removed l ks) + 1) [
      | true ↦ λ e.
          let same = ap length (removed-new l ks (subst (λ (m : Labels). IsNew m ks) (sym (same_path l k e)) apart.0)) in
          omega arith
      | false ↦ λ e. let rest = length-removed l ks apart.1 in omega arith
    ] refl

new-removed : (k l : Labels) (ls : List Labels) → IsNew k ls → IsNew k (removed l ls)
new-removed k l [] new = tt
new-removed k l (m ∷ ms) new =
    elim (same_labels l m) as (λ b. IsNew k (if b then removed l ms else m ∷ removed l ms)) [
      | true ↦ new-removed k l ms (second_T _ _ new)
      | false ↦ both_T _ _ (first_T _ _ new) (new-removed k l ms (second_T _ _ new))
    ]

apart-removed : (l : Labels) (ls : List Labels) → AreApart ls → AreApart (removed l ls)
apart-removed l [] apart = tt
apart-removed l (k ∷ ks) apart =
    elim (same_labels l k) as (λ b. AreApart (if b then removed l ks else k ∷ removed l ks)) [
      | true ↦ apart-removed l ks apart.1
      | false ↦ (new-removed k l ks apart.0, apart-removed l ks apart.1)
    ]

or_skip : (a b : Bool) → a ≡ false → T (a || b) → T b
or_skip true b e h = absurd (true_not_false e)
or_skip false b e h = h

all-removed : (x : Labels × (ℤ × ℤ)) (xs : Batch) (ls : List Labels) → T (list_all (has_set (x ∷ xs)) ls) → T (list_all (has_set xs) (removed x.0 ls))
all-removed x xs [] all = tt
all-removed x xs (k ∷ ks) all =
    elim (same_labels x.0 k) as (λ b. same_labels x.0 k ≡ b → T (list_all (has_set xs) (if b then removed x.0 ks else k ∷ removed x.0 ks))) [
      | true ↦ λ e. all-removed x xs ks (second_T _ _ all)
      | false ↦ λ e. both_T _ _ (or_skip (same_labels k x.0) (has_set xs k) (same_turn k x.0 ∙ e) (first_T _ _ all)) (all-removed x xs ks (second_T _ _ all))
    ] refl

here_too : (x : Labels × (ℤ × ℤ)) (xs : Batch) (k : Labels) → has_set xs x.0 ≡ true → T (has_set (x ∷ xs) k) → T (has_set xs k)
here_too x xs k there h =
    elim (same_labels k x.0) as (λ b. same_labels k x.0 ≡ b → T (b || has_set xs k) → T (has_set xs k)) [
      | true ↦ λ e _. T_of _ (ap (has_set xs) (same_path k x.0 e) ∙ there)
      | false ↦ λ e g. g
    ] refl h

all-there : (x : Labels × (ℤ × ℤ)) (xs : Batch) (ls : List Labels) → has_set xs x.0 ≡ true → T (list_all (has_set (x ∷ xs)) ls) → T (list_all (has_set xs) ls)
all-there x xs [] there all = tt
all-there x xs (k ∷ ks) there all = both_T _ _ (here_too x xs k there (first_T _ _ all)) (all-there x xs ks there (second_T _ _ all))

-- label sets that a batch has are no more than it has
count_within : (xs : Batch) (ls : List Labels) → AreApart ls → T (list_all (has_set xs) ls) → length ls ≤ set_count xs
count_within [] [] apart all = omega arith
count_within [] (l ∷ ls) apart all = absurd all
count_within (x ∷ xs) ls apart all =
    elim (has_set xs x.0) as (λ b. has_set xs x.0 ≡ b → length ls ≤ (if b then 0 else 1) + set_count xs) [
      | true ↦ λ e. let rest = count_within xs ls apart (all-there x xs ls e all) in omega arith
      | false ↦ λ e.
          let size = length-removed x.0 ls apart in
          let rest = count_within xs (removed x.0 ls) (apart-removed x.0 ls apart) (all-removed x xs ls all) in
          omega arith
    ] refl

-- a version's own series are no more than the label sets of its batch
pub owned_within : (floor : ℤ) (slots : List Slot) (xs : Batch) → IsSoundHead floor (series_in_each slots) → AllOwn (has_set xs) slots → owned slots ≤ set_count xs
owned_within floor slots xs sound all =
    let few = count_within xs (own_sets slots) (apart_own floor slots sound) (all_own (has_set xs) slots all) in
    let is = owned_is slots in
    omega arith

or_more : (a b : Bool) → T b → T (a || b)
or_more true b h = tt
or_more false b h = h

all_more : (x : Labels × (ℤ × ℤ)) (xs zs : Batch) → T (list_all (λ z. has_set xs z.0) zs) → T (list_all (λ z. has_set (x ∷ xs) z.0) zs)
all_more x xs [] all = tt
all_more x xs (z ∷ zs) all = both_T _ _ (or_more (same_labels z.0 x.0) (has_set xs z.0) (first_T _ _ all)) (all_more x xs zs (second_T _ _ all))

or_here : (a b : Bool) → a ≡ true → T (a || b)
or_here a b e = subst (λ (c : Bool). T (c || b)) (sym e) tt

-- a batch has the label sets of its samples
pub has_each : (xs : Batch) → T (list_all (λ x. has_set xs x.0) xs)
has_each [] = tt
has_each (x ∷ xs) = both_T _ _ (or_here (same_labels x.0 x.0) (has_set xs x.0) (same_self x.0)) (all_more x xs xs (has_each xs))

pub copied_within : (copied before after sets result : ℕ) → copied + 119 * before ≤ 119 * after → before ≡ 0 → after ≤ sets → result ≡ copied → result ≤ 119 * sets
copied_within copied before after sets result counted none few same = omega arith
