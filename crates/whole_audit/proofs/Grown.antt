-- What a part that has grown keeps.
use Rattle.std.proofs.Common.{◌≡◌, ℕ, ℤ, Bool, true, false, cond, ◌⊎◌, inl, inr, List, [], ◌∷◌, ◌++◌, refl, sym, ◌∙◌, ap, subst, arith}
use Rattle.std.specs.Prelude.{nat_eq, ◌||◌}
use Rattle.std.specs.List.{Contains}
use Rattle.std.proofs.lemmas.Bool.Decides.{nat_tests}
use Rattle.std.proofs.lemmas.List.Folds.{list_any-append}
use Rattle.labels.specs.Contents.{in_range}
use Rattle.labels.specs.Parts.{Part, references, has_sample}
use Rattle.labels.specs.Ascending.{first_or_end}
use Rattle.labels.proofs.Lists.{here, there, Contains-cases, none_in_nil}
use Rattle.labels.proofs.Times.{true_not_false}
use Rattle.cover.specs.Asking.{labels_at, samples_at}
use Rattle.whole_audit.specs.Growing.{GrowsTo}

pub reference_stays : (p q : Part) (r : ℕ) → GrowsTo p q → Contains (references p) r
    → Contains (references q) r
reference_stays [] q r g c = absurd (none_in_nil r c)
reference_stays (x ∷ xs) [] r g c = absurd g
reference_stays (x ∷ xs) (y ∷ ys) r g c = elim (Contains-cases x.0 (references xs) r c) [
  | inl e ↦
      subst (λ (z : ℕ). Contains (references (y ∷ ys)) z) (sym g.0 ∙ e) (here y.0 (references ys))
  | inr d ↦ there y.0 r (references ys) (reference_stays xs ys r g.3 d)
]

-- the references stand in front
pub references_grow : (p q : Part) → GrowsTo p q
    → (more : List ℕ) × (references q ≡ references p ++ more)
references_grow [] q g = (references q, refl)
references_grow (x ∷ xs) [] g = absurd g
references_grow (x ∷ xs) (y ∷ ys) g =
    let ih : (more : List ℕ) × (references ys ≡ references xs ++ more) = references_grow xs ys g.3 in
    (ih.0, λ i. sym g.0 i ∷ ih.1 i)

pub labels_stay : (p q : Part) (r : ℕ) → GrowsTo p q → Contains (references p) r
    → labels_at q r ≡ labels_at p r
labels_stay [] q r g c = absurd (none_in_nil r c)
labels_stay (x ∷ xs) [] r g c = absurd g
labels_stay (x ∷ xs) (y ∷ ys) r g c =
    ap (λ n. cond (nat_eq n r) y.1.0 (labels_at ys r)) (sym g.0)
    ∙ ap (λ l. cond (nat_eq x.0 r) l (labels_at ys r)) (sym g.1)
    ∙ go (nat_eq x.0 r) refl (Contains-cases x.0 (references xs) r c)
    (λ d. labels_stay xs ys r g.3 d)
  where
    go : (b : Bool) → nat_eq x.0 r ≡ b → (x.0 ≡ r) ⊎ Contains (references xs) r
        → (Contains (references xs) r → labels_at ys r ≡ labels_at xs r)
        → cond b x.1.0 (labels_at ys r) ≡ cond b x.1.0 (labels_at xs r)
    go true e at later = refl
    go false e (inl same) later =
        absurd (let t : nat_eq x.0 r ≡ true = grind (arith, nat_tests) in
        true_not_false (sym t ∙ e))
    go false e (inr d) later = later d

front_false : (a b : Bool) → (a || b) ≡ false → a ≡ false
front_false true b e = e
front_false false b e = refl

pub none_before : (from to : ℤ) (ss more : List (ℤ × ℤ)) → has_sample from to (ss ++ more) ≡ false
    → has_sample from to ss ≡ false
none_before from to ss more e =
    front_false (has_sample from to ss) (has_sample from to more)
    (sym (list_any-append (λ (s : ℤ × ℤ). in_range from to s.0) ss more) ∙ e)

-- what has no sample in the range had none
pub silent_before : (from to : ℤ) (p q : Part) (r : ℕ) → GrowsTo p q
    → has_sample from to (samples_at q r) ≡ false → has_sample from to (samples_at p r) ≡ false
silent_before from to [] q r g e = refl
silent_before from to (x ∷ xs) [] r g e = absurd g
silent_before from to (x ∷ xs) (y ∷ ys) r g e =
    go (nat_eq x.0 r)
    (ap (λ n. has_sample from to (cond (nat_eq n r) y.1.1 (samples_at ys r))) g.0 ∙ e)
    (λ h. silent_before from to xs ys r g.3 h)
  where
    go : (b : Bool) → has_sample from to (cond b y.1.1 (samples_at ys r)) ≡ false
        → (has_sample from to (samples_at ys r) ≡ false
        → has_sample from to (samples_at xs r) ≡ false)
        → has_sample from to (cond b x.1.1 (samples_at xs r)) ≡ false
    go true e later =
        none_before from to x.1.1 g.2.0 (sym (ap (has_sample from to) g.2.1) ∙ e)
    go false e later = later e

-- of a part that has no series too many, the first series is the same
pub first_stays : (p q : Part) (r : ℕ) → GrowsTo p q → Contains (references p) r
    → first_or_end (references p) ≡ first_or_end (references q)
first_stays [] q r g c = absurd (none_in_nil r c)
first_stays (x ∷ xs) [] r g c = absurd g
first_stays (x ∷ xs) (y ∷ ys) r g c = g.0
