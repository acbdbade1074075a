-- one more list, which begins farther or not
use Rattle.std.proofs.Common.{◌≡◌, ℕ, zero, suc, ◌+◌, ◌<◌, ◌≤◌, ◌⊎◌, inl, inr, List, [], ◌∷◌, ◌++◌, length, get_or, map, ◌*◌, refl, sym, ◌∙◌, ap, subst, arith}
use Rattle.std.proofs.Math.Nat.{mul-le-mul_left}
use Rattle.cover.specs.declared.certificate.Verdict.{Verdict}
use Rattle.cover.specs.declared.certificate.Verdict.TheVariants.{Match, NoSample, Rejected}
use Rattle.cover.specs.Walking.{AllFresh, AllMovedAtMost, TellsFarthest, IsFarthestAt}

below_more : (k n : ℕ) → k < n + 1 → (k < n) ⊎ (k ≡ n)
below_more k n h = grind arith

-- the live list, which is looked at last, counts as one that begins at 0 before that
pub farthest_more : (begins : ℕ → ℕ) (n from end : ℕ) (v : Verdict) (b : ℕ)
    → TellsFarthest begins n 0 from v end → b ≡ begins n → end < b
    → TellsFarthest begins (n + 1) 0 from (Rejected n) b
farthest_more begins n from end v b t e lt = record {
  least = λ k h. elim (below_more k n h) [
    | inl l ↦ omega (arith, t.least k l)
    | inr q ↦ rw (e, q) (omega arith)
  ];
  live_least = omega arith;
  not_before = omega (arith, t.not_before);
  at = (omega arith, sym e, omega (arith, t.not_before), λ k h. omega (arith, t.least k h));
}

at_more : (begins : ℕ → ℕ) (n from end : ℕ) (v : Verdict) → IsFarthestAt begins n 0 from v end
    → IsFarthestAt begins (n + 1) 0 from v end
at_more begins n from end Match h = h
at_more begins n from end NoSample h = absurd (omega (arith, h.0, h.1))
at_more begins n from end (Rejected j) h = (omega (arith, h.0), h.1, h.2, h.3)

pub farthest_same : (begins : ℕ → ℕ) (n from end : ℕ) (v : Verdict) (b : ℕ)
    → TellsFarthest begins n 0 from v end → b ≡ begins n → b ≤ end
    → TellsFarthest begins (n + 1) 0 from v end
farthest_same begins n from end v b t e le = record {
  least = λ k h. elim (below_more k n h) [
    | inl l ↦ omega (arith, t.least k l)
    | inr q ↦ rw (q, ← e) le
  ];
  live_least = omega arith;
  not_before = t.not_before;
  at = at_more begins n from end v t.at;
}

pub live_farther : (begins : ℕ → ℕ) (n live from end : ℕ) (v : Verdict)
    → TellsFarthest begins n 0 from v end → end < live
    → TellsFarthest begins n live from NoSample live
live_farther begins n live from end v t lt = record {
  least = λ k h. omega (arith, t.least k h);
  live_least = omega arith;
  not_before = omega (arith, t.not_before);
  at = (refl, omega (arith, t.not_before), λ k h. omega (arith, t.least k h));
}

at_live : (begins : ℕ → ℕ) (n live from end : ℕ) (v : Verdict) → IsFarthestAt begins n 0 from v end
    → IsFarthestAt begins n live from v end
at_live begins n live from end Match h = h
at_live begins n live from end NoSample h = absurd (omega (arith, h.0, h.1))
at_live begins n live from end (Rejected j) h = h

pub live_nearer : (begins : ℕ → ℕ) (n live from end : ℕ) (v : Verdict)
    → TellsFarthest begins n 0 from v end → live ≤ end → TellsFarthest begins n live from v end
live_nearer begins n live from end v t le = record {
  least = t.least;
  live_least = le;
  not_before = t.not_before;
  at = at_live begins n live from end v t.at;
}

-- a fact of the image of each element, whatever stands past the end, is one of the list of images
pub at_map : {X : Type 0} (f : X → ℕ) (xs : List X) (k : ℕ) (P : ℕ → Type 0) → k < length xs
    → ((d : X) → P (f (get_or xs k d))) → P (get_or (map f xs) k 0)
at_map f [] k P l h = absurd (omega (arith, l))
at_map f (x ∷ xs) zero P l h = h x
at_map f (x ∷ xs) (suc k) P l h = at_map f xs k P (omega (arith, l)) (λ d. h d)

pub length_map : {X Y : Type 0} (f : X → Y) (xs : List X) → length (map f xs) ≡ length xs
length_map f [] = refl
length_map f (x ∷ xs) = ap suc (length_map f xs)

pub map_push : {X Y : Type 0} (f : X → Y) (xs : List X) (x : X)
    → map f (xs ++ x ∷ []) ≡ map f xs ++ f x ∷ []
map_push f [] x = refl
map_push f (y ∷ ys) x = ap (λ zs. f y ∷ zs) (map_push f ys x)

pub at_push : {X : Type 0} (P : X → Type 0) (xs : List X) (x : X)
    → ((k : ℕ) (d : X) → k < length xs → P (get_or xs k d)) → P x → (k : ℕ) (d : X)
    → k < length (xs ++ x ∷ []) → P (get_or (xs ++ x ∷ []) k d)
at_push P [] x h p zero d l = p
at_push P [] x h p (suc k) d l = absurd (omega (arith, l))
at_push P (y ∷ ys) x h p zero d l = h 0 d (omega arith)
at_push P (y ∷ ys) x h p (suc k) d l =
    at_push P ys x (λ i e m. h (suc i) e (omega (arith, m))) p k d (omega (arith, l))

pub fresh_same : {X : Type 0} (xs ys : List (X × ℕ)) → ys ≡ xs → AllFresh xs → AllFresh ys
fresh_same {X} xs ys e h = subst (λ (zs : List (X × ℕ)). AllFresh zs) (sym e) h

pub fresh_push : {X : Type 0} (xs ys : List (X × ℕ)) (x : X × ℕ) → ys ≡ xs ++ x ∷ [] → AllFresh xs
    → x.1 ≡ 0 → AllFresh ys
fresh_push {X} xs ys x e h z =
    fresh_same (xs ++ x ∷ []) ys e (at_push (λ (y : X × ℕ). y.1 ≡ 0) xs x h z)

pub moves_bound : (r f n len m : ℕ) → r ≤ f + n * len → f ≤ n → len ≡ m → r ≤ (m + 1) * n
moves_bound r f n len m a b e =
    let same : n * len ≡ n * m = ap (λ z. n * z) e in
    omega arith

pub moved_same : {X : Type 0} (n : ℕ) (xs ys : List (X × ℕ)) → ys ≡ xs → AllMovedAtMost n xs
    → AllMovedAtMost n ys
moved_same {X} n xs ys e h = subst (λ (zs : List (X × ℕ)). AllMovedAtMost n zs) (sym e) h

pub same_lengths : {X Y : Type 0} (F : X → List ℕ) (G : Y → List ℕ) (xs : List X) (ys : List Y)
    → map F xs ≡ map G ys → length xs ≡ length ys
same_lengths F G xs ys e = sym (length_map F xs) ∙ ap length e ∙ length_map G ys

pub bound_of_any : (r m n k : ℕ) → r ≤ m * n → n ≤ k → r ≤ m * k
bound_of_any r m n k b l = let up : m * n ≤ m * k = mul-le-mul_left m l in omega arith
