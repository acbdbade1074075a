-- The last end of a block with a property, or the least, so far.
use Rattle.std.proofs.Common.{◌≡◌, ◌⊎◌, inl, inr, ℕ, ◌+◌, ◌<◌}
use Rattle.std.proofs.Common.{◌≤◌, List, [], ◌∷◌, length, take, get_or, arith}
use Rattle.std.proofs.Common.{subst, sym, refl, Option, Some, None}
use Rattle.std.specs.Prelude.{ℤ, ◌≤ℤ◌, ◌<ℤ◌, int_lt, All, Any}
use Rattle.std.specs.Prelude.{Contains, IfSome, IfNone, IsNone, false, ◌↔◌}
use Rattle.std.proofs.lemmas.Int.{ints, by_lt_z}
use Rattle.std.proofs.lemmas.Bool.{cond-false}
use Rattle.std.proofs.lemmas.List.Sums.{sum_by-cons}
use Rattle.std.proofs.lemmas.List.{get_or_default, take_all}
use Rattle.std.proofs.lemmas.List.Elements.{All-more, All-weaker, All-nil, All-cons}
use Rattle.std.proofs.lemmas.List.Elements.{All-head, All-tail, All-contains, Contains-append_right}
use Rattle.join_schedule.specs.declared.blocks.Shape.{Shape}
use Rattle.join_schedule.specs.Blocks.{bytes_in}
use Rattle.join_schedule.specs.Expiry.{IsExpired, IsLastExpired}
use Rattle.join_schedule.specs.Expiry.{IsLeastEnd, share_after, bytes_after}

-- an end of a block that has Q, to which R leads from each such end of the blocks before a place
pub record IsBest (R : ℤ → ℤ → Type 0) (Q : ℤ → Type 0) (blocks : List Shape) (i : ℕ)
    (t : ℤ) : Type 0 where
  pub is_end : Any (λ (b : Shape). b.to ≡ t) blocks
  pub good : Q t
  pub best : All (λ (b : Shape). Q b.to → R b.to t) (take i blocks)

pub record IsBestSoFar (R : ℤ → ℤ → Type 0) (Q : ℤ → Type 0) (blocks : List Shape) (i : ℕ)
    (o : Option ℤ) : Type 0 where
  pub some : IfSome o (IsBest R Q blocks i)
  pub none : IfNone o (All (λ (b : Shape). Q b.to → ⊥) (take i blocks))

pub le_through : (a b c : ℤ) → a ≤ℤ b → b ≤ℤ c → a ≤ℤ c
le_through a b c p q = omega (arith, ints, p, q)

pub ge_through : (a b c : ℤ) → b ≤ℤ a → c ≤ℤ b → c ≤ℤ a
ge_through a b c p q = omega (arith, ints, p, q)

module _ (R : ℤ → ℤ → Type 0) (through : (a b c : ℤ) → R a b → R b c → R a c) (Q : ℤ → Type 0)
    (blocks : List Shape) where
  pub none_yet : IsBestSoFar R Q blocks 0 None
  none_yet = record { some = tt; none = All-nil (λ (b : Shape). Q b.to → ⊥) }

  older : (i : ℕ) (one : Option ℤ) (r : ℤ) → IsBestSoFar R Q blocks i one
      → IfSome one (λ q. R q r) → All (λ (b : Shape). Q b.to → R b.to r) (take i blocks)
  older i None r far bound =
      All-weaker (λ (b : Shape). Q b.to → ⊥) (λ (b : Shape). Q b.to → R b.to r)
      (λ b none q. absurd (none q)) (take i blocks) far.none
  older i (Some q) r far bound =
      All-weaker (λ (b : Shape). Q b.to → R b.to q) (λ (b : Shape). Q b.to → R b.to r)
      (λ b best good. through b.to q r (best good) bound) (take i blocks) far.some.best

  newer : (b : Shape) (other : Option ℤ) (r : ℤ) → IfSome other (λ t. t ≡ b.to)
      → IfNone other (Q b.to → ⊥) → IfSome other (λ q. R q r) → Q b.to → R b.to r
  newer b None r is none bound good = absurd (none good)
  newer b (Some q) r is none bound good = subst (λ (t : ℤ). R t r) is bound

  module _ (i : ℕ) (d : Shape) (one other : Option ℤ) (inside : i < length blocks)
      (far : IsBestSoFar R Q blocks i one)
      (is : IfSome other (λ t. t ≡ (get_or blocks i d).to))
      (good : IfSome other (λ t. Q (get_or blocks i d).to))
      (none : IfNone other (Q (get_or blocks i d).to → ⊥)) where
    best_at : (r : ℤ) → IfSome one (λ q. R q r) → IfSome other (λ q. R q r)
        → All (λ (b : Shape). Q b.to → R b.to r) (take (i + 1) blocks)
    best_at r of_one of_other =
        All-more (λ (b : Shape). Q b.to → R b.to r) blocks i d inside (older i one r far of_one)
        (newer (get_or blocks i d) other r is none of_other)

    best_of : (r : ℤ) → (one ≡ Some r) ⊎ (other ≡ Some r) → IfSome one (λ q. R q r)
        → IfSome other (λ q. R q r) → IsBest R Q blocks (i + 1) r
    best_of r (inl same) of_one of_other =
        let old : IsBest R Q blocks i r =
        subst (λ (o : Option ℤ). IfSome o (IsBest R Q blocks i)) same far.some in
        record { is_end = old.is_end; good = old.good; best = best_at r of_one of_other }
    best_of r (inr same) of_one of_other =
        let here : r ≡ (get_or blocks i d).to =
        subst (λ (o : Option ℤ). IfSome o (λ (t : ℤ). t ≡ (get_or blocks i d).to)) same is in
        let good_here : Q (get_or blocks i d).to =
        subst (λ (o : Option ℤ). IfSome o (λ (t : ℤ). Q (get_or blocks i d).to)) same good in
        record {
          is_end = (
            i,
            get_or blocks i d,
            inside,
            get_or_default blocks i (get_or blocks i d) d inside,
            sym here,
          );
          good = subst Q (sym here) good_here;
          best = best_at r of_one of_other;
        }

    none_of : (one other : Option ℤ) → IsNone one → IsNone other → IsBestSoFar R Q blocks i one
        → IfNone other (Q (get_or blocks i d).to → ⊥)
        → All (λ (b : Shape). Q b.to → ⊥) (take (i + 1) blocks)
    none_of None None a b far none =
        All-more (λ (b : Shape). Q b.to → ⊥) blocks i d inside far.none none
    none_of (Some p) other a b far none = absurd cc
    none_of None (Some p) a b far none = absurd cc

    pub best_next : (result : Option ℤ) → (IsNone result → IsNone one × IsNone other)
        → IfSome result (λ t. (one ≡ Some t) ⊎ (other ≡ Some t))
        → IfSome result (λ t. IfSome one (λ q. R q t) × IfSome other (λ q. R q t))
        → IsBestSoFar R Q blocks (i + 1) result
    best_next None neither either bound = record {
      some = tt;
      none = none_of one other (neither refl).0 (neither refl).1 far none;
    }
    best_next (Some r) neither either bound =
        record { some = best_of r either bound.0 bound.1; none = tt }

pub last_is : (floor now : ℤ) (keep : ℕ) (blocks : List Shape) (i : ℕ) (o : Option ℤ)
    → length blocks ≤ i → IsBestSoFar (λ s t. s ≤ℤ t) (IsExpired floor now keep) blocks i o
    → IfSome o (IsLastExpired floor now keep blocks)
last_is floor now keep blocks i None all far = tt
last_is floor now keep blocks i (Some t) all far = record {
  is_end = far.some.is_end;
  expired = far.some.good;
  last =
      subst (λ (s : List Shape). All (λ (b : Shape). IsExpired floor now keep b.to → b.to ≤ℤ t) s)
      (take_all i blocks all) far.some.best;
}

pub none_expired : (floor now : ℤ) (keep : ℕ) (blocks : List Shape) (i : ℕ) (o : Option ℤ)
    → length blocks ≤ i → IsBestSoFar (λ s t. s ≤ℤ t) (IsExpired floor now keep) blocks i o
    → IfNone o (All (λ b. IsExpired floor now keep b.to → ⊥) blocks)
none_expired floor now keep blocks i None all far =
    subst (λ (s : List Shape). All (λ (b : Shape). IsExpired floor now keep b.to → ⊥) s)
    (take_all i blocks all) far.none
none_expired floor now keep blocks i (Some t) all far = tt

-- so many bytes or fewer end after the time
abbrev pub IsEnough : ℕ → List Shape → ℤ → Type 0
IsEnough most blocks t = bytes_after t blocks ≤ most

pub least_is : (most : ℕ) (blocks : List Shape) (i : ℕ) (o : Option ℤ) → length blocks ≤ i
    → IsBestSoFar (λ s t. t ≤ℤ s) (IsEnough most blocks) blocks i o
    → IfSome o (IsLeastEnd most blocks)
least_is most blocks i None all far = tt
least_is most blocks i (Some t) all far = record {
  is_end = far.some.is_end;
  enough = far.some.good;
  least =
      subst (λ (s : List Shape). All (λ (b : Shape). bytes_after b.to blocks ≤ most → t ≤ℤ b.to) s)
      (take_all i blocks all) far.some.best;
}

-- the block that ends last
last_block : (x : Shape) (xs : List Shape)
    → (m : Shape) × Contains (x ∷ xs) m × All (λ (b : Shape). b.to ≤ℤ m.to) (x ∷ xs)
last_block x [] = (
  x,
  (0, omega arith, refl),
  All-cons (λ (b : Shape). b.to ≤ℤ x.to) x [] (omega (arith, ints)) (All-nil (λ (b : Shape). b.to ≤ℤ x.to)),
)
last_block x (y ∷ ys) =
    let r = last_block y ys in
    by_lt_z x.to r.0.to
    (λ (later : x.to <ℤ r.0.to). (
      r.0,
      Contains-append_right (x ∷ []) (y ∷ ys) r.0 r.1,
      All-cons (λ (b : Shape). b.to ≤ℤ r.0.to) x (y ∷ ys) (omega (arith, ints, later)) r.2,
    ))
    (λ (not_later : r.0.to ≤ℤ x.to). (
      x,
      (0, omega arith, refl),
      All-cons (λ (b : Shape). b.to ≤ℤ x.to) x (y ∷ ys) (omega (arith, ints))
          (All-weaker (λ (b : Shape). b.to ≤ℤ r.0.to) (λ (b : Shape). b.to ≤ℤ x.to)
          (λ b le. le_through b.to r.0.to x.to le not_later) (y ∷ ys) r.2),
    ))

no_share : (t : ℤ) (b : Shape) → b.to ≤ℤ t → share_after t b ≡ 0
no_share t b le =
    let no : int_lt t b.to ≡ false = grind (arith, ints) in
    cond-false (int_lt t b.to) b.bytes 0 no

none_after : (t : ℤ) (blocks : List Shape) → All (λ (b : Shape). b.to ≤ℤ t) blocks
    → bytes_after t blocks ≡ 0
none_after t [] all = refl
none_after t (x ∷ xs) all =
    let here : share_after t x ≡ 0 = no_share t x (All-head (λ (b : Shape). b.to ≤ℤ t) x xs all) in
    let rest : bytes_after t xs ≡ 0 =
    none_after t xs (All-tail (λ (b : Shape). b.to ≤ℤ t) x xs all) in
    let whole : bytes_after t (x ∷ xs) ≡ share_after t x + bytes_after t xs =
    sum_by-cons (share_after t) x xs in
    omega (arith, here, rest, whole)

one_is_enough : (most : ℕ) (blocks : List Shape)
    → All (λ (b : Shape). IsEnough most blocks b.to → ⊥) blocks → most < bytes_in blocks → ⊥
one_is_enough most [] none more = omega (arith, more)
one_is_enough most (x ∷ xs) none more =
    let last = last_block x xs in
    let nothing : bytes_after last.0.to (x ∷ xs) ≡ 0 = none_after last.0.to (x ∷ xs) last.2 in
    All-contains (λ (b : Shape). IsEnough most (x ∷ xs) b.to → ⊥) (x ∷ xs) last.0 none last.1
    (omega (arith, nothing))

pub none_is_enough : (most : ℕ) (blocks : List Shape) (i : ℕ) (o : Option ℤ) → length blocks ≤ i
    → most < bytes_in blocks → IsBestSoFar (λ s t. t ≤ℤ s) (IsEnough most blocks) blocks i o
    → IsNone o ↔ (bytes_in blocks ≤ most)
none_is_enough most blocks i None all more far = (
  λ none.
      absurd (one_is_enough most blocks
      (subst (λ (s : List Shape). All (λ (b : Shape). IsEnough most blocks b.to → ⊥) s)
      (take_all i blocks all) far.none) more),
  λ within. refl,
)
none_is_enough most blocks i (Some t) all more far =
    (λ none. absurd cc, λ within. absurd (omega (arith, more, within)))
