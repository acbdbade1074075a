-- The neighbours with the fewest samples, so far.
use Rattle.std.proofs.Common.{◌≡◌, ◌⊎◌, inl, inr, ⊎_elim, ℕ, ◌+◌, ◌≤◌, List, length, arith}
use Rattle.std.proofs.Common.{subst, sym, ap, ◌∙◌, refl, Option, Some, None}
use Rattle.std.specs.Prelude.{ℤ, IfSome, IfNone, IsNone}
use Rattle.std.proofs.lemmas.Bool.{cases_eq}
use Rattle.join_schedule.specs.declared.blocks.Shape.{Shape}
use Rattle.join_schedule.specs.declared.blocks.Limits.{Limits}
use Rattle.join_schedule.specs.declared.blocks.Run.{Run}
use Rattle.join_schedule.specs.declared.neighbours.Pair.{Pair}
use Rattle.join_schedule.specs.Blocks.{Fits, samples_in}
use Rattle.join_schedule.specs.Neighbours.{pair_at, NoNeighboursFit, AreLeastNeighbours}

-- of the neighbours among so many blocks that may become one, these have the fewest samples
pub record IsLeastAmong (limits : Limits) (floor : ℤ) (blocks : List Shape) (many : ℕ)
    (pair : Pair) : Type 0 where
  pub inside : pair.at + 2 ≤ length blocks
  pub samples_are : pair.samples ≡ samples_in (pair_at pair.at blocks)
  pub fits : Fits limits floor (pair_at pair.at blocks)
  pub least : (at : ℕ) → at + 2 ≤ many → Fits limits floor (pair_at at blocks)
      → pair.samples ≤ samples_in (pair_at at blocks)

pub record IsLeastSoFar (limits : Limits) (floor : ℤ) (blocks : List Shape) (many : ℕ)
    (least : Option Pair) : Type 0 where
  pub some : IfSome least (IsLeastAmong limits floor blocks many)
  pub none : IfNone least ((at : ℕ) → at + 2 ≤ many → Fits limits floor (pair_at at blocks) → ⊥)

-- the neighbours at a place, if they may become one block
pub record IsPairAt (limits : Limits) (floor : ℤ) (blocks : List Shape) (at : ℕ)
    (pair : Option Pair) : Type 0 where
  pub at_is : IfSome pair (λ p. p.at ≡ at)
  pub samples_are : IfSome pair (λ p. p.samples ≡ samples_in (pair_at at blocks))
  pub fits : IfSome pair (λ _. Fits limits floor (pair_at at blocks))
  pub none : IfNone pair (Fits limits floor (pair_at at blocks) → ⊥)

pub none_so_far : (limits : Limits) (floor : ℤ) (blocks : List Shape)
    → IsLeastSoFar limits floor blocks 1 None
none_so_far limits floor blocks = record { some = tt; none = λ at le f. omega (arith, le) }

module _ (limits : Limits) (floor : ℤ) (blocks : List Shape) where
  older : (many samples k : ℕ) (one : Option Pair) → IsLeastSoFar limits floor blocks many one
      → IfSome one (λ p. samples ≤ p.samples) → k + 2 ≤ many → Fits limits floor (pair_at k blocks)
      → samples ≤ samples_in (pair_at k blocks)
  older many samples k None far fewer inside fits = absurd (far.none k inside fits)
  older many samples k (Some p) far fewer inside fits =
      let least : p.samples ≤ samples_in (pair_at k blocks) = far.some.least k inside fits in
      omega (arith, fewer, least)

  newer : (at samples k : ℕ) (other : Option Pair) → IsPairAt limits floor blocks at other
      → IfSome other (λ p. samples ≤ p.samples) → k ≡ at → Fits limits floor (pair_at k blocks)
      → samples ≤ samples_in (pair_at k blocks)
  newer at samples k None is fewer here fits =
      absurd (is.none (subst (λ (n : ℕ). Fits limits floor (pair_at n blocks)) here fits))
  newer at samples k (Some p) is fewer here fits =
      subst (λ (n : ℕ). samples ≤ samples_in (pair_at n blocks)) (sym here)
      (omega (arith, fewer, is.samples_are))

  module _ (many at : ℕ) (one other : Option Pair) (here : at + 1 ≡ many)
      (inside : many + 1 ≤ length blocks) (far : IsLeastSoFar limits floor blocks many one)
      (is : IsPairAt limits floor blocks at other) where
    least_at : (r : Pair) → IfSome one (λ p. r.samples ≤ p.samples)
        → IfSome other (λ p. r.samples ≤ p.samples) → (k : ℕ) → k + 2 ≤ many + 1
        → Fits limits floor (pair_at k blocks) → r.samples ≤ samples_in (pair_at k blocks)
    least_at r fewer_one fewer_other k le fits =
        ⊎_elim
        (λ (same : k ≡ at). newer at r.samples k other is fewer_other same fits)
        (λ (not_same : k ≡ at → ⊥).
        older many r.samples k one far fewer_one (omega (arith, le, here, not_same)) fits)
        (cases_eq k at)

    least_of : (r : Pair) → (one ≡ Some r) ⊎ (other ≡ Some r)
        → IfSome one (λ p. r.samples ≤ p.samples) → IfSome other (λ p. r.samples ≤ p.samples)
        → IsLeastAmong limits floor blocks (many + 1) r
    least_of r (inl same) fewer_one fewer_other =
        let old : IsLeastAmong limits floor blocks many r =
        subst (λ (o : Option Pair). IfSome o (IsLeastAmong limits floor blocks many)) same far.some in
        record {
          inside = old.inside;
          samples_are = old.samples_are;
          fits = old.fits;
          least = least_at r fewer_one fewer_other;
        }
    least_of r (inr same) fewer_one fewer_other =
        let at_is : r.at ≡ at =
        subst (λ (o : Option Pair). IfSome o (λ (p : Pair). p.at ≡ at)) same is.at_is in
        let samples_are : r.samples ≡ samples_in (pair_at at blocks) =
        subst (λ (o : Option Pair). IfSome o (λ (p : Pair). p.samples ≡ samples_in (pair_at at blocks)))
        same is.samples_are in
        let fits : Fits limits floor (pair_at at blocks) =
        subst (λ (o : Option Pair). IfSome o (λ (p : Pair). Fits limits floor (pair_at at blocks)))
        same is.fits in
        record {
          inside = omega (arith, at_is, here, inside);
          samples_are = samples_are ∙ ap (λ (n : ℕ). samples_in (pair_at n blocks)) (sym at_is);
          fits = subst (λ (n : ℕ). Fits limits floor (pair_at n blocks)) (sym at_is) fits;
          least = least_at r fewer_one fewer_other;
        }

    none_of : (one : Option Pair) (other : Option Pair) → IsNone one → IsNone other
        → IsLeastSoFar limits floor blocks many one → IsPairAt limits floor blocks at other
        → (k : ℕ) → k + 2 ≤ many + 1 → Fits limits floor (pair_at k blocks) → ⊥
    none_of None None a b far is k le fits =
        ⊎_elim
        (λ (same : k ≡ at). is.none (subst (λ (n : ℕ). Fits limits floor (pair_at n blocks)) same fits))
        (λ (not_same : k ≡ at → ⊥). far.none k (omega (arith, le, here, not_same)) fits)
        (cases_eq k at)
    none_of (Some p) other a b far is k le fits = absurd cc
    none_of None (Some q) a b far is k le fits = absurd cc

    pub least_next : (result : Option Pair) → (IsNone result → IsNone one × IsNone other)
        → IfSome result (λ p. (one ≡ Some p) ⊎ (other ≡ Some p))
        → IfSome result (λ p. IfSome one (λ q. p.samples ≤ q.samples)
        × IfSome other (λ q. p.samples ≤ q.samples))
        → IsLeastSoFar limits floor blocks (many + 1) result
    least_next None neither either fewer = record {
      some = tt;
      none = none_of one other (neither refl).0 (neither refl).1 far is;
    }
    least_next (Some r) neither either fewer = record {
      some = least_of r either fewer.0 fewer.1;
      none = tt;
    }

  pub are_least : (many : ℕ) (pair : Pair) → length blocks ≤ many
      → IsLeastAmong limits floor blocks many pair
      → AreLeastNeighbours limits floor blocks (record { at = pair.at; count = 2 })
  are_least many pair all l = record {
    is_run = record { several = omega arith; inside = l.inside };
    two = refl;
    fits = l.fits;
    least = λ at le fits.
        let least : pair.samples ≤ samples_in (pair_at at blocks) =
        l.least at (omega (arith, le, all)) fits in
        omega (arith, l.samples_are, least);
  }

  pub none_fits : (many : ℕ) (least : Option Pair) → least ≡ None → length blocks ≤ many
      → IsLeastSoFar limits floor blocks many least → NoNeighboursFit limits floor blocks
  none_fits many least is all far =
      λ at inside fits.
      subst (λ (o : Option Pair). IfNone o ((k : ℕ) → k + 2 ≤ many → Fits limits floor (pair_at k blocks) → ⊥))
      is far.none at (omega (arith, inside, all)) fits

  pub least_is : (many : ℕ) (least : Option Pair) (pair : Pair) → least ≡ Some pair
      → length blocks ≤ many → IsLeastSoFar limits floor blocks many least
      → AreLeastNeighbours limits floor blocks (record { at = pair.at; count = 2 })
  least_is many least pair is all far =
      are_least many pair all
      (subst (λ (o : Option Pair). IfSome o (IsLeastAmong limits floor blocks many)) is far.some)

pub none_then : (r : Option Run) (P Q : Type 0) → IfNone r P → (P → Q) → IfNone r Q
none_then None P Q h f = f h
none_then (Some x) P Q h f = tt
