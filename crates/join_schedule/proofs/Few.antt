-- How many blocks there are at most.
use Rattle.std.proofs.Common.{◌≡◌, ◌≤◌, ◌<◌, ℕ, zero, suc, ◌+◌, ◌*◌, List, [], ◌∷◌, length, arith}
use Rattle.std.proofs.lemmas.List.Sums.{sum_by-cons}
use Rattle.join_schedule.specs.declared.blocks.Shape.{Shape}
use Rattle.join_schedule.specs.Blocks.{samples_in}
use Rattle.join_schedule.specs.Neighbours.{AllPairsExceed}

behind : (most : ℕ) (x y : Shape) (rest : List Shape) → AllPairsExceed most (x ∷ (y ∷ rest))
    → AllPairsExceed most rest
behind most x y rest h = λ at inside. h (suc (suc at)) (omega (arith, inside))

two_more : (n most a b s t : ℕ) → n * most ≤ 2 * t + most → most < a + b → s ≡ a + (b + t)
    → suc (suc n) * most ≤ 2 * s + most
two_more n most a b s t few pair is =
    let times : suc (suc n) * most ≡ n * most + (most + most) = grind (arith) in
    omega (arith, times, few, pair, is)

one_alone : (most s : ℕ) → suc zero * most ≤ 2 * s + most
one_alone most s = omega (arith)

pub few : (most : ℕ) (blocks : List Shape) → AllPairsExceed most blocks
    → length blocks * most ≤ 2 * samples_in blocks + most
few most [] h = omega (arith)
few most (x ∷ []) h = one_alone most (samples_in (x ∷ []))
few most (x ∷ (y ∷ rest)) h =
    let inside : 0 + 2 ≤ length (x ∷ (y ∷ rest)) = omega (arith) in
    let pair : most < samples_in (x ∷ (y ∷ [])) = h 0 inside in
    let of_pair : samples_in (x ∷ (y ∷ [])) ≡ x.samples + samples_in (y ∷ []) =
    sum_by-cons (λ (b : Shape). b.samples) x (y ∷ []) in
    let of_one : samples_in (y ∷ []) ≡ y.samples + 0 =
    sum_by-cons (λ (b : Shape). b.samples) y [] in
    let first : samples_in (x ∷ (y ∷ rest)) ≡ x.samples + samples_in (y ∷ rest) =
    sum_by-cons (λ (b : Shape). b.samples) x (y ∷ rest) in
    let second : samples_in (y ∷ rest) ≡ y.samples + samples_in rest =
    sum_by-cons (λ (b : Shape). b.samples) y rest in
    two_more (length rest) most x.samples y.samples (samples_in (x ∷ (y ∷ rest))) (samples_in rest)
    (few most rest (behind most x y rest h)) (omega (arith, pair, of_pair, of_one))
    (omega (arith, first, second))
