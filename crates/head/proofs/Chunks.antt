-- Samples in chunks.
use Rattle.std.specs.Prelude.{◌≡◌, ◌≤◌, ◌<◌, ◌+◌, ◌*◌, ℕ, ℤ, T, List, [], ◌∷◌, ◌++◌, length, nat_le, nat_lt, nat_eq, not, false, min}
use Rattle.std.specs.List.{list_all, flat_map}
use Rattle.std.proofs.Common.{sym, ◌∙◌, ap, arith, length-append, append_assoc, append-nil}
use Rattle.std.proofs.lemmas.List.Elements.{filter-append}
use Rattle.labels.specs.Contents.{in_range}
use Rattle.labels.specs.Parts.{within}
use Rattle.std.proofs.lemmas.Bool.Decides.{nat_tests}
use Rattle.labels.proofs.Times.{first_T, second_T}
use Rattle.head.specs.Chunks.{joined_chunks}
use Rattle.head.specs.Removing.{outside}

eq_of : (a b : ℕ) → T (nat_eq a b) → a ≡ b
eq_of a b h = grind (arith, nat_tests)

pub length-joined_chunks : (sealed : List (List (ℤ × ℤ))) (last : List (ℤ × ℤ)) → T (list_all (λ samples. nat_eq (length samples) 120) sealed) → length (joined_chunks sealed last) ≡ length sealed * 120 + length last
length-joined_chunks [] last full = omega arith
length-joined_chunks (c ∷ cs) last full =
    let size = eq_of (length c) 120 (first_T _ _ full) in
    let rest = length-joined_chunks cs last (second_T _ _ full) in
    let front = length-append c (joined_chunks cs last) in
    ap length (append_assoc c (flat_map (λ (samples : List (ℤ × ℤ)). samples) cs) last) ∙ front ∙ omega arith

pub full_above : (r s t n : ℕ) → n ≡ s * 120 + t → r ≡ s → 8738 < r → nat_lt 8738 r ≡ nat_le 1048576 n
full_above r s t n count is above = grind (arith, nat_tests)

pub full_at : (r q s t n : ℕ) → n ≡ s * 120 + t → r ≡ s → q ≡ t → r ≡ 8738 → nat_le 16 q ≡ nat_le 1048576 n
full_at r q s t n count is last at = grind (arith, nat_tests)

pub full_below : (r s t n : ℕ) → n ≡ s * 120 + t → r ≡ s → t < 120 → r ≤ 8738 → (r ≡ 8738 → ⊥) → nat_eq r 8738 ≡ nat_le 1048576 n
full_below r s t n count is fewer below not_at = grind (arith, nat_tests)

-- a series that is not full has few samples
pub few_in : (r s t n : ℕ) → n ≡ s * 120 + t → r ≡ s → nat_le 1048576 n ≡ false → r * 120 + t < 1048576
few_in r s t n count is few = grind (arith, nat_tests)

-- the samples of its chunks are all of them
pub few_told : (r q s t n : ℕ) → n ≡ s * 120 + t → r ≡ s → q ≡ t → nat_le 1048576 n ≡ false → r * 120 + q ≡ min 1048576 n
few_told r q s t n count is last few = grind (arith, nat_tests)

-- what lies in a range of sealed chunks and of an open one
pub within-joined_chunks : (from to : ℤ) (sealed : List (List (ℤ × ℤ))) (last : List (ℤ × ℤ)) → within from to (joined_chunks sealed []) ++ within from to last ≡ within from to (joined_chunks sealed last)
within-joined_chunks from to sealed last =
    ap (λ xs. within from to xs ++ within from to last) (append-nil (flat_map (λ (samples : List (ℤ × ℤ)). samples) sealed))
    ∙ sym (filter-append (λ (s : ℤ × ℤ). in_range from to s.0) (flat_map (λ (samples : List (ℤ × ℤ)). samples) sealed) last)

-- what lies outside a range of sealed chunks and of an open one
pub outside-joined_chunks : (from to : ℤ) (sealed : List (List (ℤ × ℤ))) (last : List (ℤ × ℤ)) → outside from to (joined_chunks sealed []) ++ outside from to last ≡ outside from to (joined_chunks sealed last)
outside-joined_chunks from to sealed last =
    ap (λ xs. outside from to xs ++ outside from to last) (append-nil (flat_map (λ (samples : List (ℤ × ℤ)). samples) sealed))
    ∙ sym (filter-append (λ (s : ℤ × ℤ). not (in_range from to s.0)) (flat_map (λ (samples : List (ℤ × ℤ)). samples) sealed) last)
