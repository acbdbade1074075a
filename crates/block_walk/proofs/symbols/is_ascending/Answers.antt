use Rattle.std.proofs.Common.{◌≡◌, ℕ, zero, suc, ◌+◌, ◌<◌, Bool, true, false, ◌&&◌, List, [], ◌∷◌, length, get_or, refl, sym, rules, arith}
use Rattle.std.specs.Borrow.{Bor}
use Rattle.std.specs.List.{IsAllAdjacentAnswer}
use Rattle.std.proofs.lemmas.Fn.{always_returns_same}
use Rattle.block_walk.specs.IndexFile.Seen.{texts}
use Rattle.block_walk.specs.IndexFile.Layout.{ascending, is_less}
use Rattle.block_walk.proofs.symbols.is_ascending.Goals as goal

abbrev below : Bor (List ℕ) → Bor (List ℕ) → Bool
below a b = is_less a.now b.now

all_below : (xs : List (Bor (List ℕ)))
    → ((k : ℕ) (d : Bor (List ℕ)) → k + 1 < length xs
    → true ≡ below (get_or xs k d) (get_or xs (k + 1) d)) → true ≡ ascending (texts xs)
unfolding ascending
all_below [] h = refl
all_below (a ∷ []) h = refl
all_below (a ∷ b ∷ xs) h =
    let one : below a b ≡ true = sym (h 0 a (omega arith)) in
    let more = all_below (b ∷ xs) (λ k d lt.
    let e : suc k + 1 ≡ suc (k + 1) = omega arith in
    let o = h (suc k) d (omega arith) in
    rw e at o) in
    rw (one, ← more) refl

not_both : (p q : Bool) → false ≡ q → false ≡ (p && q)
not_both true q h = h
not_both false q h = refl

some_not : (xs : List (Bor (List ℕ))) (k : ℕ) → k + 1 < length xs
    → ((d : Bor (List ℕ)) → false ≡ below (get_or xs k d) (get_or xs (k + 1) d))
    → false ≡ ascending (texts xs)
unfolding ascending
some_not [] k lt h = absurd (omega arith)
some_not (a ∷ []) k lt h = absurd (omega arith)
some_not (a ∷ b ∷ xs) zero lt h = let one : below a b ≡ false = sym (h a) in rw one refl
some_not (a ∷ b ∷ xs) (suc k) lt h =
    not_both (below a b) (ascending (texts (b ∷ xs))) (some_not (b ∷ xs) k (omega arith) (λ d.
    let e : suc k + 1 ≡ suc (k + 1) = omega arith in
    let o = h d in
    rw e at o))

-- what comparing each text with the next tells
told : (xs : List (Bor (List ℕ))) (r : Bool) → IsAllAdjacentAnswer (λ x y b. b ≡ below x y) xs r
    → r ≡ ascending (texts xs)
told xs true each = all_below xs each
told xs false one = some_not xs one.0 one.1 one.2

pub returns : goal.returns
returns c =
    told c.args.symbols.now c.is_sorted_by.result
    (c.is_sorted_by.ensures.cases below (always_returns_same _ (λ a r. r ≡ below a.0.now a.1.0.now) _
    (λ a r q k. search rules)))
