-- Ranges of times, one after another.
use Rattle.std.specs.Prelude.{◌≡◌, ◌≢◌, ℤ, pos, ◌+ℤ◌, ◌≤ℤ◌, ◌<ℤ◌, int_lt, Bool, true, false, not}
use Rattle.std.specs.Prelude.{◌&&◌, ◌||◌, List, [], ◌∷◌, ◌++◌, refl}
use Rattle.std.proofs.Common.{arith, sym, subst, append_assoc}
use Rattle.std.proofs.lemmas.Int.{ints}
use Rattle.labels.specs.Contents.{in_range}
use Rattle.block_outputs.specs.declared.tiles.Stretch.{Stretch}
use Rattle.block_outputs.specs.Tiles.{AreTiles, AreTilesUpTo}

-- no time lies in a range that ends before it begins
pub none_between : (from to t : ℤ) → to <ℤ from → in_range from to t ≡ false
none_between from to t h =
    elim (int_lt t from) as (λ b. int_lt t from ≡ b → (not b && not (int_lt to t)) ≡ false) [
      | true ↦ λ e. refl
      | false ↦ λ e. let after : int_lt to t ≡ true = grind (arith, ints) in rw after refl
    ] refl

before : (a b c d : Bool) → c ≡ false → b ≡ false → d ≡ true
    → (not a && not b) ≡ ((not a && not c) || (not d && not b))
before true b c d ec eb ed = rw ed refl
before false b c d ec eb ed = rw ec (rw eb refl)

after : (a b c d : Bool) → c ≡ true → a ≡ false → d ≡ false
    → (not a && not b) ≡ ((not a && not c) || (not d && not b))
after a b c d ec ea ed = rw ec (rw ea (rw ed refl))

-- a time of a range lies before its first cut or after it
pub cut_once : (from to m t : ℤ) → from ≤ℤ m → m ≤ℤ to
    → in_range from to t ≡ (in_range from m t || in_range (m +ℤ pos 1) to t)
cut_once from to m t low high =
    elim (int_lt m t) as
    (λ b. int_lt m t ≡ b → in_range from to t ≡ ((not (int_lt t from) && not (int_lt m t)) ||
    (not (int_lt t (m +ℤ pos 1)) && not (int_lt to t)))) [
      | true ↦ λ e. after (int_lt t from) (int_lt to t) (int_lt m t) (int_lt t (m +ℤ pos 1)) e
          (grind (arith, ints)) (grind (arith, ints))
      | false ↦ λ e. before (int_lt t from) (int_lt to t) (int_lt m t) (int_lt t (m +ℤ pos 1)) e
          (grind (arith, ints)) (grind (arith, ints))
    ] refl

-- a tile more
pub one_more : (begin from to : ℤ) (tiles new : List Stretch) (s : Stretch) → new ≡ tiles ++ s ∷ []
    → s.from ≡ from → from ≤ℤ s.to → s.to ≤ℤ to → AreTilesUpTo begin from to tiles
    → AreTilesUpTo begin (s.to +ℤ pos 1) to new
one_more begin from to tiles new s e f low high h rest r =
    subst (λ (ns : List Stretch). AreTiles begin to (ns ++ rest)) (sym e)
    (subst (AreTiles begin to) (sym (append_assoc tiles (s ∷ []) rest)) (h (s ∷ rest) (
      f,
      low,
      high,
      r,
    )))

-- the last tile
pub last_tile : (begin from to : ℤ) (tiles new : List Stretch) (s : Stretch) → new ≡ tiles ++ s ∷ []
    → s.from ≡ from → s.to ≡ to → from ≤ℤ to → AreTilesUpTo begin from to tiles
    → AreTiles begin to new
last_tile begin from to tiles new s e f t low h =
    let low' : from ≤ℤ s.to = omega (arith, ints) in
    let high : s.to ≤ℤ to = omega (arith, ints) in
    let end : to <ℤ (s.to +ℤ pos 1) = omega (arith, ints) in
    subst (AreTiles begin to) (sym e) (h (s ∷ []) (f, low', high, end))
