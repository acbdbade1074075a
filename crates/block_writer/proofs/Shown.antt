-- What stands in memory, element by element.
use Rattle.std.proofs.Common.{◌≡◌, ℕ, zero, suc, ◌+◌, ◌<◌, List, [], ◌∷◌, length, get_or, drop}
use Rattle.std.proofs.Common.{refl, sym, ap, ◌∙◌, arith}
use Rattle.std.specs.Prelude.{map}
use Rattle.std.specs.Borrow.{Bor}
use Rattle.labels.specs.Pairs.{texts_of}

map_at : {X Y : Type 0} (f : X → Y) (xs : List X) (i : ℕ) (d : X) → i < length xs
    → drop i (map f xs) ≡ f (get_or xs i d) ∷ drop (suc i) (map f xs)
map_at f [] i d lt = absurd (omega (arith, lt))
map_at f (x ∷ xs) zero d lt = refl
map_at f (x ∷ xs) (suc i) d lt = map_at f xs i d (omega (arith, lt))

pub map_here : {X Y : Type 0} (f : X → Y) (xs : List X) (i : ℕ) (d : X) → i < length xs
    → drop i (map f xs) ≡ f (get_or xs i d) ∷ drop (i + 1) (map f xs)
map_here f xs i d lt =
    let next : suc i ≡ i + 1 = omega arith in
    map_at f xs i d lt ∙ ap (λ j. f (get_or xs i d) ∷ drop j (map f xs)) next

pub pair_here : (ps : List (Bor (List ℕ) × Bor (List ℕ))) (i : ℕ) (d : Bor (List ℕ) × Bor (List ℕ))
    → i < length ps → drop i (texts_of ps)
    ≡ ((get_or ps i d).0.now, (get_or ps i d).1.now) ∷ drop (i + 1) (texts_of ps)
pair_here ps i d lt = map_here (λ p. (p.0.now, p.1.now)) ps i d lt

pub item_here : {X : Type 0} (f : X → List ℕ) (xs : List X) (i : ℕ) (x : X) → i < length xs
    → x ≡ get_or xs i x → drop i (map f xs) ≡ f x ∷ drop (i + 1) (map f xs)
item_here f xs i x lt read =
    map_here f xs i x lt ∙ ap (λ y. f y ∷ drop (i + 1) (map f xs)) (sym read)
