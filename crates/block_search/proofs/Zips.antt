-- Pairs of lists.
use Rattle.std.proofs.Common.{List, [], ◌∷◌, map}
use Rattle.std.specs.List.{AllZip}

-- from the items to what they are mapped to
pub AllZip-map : {A B C : Type 0} (R : B → C → Type 0) (f : A → B) (xs : List A) (ys : List C)
    → AllZip (λ x y. R (f x) y) xs ys → AllZip R (map f xs) ys
AllZip-map R f [] [] h = tt
AllZip-map R f [] (y ∷ ys) h = absurd h
AllZip-map R f (x ∷ xs) [] h = absurd h
AllZip-map R f (x ∷ xs) (y ∷ ys) h = (h.0, AllZip-map R f xs ys h.1)
