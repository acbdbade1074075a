-- One more element of a list, and the end of one.
use Rattle.std.proofs.Common.{◌≡◌, ◌+◌, ◌<◌, ◌≤◌, ℕ, List, [], ◌∷◌, ◌++◌, length, map, take, get_or}
use Rattle.std.proofs.Common.{sym, ap, ◌∙◌, refl, take_all, suc, drop, drop-cons}
use Rattle.std.proofs.Common.{add-one}
use Rattle.std.specs.List.{AllZip}
use Rattle.std.proofs.lemmas.List.{map_more, map-append, take-append-drop}

pub zip_more : {A B : Type 0} (R : A → B → Type 0) (xs : List A) (ys : List B) (x : A) (y : B)
    → AllZip R xs ys → R x y → AllZip R (xs ++ x ∷ []) (ys ++ y ∷ [])
zip_more R [] [] x y p q = (q, tt)
zip_more R [] (b ∷ bs) x y p q = absurd p
zip_more R (a ∷ more) [] x y p q = absurd p
zip_more R (a ∷ more) (b ∷ bs) x y p q = (p.0, zip_more R more bs x y p.1 q)

-- as many on both sides
pub zip_length : {A B : Type 0} (R : A → B → Type 0) (xs : List A) (ys : List B) → AllZip R xs ys
    → length xs ≡ length ys
zip_length R [] [] p = refl
zip_length R [] (b ∷ bs) p = absurd p
zip_length R (a ∷ more) [] p = absurd p
zip_length R (a ∷ more) (b ∷ bs) p = ap suc (zip_length R more bs p.1)

pub map_turn : {X Y : Type 0} (f : X → Y) (xs : List X) (i : ℕ) (x d : X) → i < length xs
    → x ≡ get_or xs i d → map f (take (i + 1) xs) ≡ map f (take i xs) ++ f x ∷ []
map_turn f xs i x d lt at =
    map_more f xs i d lt ∙ ap (λ y. map f (take i xs) ++ f y ∷ []) (sym at)

-- one more on both sides, of a list that is seen by f
pub zip_turn : {X A B : Type 0} (R : A → B → Type 0) (f : X → A) (xs : List X) (i : ℕ) (x d : X)
    (ys next : List B) (y : B) → i < length xs → x ≡ get_or xs i d
    → AllZip R (map f (take i xs)) ys → R (f x) y → next ≡ ys ++ y ∷ []
    → AllZip R (map f (take (i + 1) xs)) next
zip_turn R f xs i x d ys next y lt at each one e =
    rw (map_turn f xs i x d lt at, e) (zip_more R (map f (take i xs)) ys (f x) y each one)

-- a list is what stands before an element, the element, and the rest
pub parted : {X Y : Type 0} (f : X → Y) (xs : List X) (i : ℕ) (x d : X) → i < length xs
    → x ≡ get_or xs i d → map f xs ≡ map f (take i xs) ++ (f x ∷ map f (drop (i + 1) xs))
parted f xs i x d lt at =
    ap (map f) (sym (take-append-drop i xs))
    ∙ map-append f (take i xs) (drop i xs)
    ∙ ap (λ ys. map f (take i xs) ++ map f ys) (drop-cons xs i d lt)
    ∙ rw (add-one, ← at) refl

pub map_end : {X Y : Type 0} (f : X → Y) (xs : List X) (i : ℕ) → length xs ≤ i
    → map f (take i xs) ≡ map f xs
map_end f xs i le = ap (map f) (take_all i xs le)
