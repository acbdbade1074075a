-- One by one, and one more.
use Rattle.std.proofs.Common.{List, [], ◌∷◌, ◌++◌}
use Rattle.protobuf_fields.specs.Format.{EachIs}

pub each_more : {A B : Type 0} (R : A → B → Type 0) (xs : List A) (ys : List B) (x : A) (y : B)
    → EachIs R xs ys → R x y → EachIs R (xs ++ x ∷ []) (ys ++ y ∷ [])
each_more R [] [] x y e r = (r, tt)
each_more R [] (z ∷ ys) x y e r = absurd e
each_more R (w ∷ xs) [] x y e r = absurd e
each_more R (w ∷ xs) (z ∷ ys) x y e r = (e.0, each_more R xs ys x y e.1 r)
