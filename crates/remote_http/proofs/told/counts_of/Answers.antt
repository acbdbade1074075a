use Rattle.std.proofs.Common.{◌≡◌, List, ◌∷◌, refl}
use Rattle.remote_http.proofs.told.counts_of.Goals as goal

same : {X : Type 0} {x y : X} {xs ys : List X} → x ≡ y → xs ≡ ys → x ∷ xs ≡ y ∷ ys
same e f = cc

pub returns : goal.returns
returns c =
    same c.left_count.ensures (same c.store_count.ensures (same c.store_count-2.ensures (same c.store_count-3.ensures
    (same c.store_count-4.ensures (same c.left_count-2.ensures (same c.left_count-3.ensures (same c.left_count-4.ensures
    (same c.left_count-5.ensures (same c.left_count-6.ensures (same c.left_count-7.ensures
    (same c.left_count-8.ensures (same c.left_count-9.ensures refl))))))))))))
