-- What stands at a place of a list, and lists that are copied one by one.
use Rattle.std.proofs.Common.{◌≡◌, ℕ, zero, suc, ◌+◌, ◌<◌, ◌≤◌, List, [], ◌∷◌, ◌++◌, length, get_or, drop, Some, Result, Ok, Err, refl, sym, ap, subst, ◌∙◌, append_assoc, arith}
use Rattle.std.specs.Prelude.{map, slice_get, IfOk}
use Rattle.std.specs.List.{All}
use Rattle.std.proofs.lemmas.List.{drop_all, append-nil}
use Rattle.block_walk.proofs.IndexFile.Eaches.{drop_at_place}

pub mapped_at : {X Y : Type 0} (f : X → Y) (xs : List X) (i : ℕ) (x : X) → slice_get xs i ≡ Some x
    → slice_get (map f xs) i ≡ Some (f x)
mapped_at f [] i x g = absurd cc
mapped_at f (y ∷ xs) zero x g = let e : y ≡ x = cc in rw e refl
mapped_at f (y ∷ xs) (suc i) x g = mapped_at f xs i x g

pub stands_at : {X : Type 0} (xs : List X) (i : ℕ) (d : X) → i < length xs
    → slice_get xs i ≡ Some (get_or xs i d)
stands_at [] i d lt = absurd (omega arith)
stands_at (y ∷ xs) zero d lt = refl
stands_at (y ∷ xs) (suc i) d lt = stands_at xs i d (omega arith)

pub all_here : {X : Type 0} (P : X → Type 0) (xs : List X) (i : ℕ) (x : X) → All P xs
    → slice_get xs i ≡ Some x → P x
all_here P [] i x h g = absurd cc
all_here P (y ∷ xs) zero x h g = let e : y ≡ x = cc in subst P e (h 0 y (omega arith))
all_here P (y ∷ xs) (suc i) x h g = all_here P xs i x (λ k d lt. h (suc k) d (omega arith)) g

pub moved_on : {X : Type 0} (front whole : List X) (i : ℕ) (x y : X) → slice_get whole i ≡ Some x
    → y ≡ x → front ++ drop i whole ≡ whole → (front ++ y ∷ []) ++ drop (i + 1) whole ≡ whole
moved_on front whole i x y g e h =
    let s : i + 1 ≡ suc i = omega arith in
    append_assoc front (y ∷ []) (drop (i + 1) whole)
    ∙ rw (e, s) (ap (λ r. front ++ r) (sym (drop_at_place whole i x g)) ∙ h)

pub ended_so : {X : Type 0} (front whole : List X) (i : ℕ) → length whole ≤ i
    → front ++ drop i whole ≡ whole → front ≡ whole
ended_so front whole i le h =
    sym (append-nil front) ∙ ap (λ r. front ++ r) (sym (drop_all i whole le)) ∙ h

-- ---- what is known of an outcome

pub if_ok : {A E : Type 0} (P Q : A → Type 0) (r : Result A E) → ((x : A) → P x → Q x)
    → IfOk r P → IfOk r Q
if_ok P Q (Ok x) h p = h x p
if_ok P Q (Err e) h p = tt
