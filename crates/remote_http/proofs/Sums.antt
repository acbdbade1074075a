-- How many samples parts leave out.
use Rattle.std.proofs.Common.{◌≡◌, ◌≤◌, ◌+◌, ℕ, suc, List, [], ◌∷◌, ◌++◌, length, refl, ap, ◌∙◌, arith}
use Rattle.std.specs.Prelude.{fold}
use Rattle.std.proofs.lemmas.List.{length-map}
use Rattle.head.specs.declared.left.Left.{Left}
use Rattle.head.specs.declared.left.Reason.{Reason}
use Rattle.head.specs.declared.left.Reason.TheVariants.{OutOfBounds, OutOfOrder, Duplicate, Limit}
use Rattle.labels.specs.Labels.{Labels}
use Rattle.std.specs.Prelude.{ℤ}
use Rattle.head.specs.Laws.{reasons}
use Rattle.head.specs.Sifting.{Fate, joins, held, left_out, fate, noted, Sifted, sifted, sifted_from, world_after}
use Rattle.head.specs.Telling.{told_of, total}
use Rattle.head.specs.Worlds.{Batch, World}
use Rattle.remote_http.specs.Told.{all_left, then_left}

total_told : (rs : List Reason) → total (told_of rs) ≡ length rs
total_told [] = refl
total_told (OutOfBounds ∷ rs) = let t = total_told rs in omega arith
total_told (OutOfOrder ∷ rs) = let t = total_told rs in omega arith
total_told (Duplicate ∷ rs) = let t = total_told rs in omega arith
total_told (Limit ∷ rs) = let t = total_told rs in omega arith

noted_few : (at : ℕ) (x : Labels × (ℤ × ℤ)) (f : Fate) (s : Sifted) (n : ℕ) → length s.left ≤ n
    → length (noted at x f s).left ≤ suc n
noted_few at x (joins w) s n h = omega arith
noted_few at x held s n h = omega arith
noted_few at x (left_out e) s n h = omega arith

from_few : (w : World) (at : ℕ) (xs : Batch) → length (sifted_from w at xs).left ≤ length xs
from_few w at [] = omega arith
from_few w at (x ∷ xs) =
    let later = sifted_from (world_after w (fate w at x)) (at + 1) xs in
    noted_few at x (fate w at x) later (length xs) (from_few (world_after w (fate w at x)) (at + 1) xs)

-- a sift leaves out no more samples than it is given
pub few_left : (w : World) (xs : Batch) (left : Left) → left ≡ told_of (reasons (sifted w xs).left)
    → total left ≤ length xs
few_left w xs left e =
    let size : total left ≡ length (sifted w xs).left =
    ap total e ∙ total_told (reasons (sifted w xs).left) ∙ length-map (sifted w xs).left _ in
    let few = from_few w 0 xs in
    omega arith

fold_more : (a : Left) (lefts : List Left) (left : Left)
    → fold then_left a (lefts ++ left ∷ []) ≡ then_left (fold then_left a lefts) left
fold_more a [] left = refl
fold_more a (l ∷ lefts) left = fold_more (then_left a l) lefts left

pub all_left_more : (lefts : List Left) (left : Left)
    → all_left (lefts ++ left ∷ []) ≡ then_left (all_left lefts) left
all_left_more lefts left = fold_more (told_of []) lefts left

pub total_then : (a b : Left) → total (then_left a b) ≡ total a + total b
total_then a b = omega arith
