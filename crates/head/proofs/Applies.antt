-- From the steps at a head to the step of a commit.
use Rattle.std.specs.Prelude.{◌≡◌, ℕ, suc, ℤ, ◌+◌, ◌<◌, List, [], ◌∷◌, Result, Ok, Err, refl, length, slice_index_or}
use Rattle.std.proofs.Common.{sym, ◌∙◌, ap, subst, drop}
use Rattle.std.proofs.Math.Seq.{drop-cons}
use Rattle.head.specs.declared.error.CommitError.{CommitError}
use Rattle.head.specs.declared.error.CommitError.TheVariants.{OutOfBounds, OutOfOrder, Duplicate, Limit, CutTooLow, TooManyParts, Seat, Journal, Memory}
use Rattle.head.specs.Outcomes.{IsStepRefusal}
use Rattle.labels.specs.Labels.{Labels}
use Rattle.head.specs.Refusals.{Refusal}
use Rattle.head.specs.Worlds.{committed}
use Rattle.head.specs.Heads.{HeadSeries, SnapshotParts, world_of, IsSoundSnapshot}
use Rattle.head.specs.Taking.{head_added, head_added_each}
use Rattle.head.proofs.Simulates.{Follows, world_with, follows_batch}

all_of : (s : SnapshotParts) (xs : List (Labels × (ℤ × ℤ))) → IsSoundSnapshot s → Follows s (committed (world_of s) xs) (head_added_each s.floor (Ok s.head) 0 xs)
all_of s xs sound = follows_batch s xs sound

-- an accepted batch
pub accepted : (s : SnapshotParts) (xs : List (Labels × (ℤ × ℤ))) (new : List HeadSeries) → IsSoundSnapshot s → head_added_each s.floor (Ok s.head) 0 xs ≡ Ok new →
    (committed (world_of s) xs ≡ Ok (world_of (record s { head = new }))) × IsSoundSnapshot (record s { head = new })
accepted s xs new sound e = subst (Follows s (committed (world_of s) xs)) e (all_of s xs sound)

pub answer_same : {V W : Type 0} (e : CommitError) (f : Result V Refusal → Result W Refusal) → ((r : Refusal) → f (Err r) ≡ Err r) → (r : Result V Refusal) → IsStepRefusal e r → IsStepRefusal e (f r)
answer_same (OutOfBounds n) f keeps r is = ap f is ∙ keeps _
answer_same (OutOfOrder n) f keeps r is = ap f is ∙ keeps _
answer_same (Duplicate n) f keeps r is = ap f is ∙ keeps _
answer_same Limit f keeps r is = ap f is ∙ keeps _
answer_same CutTooLow f keeps r is = ap f is ∙ keeps _
answer_same TooManyParts f keeps r is = ap f is ∙ keeps _
answer_same Seat f keeps r is = absurd is
answer_same Journal f keeps r is = absurd is
answer_same Memory f keeps r is = tt

-- a refused batch
pub refused : (s : SnapshotParts) (xs : List (Labels × (ℤ × ℤ))) (e : CommitError) → IsSoundSnapshot s → IsStepRefusal e (head_added_each s.floor (Ok s.head) 0 xs) → IsStepRefusal e (committed (world_of s) xs)
refused s xs e sound is = subst (IsStepRefusal e) (sym (all_of s xs sound).0) (answer_same e (world_with s) (λ _. refl) (head_added_each s.floor (Ok s.head) 0 xs) is)

pub stuck : (floor : ℤ) (at : ℕ) (xs : List (Labels × (ℤ × ℤ))) (r : Refusal) → head_added_each floor (Err r) at xs ≡ Err r
stuck floor at [] r = refl
stuck floor at (x ∷ xs) r = refl

-- the sample at a place is refused
pub refused_at : (floor : ℤ) (head : List HeadSeries) (i : ℕ) (xs : List (Labels × (ℤ × ℤ))) (x : Labels × (ℤ × ℤ)) (e : CommitError) → i < length xs → x ≡ slice_index_or xs i x →
    IsStepRefusal e (head_added floor head i x) → IsStepRefusal e (head_added_each floor (Ok head) i (drop i xs))
refused_at floor head i xs x e inside is answer =
    subst (λ ys. IsStepRefusal e (head_added_each floor (Ok head) i ys)) (sym (drop-cons xs i x inside ∙ ap (λ y. y ∷ drop (suc i) xs) (sym is)))
    (answer_same e (λ r. head_added_each floor r (i + 1) (drop (suc i) xs)) (stuck floor (i + 1) (drop (suc i) xs)) (head_added floor head i x) answer)

-- what was copied is no part of the world
pub same_world : (s : SnapshotParts) (copied : ℕ) → world_of s ≡ world_of (record s { copied = copied })
unfolding world_of
same_world s copied = refl
