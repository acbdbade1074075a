-- What a sift at a tip comes to.
use Rattle.std.proofs.Common.{◌≡◌, ◌≢◌, ℕ, ◌+◌, Bool, true, false, MatchBool, List, [], ◌∷◌, ◌++◌, refl, sym, ap, ◌∙◌}
use Rattle.head.specs.Heads.{SnapshotParts, world_of}
use Rattle.head.specs.Laws.{reasons}
use Rattle.head.specs.Sifting.{sifted}
use Rattle.head.specs.Telling.{told_of}
use Rattle.head.specs.Worlds.{Batch, batch}
use Rattle.head.specs.declared.left.Left.{Left}
use Rattle.snapshots.specs.declared.entry.Entry.{Entry}
use Rattle.snapshots.specs.Seats.{SeatView, HasOneMoreEvent, IsMetBy}
use Rattle.snapshots.specs.Sifts.{IsSiftedAt, entries_of, has_samples}
use Rattle.snapshots.proofs.Counting.{count_more}
use Rattle.snapshots.proofs.Prefixes.{prefix_more}

-- a batch that is not empty is one event
one_entry : (seat : ℕ) (ys : Batch) → ys ≢ [] → ◌≡◌ {A = List Entry} (record { event = batch ys; seat = seat } ∷ []) (entries_of seat ys)
one_entry seat [] some = absurd (some refl)
one_entry seat (y ∷ ys) some = refl

any_samples : (ys : Batch) → ys ≢ [] → true ≡ has_samples ys
any_samples [] some = absurd (some refl)
any_samples (y ∷ ys) some = refl

-- these were kept
module _ (seat : ℕ) (before list : List Entry) (s : SnapshotParts) (xs : Batch) (left : Left)
    (told : left ≡ told_of (reasons (sifted (world_of s) xs).left)) where
  pub sifted_some : (ys : Batch) → ys ≢ [] → ys ≡ (sifted (world_of s) xs).kept
      → list ≡ before ++ record { event = batch ys; seat = seat } ∷ []
      → IsSiftedAt seat before s xs (record { list = list; left = left; joined = true })
  sifted_some ys some kept is = record {
    list = is ∙ (ap (λ (es : List Entry). before ++ es) (one_entry seat ys some) ∙ ap (λ (zs : Batch). before ++ entries_of seat zs) kept);
    left = told;
    joined = any_samples ys some ∙ ap has_samples kept;
  }

-- a seat under whose number something was kept has published one event more
pub one_more : (old new : SeatView) (before list : List Entry) (ys : Batch) → IsMetBy old before
    → list ≡ before ++ entries_of old.number ys → true ≡ has_samples ys
    → new ≡ record { number = old.number; count = old.count + 1; seen = list }
    → HasOneMoreEvent old new list
one_more old new before list [] met is any next = absurd (cc any)
one_more old new before list (y ∷ ys) met is any next = (
  next,
  prefix_more old.seen before list (record { event = batch (y ∷ ys); seat = old.number }) met.begins is,
  count_more old.number before list (record { event = batch (y ∷ ys); seat = old.number }) is refl
      ∙ (ap (λ (n : ℕ). n + 1) met.counted ∙ sym (ap (λ (s : SeatView). s.count) next)),
)

-- by whether a sample joined
pub if_true : (P Q : Type 0) (b : Bool) → b ≡ true → P → MatchBool b P Q
if_true P Q true is p = p
if_true P Q false is p = absurd (cc is)

pub if_false : (P Q : Type 0) (b : Bool) → b ≡ false → Q → MatchBool b P Q
if_false P Q true is q = absurd (cc is)
if_false P Q false is q = q
