-- What is published after it was kept.
use Rattle.std.proofs.Common.{◌≡◌, ℕ, Bool, true, false, Result, Ok, Err, IfErr, OnErr, OnOk, List, ◌++◌, sym, ap, subst, ◌∙◌}
use Rattle.head.specs.Heads.{SnapshotParts, world_of}
use Rattle.head.specs.Worlds.{Event, World, replayed}
use Rattle.head.specs.declared.error.CommitError.{CommitError}
use Rattle.head.specs.declared.error.CommitError.TheVariants.{Journal, Memory}
use Rattle.keeper.specs.Finding.{AreAllAndSome, IsOfAll, LeavesEvents}
use Rattle.keeper.proofs.Finds.{joined}
use Rattle.snapshots.specs.declared.entry.Entry.{Entry}
use Rattle.snapshots.specs.declared.entry.Mark.{Mark}
use Rattle.snapshots.specs.Keeping.{kept_of, IsOfKeeping, IsSealed, OpensAsKept}
use Rattle.snapshots.specs.Marks.{list_of}
use Rattle.snapshots.specs.Replays.{events_in}
use Rattle.snapshots.proofs.Keeps.{kept_more, of_all_kept}

-- memory's refusal is one of keeping
pub kept_keeping : {A : Type 0} (r : Result A CommitError) → IfErr r (λ e. e ≡ Memory)
    → IfErr r (λ e. IsOfKeeping e)
kept_keeping (Ok x) is = tt
kept_keeping (Err e) is = subst IsOfKeeping (sym is) tt

-- and it is not the journal's
pub kept_causes : {A : Type 0} (P : Type 0) (r : Result A CommitError) → IfErr r (λ e. e ≡ Memory)
    → IfErr r (λ e. e ≡ Journal → P)
kept_causes P (Ok x) is = tt
kept_causes P (Err e) is = λ journal. absurd (let wrong : Memory ≡ Journal = sym is ∙ journal in cc)

-- the keeper is open after it kept a group
pub open_after : {A K : Type 0} (closed : K → Bool) (r : Result A CommitError) (mid new : K)
    → OnOk r (new ≡ mid) → closed mid ≡ false → OnOk r (closed new ≡ false)
open_after closed (Ok x) mid new rest opened = ap closed rest ∙ opened
open_after closed (Err e) mid new rest opened = tt

-- a closed one keeps none
pub still_closed : {K : Type 0} (closed : K → Bool) (old mid new : K) → closed old ≡ true
    → (closed old ≡ true → mid ≡ old) → closed mid ≡ false → new ≡ old
still_closed closed old mid new shut stays opened =
    absurd (let wrong : false ≡ true = sym opened ∙ (ap closed (stays shut) ∙ shut) in cc)

module _ {K L : Type 0} (moment : K → ℕ) (left_since : K → ℕ → L → Type 0)
    (stands : L → List Event → Type 0) where
  -- what a crash leaves of a group that was kept, and then published or taken back
  pub after_tail : {A : Type 0} (r : Result A CommitError) (old mid new : K) (events : List Event)
      (P : List Entry → Type 0) → OnOk r (new ≡ mid)
      → OnErr r ((more : List Entry) → P more
      → LeavesEvents moment left_since stands mid new (AreAllAndSome events (events_in more)))
      → (more : List Entry) → P more
      → LeavesEvents moment left_since stands old mid (AreAllAndSome events (events_in more))
      → LeavesEvents moment left_since stands old new (AreAllAndSome events (events_in more))
  after_tail (Ok x) old mid new events P rest back more is first =
      subst (λ (k : K). LeavesEvents moment left_since stands old k (AreAllAndSome events (events_in more))) (sym rest) first
  after_tail (Err e) old mid new events P rest back more is first =
      joined moment left_since stands old mid new (AreAllAndSome events (events_in more)) first (back more is)

-- what is saved of a group is what all of its events make, behind what was kept
pub saved_all : (idle : Bool) (first : World) (before : List Event) (opening : SnapshotParts)
    (group : List Mark) (xs more : List Entry) (s shown : SnapshotParts) (counts : List ℕ)
    → OpensAsKept idle first before opening → IsSealed opening group s counts → shown ≡ s
    → list_of group ≡ xs ++ more → idle ≡ false
    → IsOfAll first (kept_of before xs ++ events_in more) (world_of shown)
saved_all idle first before opening group xs more s shown counts opens sealed same is keeps =
    ap (replayed first) (sym (ap (kept_of before) is ∙ kept_more before xs more))
    ∙ (of_all_kept idle first before opening (list_of group) s opens sealed.stands.after keeps
    ∙ ap (λ (z : SnapshotParts). Ok (world_of z)) (sym same))
