-- One event more after a replay.
use Rattle.std.proofs.Common.{◌≡◌, ℤ, List, [], ◌∷◌, ◌++◌, map, Option, Some, Result, Ok, Err, IfErr, OnErr, refl, sym, ap, ◌∙◌, subst, inl, inr}
use Rattle.std.proofs.lemmas.List.{map_push}
use mathlib.Core.List.{IsPrefix}
use Rattle.head.specs.Joins.{IsNoJoin}
use Rattle.head.specs.Kept.{KeepsBlocks, frame_of}
use Rattle.head.specs.Removing.{survives}
use Rattle.head.proofs.Deleting.{frames_kept}
use Rattle.head.proofs.Replays.{replayed_from-snoc}
use Rattle.head.specs.Worlds.{Event, batch, deletion, cut, joined, replayed}
use Rattle.head.specs.Heads.{BlockPart, SnapshotParts, world_of}
use Rattle.head.specs.declared.error.CommitError.{CommitError}
use Rattle.head.specs.declared.error.CommitError.TheVariants.{OutOfBounds, OutOfOrder, Duplicate, Limit, CutTooLow, TooManyParts, Seat, Journal, Memory}
use Rattle.matchers.specs.Views.{MatcherView}
use Rattle.snapshots.specs.declared.entry.Entry.{Entry}
use Rattle.snapshots.specs.Replays.{events_in, AreJoinless, IsAfter, Steps, Leads, KeepsFrames, IsEventRefusal, IsOfStore, IsRefusedAfter, IsRefusedBy}
use Rattle.snapshots.specs.Seats.{SeatView, IsMetBy}
use Rattle.snapshots.specs.Views.{Ledger}
use Rattle.snapshots.proofs.Prefixes.{prefix_self, prefix_trans}

-- an event that is no join leaves the blocks that there were first, each with its frame
keeps_frames : (event : Event) (s t : SnapshotParts) → IsNoJoin event
    → KeepsBlocks event s t.blocks → KeepsFrames s t
keeps_frames (batch xs) s t none kept =
    subst (λ (bs : List BlockPart). IsPrefix (map frame_of s.blocks) (map frame_of bs))
    (sym kept) (prefix_self _)
keeps_frames (deletion ms from to) s t none kept =
    let frames : map frame_of t.blocks ≡ map frame_of s.blocks =
    ap (map frame_of) kept ∙ frames_kept (survives ms from to) s.blocks in
    subst (IsPrefix (map frame_of s.blocks)) (sym frames) (prefix_self _)
keeps_frames (joined at count made) s t none kept = absurd none
keeps_frames (cut at) s t none kept = elim kept [
  | inl same ↦
      subst (λ (bs : List BlockPart). IsPrefix (map frame_of s.blocks) (map frame_of bs))
      (sym same) (prefix_self _)
  | inr more ↦
      (frame_of more.0 ∷ [], sym (ap (map frame_of) more.1 ∙ map_push frame_of s.blocks more.0))
]

-- if none of these events joins blocks, none of those before the last one does
joinless_front : (es : List Event) (e : Event) → AreJoinless (es ++ e ∷ [])
    → AreJoinless es × IsNoJoin e
joinless_front [] e none = (tt, none.0)
joinless_front (f ∷ es) e none =
    let rest = joinless_front es e none.1 in ((none.0, rest.0), rest.1)

leads-snoc : (s : SnapshotParts) (es : List Event) (e : Event) (t u : SnapshotParts)
    → Leads s es t → Steps t e u → Leads s (es ++ e ∷ []) u
leads-snoc s [] e t u same step =
    (u, subst (λ (z : SnapshotParts). Steps z e u) same step, refl)
leads-snoc s (f ∷ es) e t u leads step =
    (leads.0, leads.1, leads-snoc leads.0 es e t u leads.2 step)

-- before the first event it is the opening
pub after-none : (opening : SnapshotParts) → IsAfter opening [] opening
after-none opening = record { replay = refl; blocks = λ none. prefix_self _; reached = refl }

-- the snapshot after one event more
pub after-snoc : (opening : SnapshotParts) (es : List Entry) (e : Entry) (s t : SnapshotParts)
    → IsAfter opening es s → Steps s e.event t → IsAfter opening (es ++ e ∷ []) t
after-snoc opening es e s t after step =
    let events : events_in (es ++ e ∷ []) ≡ events_in es ++ e.event ∷ [] =
    map_push (λ (x : Entry). x.event) es e in
    record {
      replay = ap (replayed (world_of opening)) events
          ∙ (replayed_from-snoc (Ok (world_of opening)) (events_in es) e.event (world_of s)
          after.replay
          ∙ step.world);
      blocks = λ none.
          let all = joinless_front (events_in es) e.event (subst AreJoinless events none) in
          prefix_trans (map frame_of opening.blocks) (map frame_of s.blocks) (map frame_of t.blocks)
          (after.blocks all.0) (keeps_frames e.event s t all.1 step.kept);
      reached = subst (λ (events : List Event). Leads opening events t) (sym events)
          (leads-snoc opening (events_in es) e.event s t after.reached step);
    }

-- what refuses a step of a book refuses it after a list that the seat may meet
pub refused_met : {A C : Type 0} (opening : SnapshotParts) (seat seat_after : SeatView)
    (event : Event) (old new : Ledger) (r : Result A (C × CommitError))
    → OnErr r ((new ≡ old) × (seat_after ≡ seat)) → IsAfter opening new.entries new.parts
    → IfErr r (λ e. IsEventRefusal e.1 old.parts event)
    → IfErr r (λ e. ¬ IsOfStore e.1 → IsMetBy seat old.entries)
    → IfErr r (λ e. IsRefusedAfter opening seat e.1 event)
refused_met opening seat seat_after event old new (Ok x) kept after refused met = tt
refused_met opening seat seat_after event old new (Err e) kept after refused met =
    λ other. record {
      before = old.entries;
      snapshot = old.parts;
      after = subst (λ (book : Ledger). IsAfter opening book.entries book.parts) kept.0 after;
      met = met other;
      step = refused other;
    }

-- what refuses it refuses it after the list of a receipt of all that was tried
pub refused_at : (opening : SnapshotParts) (seat : SeatView) (event : Event) (e : CommitError)
    (old new : Ledger) → new ≡ old → IsAfter opening new.entries new.parts
    → IsEventRefusal e old.parts event → (¬ IsOfStore e → IsMetBy seat old.entries)
    → (list : List Entry) → list ≡ old.entries → IsRefusedBy opening seat e event (Some list)
refused_at opening seat event e old new kept after refused met list is = λ other. record {
  snapshot = old.parts;
  after = subst (λ (es : List Entry). IsAfter opening es old.parts) (sym is)
      (subst (λ (l : Ledger). IsAfter opening l.entries l.parts) kept after);
  met = subst (λ (es : List Entry). IsMetBy seat es) (sym is) (met other);
  step = refused other;
}

-- a refusal of the store's own wants no receipt
pub refused_by_store : (opening : SnapshotParts) (seat : SeatView) (event : Event)
    (e : CommitError) (met : Option (List Entry)) → IsOfStore e
    → IsRefusedBy opening seat e event met
refused_by_store opening seat event e met is = λ other. absurd (other is)

-- the step of a deletion refuses nothing
pub deletion_refused : (opening : SnapshotParts) (seat : SeatView) (e : CommitError)
    (ms : List MatcherView) (from to : ℤ)
    → IsRefusedAfter opening seat e (deletion ms from to) → IsOfStore e
deletion_refused opening seat Seat ms from to refused = tt
deletion_refused opening seat Journal ms from to refused = tt
deletion_refused opening seat Memory ms from to refused = tt
deletion_refused opening seat (OutOfBounds at) ms from to refused =
    absurd (cc ((refused (λ none. none)).step))
deletion_refused opening seat (OutOfOrder at) ms from to refused =
    absurd (cc ((refused (λ none. none)).step))
deletion_refused opening seat (Duplicate at) ms from to refused =
    absurd (cc ((refused (λ none. none)).step))
deletion_refused opening seat Limit ms from to refused = absurd (cc ((refused (λ none. none)).step))
deletion_refused opening seat CutTooLow ms from to refused =
    absurd (cc ((refused (λ none. none)).step))
deletion_refused opening seat TooManyParts ms from to refused =
    absurd (cc ((refused (λ none. none)).step))
