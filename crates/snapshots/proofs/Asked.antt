-- What a log lists was asked for, if all that was tried is.
use Rattle.std.proofs.Common.{◌≡◌, ℕ, Bool, true, false, List, [], ◌∷◌, ◌++◌, drop, take, sym, subst}
use Rattle.std.proofs.Common.{append_assoc, append-nil, take-append-drop}
use mathlib.Core.List.{IsPrefix}
use Rattle.head.specs.Heads.{SnapshotParts}
use Rattle.head.specs.Worlds.{Event}
use Rattle.logbook.specs.Pages.{Book}
use Rattle.snapshots.specs.declared.entry.Entry.{Entry}
use Rattle.snapshots.specs.declared.entry.Mark.{Mark}
use Rattle.snapshots.specs.declared.entry.Mark.TheVariants.{Try, Seal, Done, Void}
use Rattle.snapshots.specs.Asking.{AreAsked, AskedBehind, AsksNoJoin}
use Rattle.snapshots.specs.Grows.{Shows}
use Rattle.snapshots.specs.Marks.{accepted, list_of, tried_of}
use Rattle.snapshots.specs.Replays.{events_in, AreJoinless, IsAfter, KeepsFrames}
use Rattle.snapshots.specs.Seats.{count_of}
use Rattle.snapshots.specs.Standings.{current}
use Rattle.snapshots.specs.Views.{Edition}
use Rattle.snapshots.proofs.Accepts.{accepted_begins_tried, list_begins}
use Rattle.snapshots.proofs.Accepts.{tried_done, tried_seal, tried_try, tried_void}

-- if no join may be asked for, none of what was asked for joins blocks
joinless_behind : (asked : Event → ℕ → ℕ → Type 0) → AsksNoJoin asked → (before xs : List Entry)
    → AskedBehind asked before xs → AreJoinless (events_in xs)
joinless_behind asked none before [] a = tt
joinless_behind asked none before (x ∷ xs) a =
    (none x.event x.seat (count_of x.seat before) a.0, joinless_behind asked none (before ++ x ∷ []) xs a.1)

-- so the opening's blocks stand first in what these entries make
pub blocks_stay : (asked : Event → ℕ → ℕ → Type 0) (opening s : SnapshotParts) (xs : List Entry)
    → AreAsked asked xs → IsAfter opening xs s → AsksNoJoin asked → KeepsFrames opening s
blocks_stay asked opening s xs a after none = after.blocks (joinless_behind asked none [] xs a.each)

module _ (asked : Event → ℕ → ℕ → Type 0) where
  pub none_asked : AreAsked asked []
  none_asked = record { each = tt }

  -- by another name
  pub asked_as : (xs ys : List Entry) → xs ≡ ys → AreAsked asked xs → AreAsked asked ys
  asked_as xs ys same all = subst (λ (z : List Entry). AreAsked asked z) same all

  behind_front : (before xs ys : List Entry) → AskedBehind asked before (xs ++ ys)
      → AskedBehind asked before xs
  behind_front before [] ys a = tt
  behind_front before (x ∷ xs) ys a = (a.0, behind_front (before ++ x ∷ []) xs ys a.1)

  behind_push : (before xs : List Entry) (e : Entry) → AskedBehind asked before xs
      → asked e.event e.seat (count_of e.seat (before ++ xs))
      → AskedBehind asked before (xs ++ e ∷ [])
  behind_push before [] e a one = (
    subst (λ (z : List Entry). asked e.event e.seat (count_of e.seat z)) (append-nil before) one,
    tt,
  )
  behind_push before (x ∷ xs) e a one = (
    a.0,
    behind_push (before ++ x ∷ []) xs e a.1
        (subst (λ (z : List Entry). asked e.event e.seat (count_of e.seat z))
        (sym (append_assoc before (x ∷ []) xs)) one),
  )

  -- what begins a list was asked for, if the list was
  pub begins_asked : (xs ys : List Entry) → IsPrefix xs ys → AreAsked asked ys → AreAsked asked xs
  begins_asked xs ys p a = record {
    each = behind_front [] xs p.0
        (subst (λ (z : List Entry). AskedBehind asked [] z) (sym p.1) a.each);
  }

  -- the first few of them were
  pub take_asked : (n : ℕ) (xs : List Entry) → AreAsked asked xs → AreAsked asked (take n xs)
  take_asked n xs a = begins_asked (take n xs) xs (drop n xs, take-append-drop n xs) a

  -- a mark more

  pub try_asked : (log : List Mark) (e : Entry) → AreAsked asked (tried_of log)
      → asked e.event e.seat (count_of e.seat (tried_of log))
      → AreAsked asked (tried_of (log ++ Try e ∷ []))
  try_asked log e a one =
      asked_as (tried_of log ++ e ∷ []) (tried_of (log ++ Try e ∷ [])) (sym (tried_try log e))
      (record { each = behind_push [] (tried_of log) e a.each one })

  pub seal_asked : (log : List Mark) → AreAsked asked (tried_of log)
      → AreAsked asked (tried_of (log ++ Seal ∷ []))
  seal_asked log a = asked_as (tried_of log) (tried_of (log ++ Seal ∷ [])) (sym (tried_seal log)) a

  pub done_asked : (log : List Mark) → AreAsked asked (tried_of log)
      → AreAsked asked (tried_of (log ++ Done ∷ []))
  done_asked log a = asked_as (tried_of log) (tried_of (log ++ Done ∷ [])) (sym (tried_done log)) a

  -- what is listed

  pub accepted_asked : (log : List Mark) → AreAsked asked (tried_of log)
      → AreAsked asked (accepted log)
  accepted_asked log a =
      begins_asked (accepted log) (tried_of log) (accepted_begins_tried log) a

  pub list_asked : (log : List Mark) → AreAsked asked (tried_of log)
      → AreAsked asked (list_of log)
  list_asked log a = begins_asked (list_of log) (tried_of log) (list_begins log) a

  -- and so is what a version shows
  pub shows_asked : (book : Book) (opening : SnapshotParts) (kept : List Entry → Type 0)
      (x : Edition) (entries : List Entry) → Shows book opening asked kept x entries
      → AreAsked asked entries
  shows_asked book opening kept x entries shows =
      asked_as (list_of x.marks) entries shows.1 (list_asked x.marks shows.3)

  pub void_asked : (log : List Mark) → AreAsked asked (tried_of log)
      → AreAsked asked (tried_of (log ++ Void ∷ []))
  void_asked log a =
      asked_as (accepted log) (tried_of (log ++ Void ∷ [])) (sym (tried_void log))
      (accepted_asked log a)

  -- what the next event is stepped after
  pub current_asked : (waits : Bool) (log : List Mark) → AreAsked asked (tried_of log)
      → AreAsked asked (current waits log)
  current_asked true log a = a
  current_asked false log a = accepted_asked log a
