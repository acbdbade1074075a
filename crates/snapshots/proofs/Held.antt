-- What a keeper has come to hold.
use Rattle.std.proofs.Common.{◌≡◌, List, [], inl, inr, refl, ap, subst, sym, ◌∙◌}
use Rattle.std.proofs.lemmas.List.{append-nil}
use mathlib.Core.List.{IsPrefix}
use Rattle.head.specs.Worlds.{Event}
use Rattle.snapshots.specs.declared.entry.Entry.{Entry}
use Rattle.snapshots.specs.Keeping.{kept_of, AreHeld, PublishesHeld}
use Rattle.snapshots.specs.Seats.{SeatView, HasOneMoreEvent}
use Rattle.snapshots.proofs.Prefixes.{prefix_self, prefix_trans}

module _ {K S : Type 0} (holds : K → List Event → Type 0) (stays : S → List Event → Type 0)
    (before : List Event) where
  -- what a keeper holds, and stays
  pub held_by : (keeper : K) (token : S) (entries : List Entry)
      → holds keeper (kept_of before entries) → stays token (kept_of before entries)
      → AreHeld holds stays before entries
  held_by keeper token entries held stay = record {
    keeper = keeper;
    all = entries;
    begins = prefix_self entries;
    held = held;
    stay = inr (token, stay);
  }

  -- before the first entry it holds the events from before
  pub held_opening : (keeper : K) → holds keeper before → AreHeld holds stays before []
  held_opening keeper held = record {
    keeper = keeper;
    all = [];
    begins = prefix_self [];
    held = subst (λ (events : List Event). holds keeper events) (sym (append-nil before)) held;
    stay = inl refl;
  }

  -- what begins a list that is held is held
  pub held_begins : (xs ys : List Entry) → IsPrefix xs ys → AreHeld holds stays before ys
      → AreHeld holds stays before xs
  held_begins xs ys p held = record {
    keeper = held.keeper;
    all = held.all;
    begins = prefix_trans xs ys held.all p held.begins;
    held = held.held;
    stay = held.stay;
  }

  -- by another name
  pub held_as : (xs ys : List Entry) → ys ≡ xs → AreHeld holds stays before xs → AreHeld holds stays before ys
  held_as xs ys same held = subst (λ (z : List Entry). AreHeld holds stays before z) (sym same) held

  -- a seat that has published one event more has seen what is held, if that is its receipt's list
  pub seat_held : (old new : SeatView) (entries : List Entry) → HasOneMoreEvent old new entries
      → AreHeld holds stays before entries → PublishesHeld holds stays before old new
  seat_held old new entries more held =
      inr (held_as entries new.seen (ap (λ (s : SeatView). s.seen) more.0) held)

  -- so it is of one who served several, each after the one before
  pub publishes_more : (old between new : SeatView) → PublishesHeld holds stays before old between
      → PublishesHeld holds stays before between new → PublishesHeld holds stays before old new
  publishes_more old between new (inl same) (inl still) = inl (still ∙ same)
  publishes_more old between new (inr held) (inl still) =
      inr (held_as between.seen new.seen (ap (λ (s : SeatView). s.seen) still) held)
  publishes_more old between new first (inr held) = inr held
