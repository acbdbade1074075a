-- When a state is that of a world of the store, and when two steps agree.
use Rattle.std.specs.Prelude.{◌≡◌, ℤ, Bool, true, false, cond, T, List, [], ◌∷◌}
use Rattle.std.specs.Prelude.{Option, Some, None, Result, Ok, Err, length, map, not, int_lt}
use Rattle.std.specs.List.{list_all, AllByRecursion}
use Rattle.std.specs.Ordering.{int_cmp, eq_by_cmp}
use Rattle.std.specs.FinMap.Entries.{find, is_sorted}
use Rattle.labels.specs.Labels.{Labels, point_cmp, same_labels}
use Rattle.labels.specs.Rows.{Row}
use Rattle.labels.specs.Parts.{Part, rows_in}
use Rattle.head.specs.Refusals.{Refusal, limit, out_of_bounds, out_of_order, duplicate, cut_too_low}
use Rattle.head.specs.Refusals.{too_many_parts, no_such_blocks}
use Rattle.head.specs.Worlds.{World, Newest}
use Rattle.head.specs.Worlds as worlds
use Rattle.kept_walk.specs.Kept.{Event, batch, deletion, cut}
use Rattle.kept_world.specs.States.{HeadSeries, State, shown, samples_of, entries_of}
use Rattle.kept_world.specs.Sound.{AreApart, IsSoundSeries, label_sets}

-- the first value, or else the second
abbrev pub or_else : Option ℤ → Option ℤ → Option ℤ
or_else None b = b
or_else (Some a) b = Some a

-- the last value at a time
abbrev pub at_time : ℤ → List (ℤ × ℤ) → Option ℤ
at_time t [] = None
at_time t (k ∷ ks) = or_else (at_time t ks) (cond (eq_by_cmp int_cmp t k.0) (Some k.1) None)

-- the value of a label set at a time in rows
abbrev pub in_rows : Labels → ℤ → List Row → Option ℤ
in_rows l t [] = None
in_rows l t (r ∷ rs) = cond (same_labels l r.0) (at_time t r.1) (in_rows l t rs)

-- the same in parts, of which a later one wins
abbrev pub in_parts : Labels → ℤ → List Part → Option ℤ
in_parts l t [] = None
in_parts l t (p ∷ ps) = or_else (in_parts l t ps) (in_rows l t (rows_in p))

abbrev pub value_at : State → Labels → ℤ → Option ℤ
value_at s l t = or_else (in_rows l t (shown s.head)) (in_parts l t s.blocks)

abbrev pub newest_of : List HeadSeries → Newest
newest_of head = map (λ (e : HeadSeries). (e.labels, e.newest)) head

pub record IsLike (s : State) (w : World) : Type 0 where
  pub floor : s.floor ≡ w.floor
  pub newest : newest_of s.head ≡ w.newest
  pub blocks : length s.blocks ≡ w.blocks
  pub content : (l : Labels) (t : ℤ) → find point_cmp (l, t) w.content ≡ value_at s l t
  pub sorted : T (is_sorted point_cmp w.content)

abbrev pub is_limit : Refusal → Bool
is_limit (out_of_bounds at) = false
is_limit (out_of_order at) = false
is_limit (duplicate at) = false
is_limit limit = true
is_limit cut_too_low = false
is_limit too_many_parts = false
is_limit no_such_blocks = false

-- both accept, with a state and a world that are alike, or both refuse
abbrev pub Agrees : Result World Refusal → Option State → Type 0
Agrees (Ok w) (Some s) = IsLike s w
Agrees (Ok w) None = ⊥
Agrees (Err e) (Some s) = ⊥
Agrees (Err e) None = Unit {0}

-- the same, but where the store says that files are beyond their limits, the other step goes on
abbrev pub AgreesButLimits : Result World Refusal → Option State → Type 0
AgreesButLimits (Ok w) (Some s) = IsLike s w
AgreesButLimits (Ok w) None = ⊥
AgreesButLimits (Err e) (Some s) = T (is_limit e)
AgreesButLimits (Err e) None = Unit {0}

-- it is accepted, with a state that is like this world
abbrev pub AgreesOn : World → Option State → Type 0
AgreesOn w None = ⊥
AgreesOn w (Some s) = IsLike s w

-- What states of a store keep: no label set stands twice in the head, the times of each series
-- ascend up to its newest one and are not below the floor, and no block has a sample from the floor
-- on.
pub record IsKept (s : State) : Type 0 where
  pub apart : AreApart (label_sets s.head)
  pub sound : AllByRecursion IsSoundSeries s.head
  pub above : AllByRecursion (λ (e : HeadSeries).
      T (list_all (λ (k : ℤ × ℤ). not (int_lt k.0 s.floor)) (samples_of e.samples))) s.head
  pub below : (l : Labels) (t : ℤ) → int_lt t s.floor ≡ false → in_parts l t s.blocks ≡ None

-- an event of a journal, as the store has it: the samples of its runs one after another
abbrev pub store_event : Event → worlds.Event
store_event (batch runs) = worlds.batch (entries_of runs)
store_event (deletion ms from to) = worlds.deletion ms from to
store_event (cut t) = worlds.cut t
