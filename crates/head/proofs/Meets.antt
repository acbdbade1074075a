-- What becomes of a sample at a snapshot is what becomes of it in its world, and what the step does.
use Rattle.std.specs.Prelude.{◌≡◌, ℕ, ℤ, pos, Bool, true, false, ◌&&◌, ◌||◌, List, Option, None, Some, Result, refl, length, nat_le, int_lt, if◌then◌else◌, Ok, Err, slice_set}
use Rattle.std.specs.Ordering.{int_eq}
use Rattle.std.proofs.Common.{sym, ◌∙◌, ap, subst, arith}
use Rattle.std.proofs.lemmas.Bool.{leb-false}
use Rattle.head.specs.declared.left.Reason.{Reason}
use Rattle.head.specs.declared.left.Reason.TheVariants.{OutOfBounds, OutOfOrder, Duplicate, Limit}
use Rattle.head.specs.declared.judge.Met.{Met}
use Rattle.head.specs.declared.judge.Met.TheVariants.{Joins, Held, Refused}
use Rattle.labels.specs.Labels.{Labels}
use Rattle.labels.proofs.Times.{later}
use Rattle.head.specs.Worlds.{World, is_earlier, is_level, is_repeated, is_full}
use Rattle.head.specs.Limits.{max_series, max_samples}
use Rattle.head.specs.Outcomes.{IsStepRefusal}
use Rattle.head.specs.Refusals.{Refusal, out_of_bounds, out_of_order, duplicate, limit}
use Rattle.head.specs.Sifting.{joins, has, has_value, fate}
use Rattle.head.specs.Heads.{HeadSeries, SnapshotParts, world_of, series_at, newest_in, IsSoundSnapshot}
use Rattle.head.specs.Known.{known_of, samples_or}
use Rattle.head.specs.OwnSteps.{StandsIn}
use Rattle.head.specs.Taking.{head_added, head_added_after, extended, grown, place_from}
use Rattle.head.specs.Meeting.{refusal_at, snapshot_has, told, judged, judged_at, has_no_room, standing, met, IsMet}
use Rattle.head.proofs.HeadLaws.{find-newest_in, length-newest_in}
use Rattle.head.proofs.Steps.{Item, newest_at, after}
use Rattle.head.proofs.Fates.{fate_in, joining}
use Rattle.head.proofs.OwnSteps.{set_itself}
use Rattle.head.proofs.Places.{stands_at, missing_place}
use Rattle.head.proofs.Simulates.{find-world_of, held_from-world_of, IsNext, IfSeries, with_sample-world_of, IsSoundHead-extended, none_later, sound_at}

pub newest_is : (s : SnapshotParts) (l : Labels) → newest_at (world_of s) l ≡ known_of (series_at l s.head)
unfolding world_of
newest_is s l = find-newest_in l s.head

pub floor_is : (s : SnapshotParts) → (world_of s).floor ≡ s.floor
unfolding world_of
floor_is s = refl

pub has_is : (s : SnapshotParts) (x : Item) → IsSoundSnapshot s → has (world_of s) x ≡ snapshot_has s x
has_is s x sound = ap (has_value x.1.1) (find-world_of s x.0 x.1.0 sound)

or_false : (a b : Bool) → b ≡ false → (a || b) ≡ a
or_false true b e = refl
or_false false b e = e

-- the world is full where the head has no room
full_is : (s : SnapshotParts) (l : Labels) → IsSoundSnapshot s → (o : Option HeadSeries) → series_at l s.head ≡ o → is_full (world_of s) l (known_of o) ≡ has_no_room s.head o
unfolding world_of
full_is s l sound None is =
    ap (λ n. nat_le max_series (length (newest_in s.head)) || nat_le max_samples n) (held_from-world_of s l sound ∙ ap (λ o. length (samples_or o)) is)
    ∙ or_false (nat_le max_series (length (newest_in s.head))) _ refl
    ∙ ap (nat_le max_series) (length-newest_in s.head)
full_is s l sound (Some h) is = ap (nat_le max_samples) (held_from-world_of s l sound ∙ ap (λ o. length (samples_or o)) is)

-- by the tests
abbrev judged_by : Bool → Bool → Bool → Bool → Bool → Met
judged_by b e r l f =
    if b then Refused OutOfBounds else if e then Refused OutOfOrder else if r then Held
    else if l then Refused Duplicate else if f then Refused Limit else Joins

told_is : (w v : World) (at : ℕ) (h b e r l f : Bool) → IsMet (told (r || h) (judged_by b e r l f)) (fate_in w at v h b e r l f)
told_is w v at h true e true l f = tt
told_is w v at true true e false l f = tt
told_is w v at false true e false l f = refl
told_is w v at h false true true l f = tt
told_is w v at true false true false l f = tt
told_is w v at false false true false l f = refl
told_is w v at h false false true l f = tt
told_is w v at true false false false true f = tt
told_is w v at false false false false true f = refl
told_is w v at true false false false false true = tt
told_is w v at false false false false false true = refl
told_is w v at h false false false false false = tt

met_by : (s : SnapshotParts) (at : ℕ) (x : Item) (o : Option HeadSeries) → IsMet (told (is_repeated x.1 (known_of o) || snapshot_has s x) (judged_at s.floor s.head o x.1))
    (fate_in (world_of s) at (after (world_of s) x) (snapshot_has s x) (int_lt x.1.0 s.floor) (is_earlier x.1 (known_of o)) (is_repeated x.1 (known_of o)) (is_level x.1 (known_of o)) (has_no_room s.head o))
met_by s at x o = told_is (world_of s) (after (world_of s) x) at (snapshot_has s x) (int_lt x.1.0 s.floor) (is_earlier x.1 (known_of o)) (is_repeated x.1 (known_of o)) (is_level x.1 (known_of o)) (has_no_room s.head o)

-- what is met is the fate of the sample in the snapshot's world
pub met_is : (s : SnapshotParts) (at : ℕ) (x : Item) → IsSoundSnapshot s → IsMet (met s x) (fate (world_of s) at x)
met_is s at x sound =
    let w = world_of s in
    let o = series_at x.0 s.head in
    subst (λ n. IsMet (met s x) (fate_in w at (after w x) (has w x) (int_lt x.1.0 w.floor) (is_earlier x.1 n) (is_repeated x.1 n) (is_level x.1 n) (is_full w x.0 n))) (sym (newest_is s x.0))
    (subst (λ f. IsMet (met s x) (fate_in w at (after w x) (has w x) (int_lt x.1.0 w.floor) (is_earlier x.1 (known_of o)) (is_repeated x.1 (known_of o)) (is_level x.1 (known_of o)) f)) (sym (full_is s x.0 sound o refl))
    (subst (λ h. IsMet (met s x) (fate_in w at (after w x) h (int_lt x.1.0 w.floor) (is_earlier x.1 (known_of o)) (is_repeated x.1 (known_of o)) (is_level x.1 (known_of o)) (has_no_room s.head o))) (sym (has_is s x sound))
    (subst (λ t. IsMet (met s x) (fate_in w at (after w x) (snapshot_has s x) (int_lt x.1.0 t) (is_earlier x.1 (known_of o)) (is_repeated x.1 (known_of o)) (is_level x.1 (known_of o)) (has_no_room s.head o))) (sym (floor_is s))
    (met_by s at x o))))

next_by : (s : SnapshotParts) (x : Item) (o : Option HeadSeries) → is_earlier x.1 (known_of o) ≡ false → is_level x.1 (known_of o) ≡ false → has_no_room s.head o ≡ false → IfSeries (IsNext x.1) o
next_by s x None e l f = tt
next_by s x (Some h) e l f = (later x.1.0 h.newest.0 e l, let below = leb-false max_samples (length h.samples) f in omega (arith, below))

-- a sample that joins the world joins the head
pub joined_is : (s : SnapshotParts) (at : ℕ) (x : Item) (u : World) → IsSoundSnapshot s → fate (world_of s) at x ≡ joins u →
    (u ≡ world_of (record s { head = extended x.0 x.1 s.head })) × IsSoundSnapshot (record s { head = extended x.0 x.1 s.head })
joined_is s at x u sound e =
    let j = joining (world_of s) u at x e in
    let o = series_at x.0 s.head in
    let above : int_lt x.1.0 s.floor ≡ false = ap (int_lt x.1.0) (sym (floor_is s)) ∙ j.1.above in
    let room : has_no_room s.head o ≡ false = sym (ap (is_full (world_of s) x.0) (newest_is s x.0) ∙ full_is s x.0 sound o refl) ∙ j.1.room in
    let next : IfSeries (IsNext x.1) o = next_by s x o (ap (is_earlier x.1) (sym (newest_is s x.0)) ∙ j.1.late) (ap (is_level x.1) (sym (newest_is s x.0)) ∙ j.1.new) room in
    let more : IsSoundSnapshot (record s { head = extended x.0 x.1 s.head }) = record { few = sound.few; time = sound.time; ends = sound.ends; head = IsSoundHead-extended s.floor x.0 x.1 s.head above sound.head next; blocks = sound.blocks } in
    (j.0 ∙ with_sample-world_of s x.0 x.1 sound more (none_later s.floor x.1 o (sound_at s.floor x.0 s.head sound.head) next), more)

-- what the step at a head does is what is judged
abbrev pub IsStepOf : ℕ → Met → List HeadSeries → List HeadSeries → Result (List HeadSeries) Refusal → Type 0
IsStepOf at Joins head more r = r ≡ Ok more
IsStepOf at Held head more r = r ≡ Ok head
IsStepOf at (Refused reason) head more r = IsStepRefusal (refusal_at at reason) r

steps_none : (at : ℕ) (head more : List HeadSeries) (b f : Bool) → IsStepOf at (judged_by b false false false f) head more (if b then Err (out_of_bounds at) else if f then Err limit else Ok more)
steps_none at head more true f = refl
steps_none at head more false true = refl
steps_none at head more false false = refl

steps_some : (at : ℕ) (head more : List HeadSeries) (b e l v f : Bool) → IsStepOf at (judged_by b e (l && v) l f) head more
    (if b then Err (out_of_bounds at) else if e then Err (out_of_order at) else if l then (if v then Ok head else Err (duplicate at)) else if f then Err limit else Ok more)
steps_some at head more true e l v f = refl
steps_some at head more false true l v f = refl
steps_some at head more false false true true f = refl
steps_some at head more false false true false f = refl
steps_some at head more false false false v true = refl
steps_some at head more false false false v false = refl

pub judged_step : (floor : ℤ) (head : List HeadSeries) (at : ℕ) (l : Labels) (s : ℤ × ℤ) (o : Option HeadSeries) → series_at l head ≡ o →
    IsStepOf at (judged_at floor head o s) head (extended l s head) (head_added floor head at (l, s))
unfolding head_added
judged_step floor head at l s None is =
    subst (λ o. IsStepOf at (judged_at floor head None s) head (extended l s head) (if int_lt s.0 floor then Err (out_of_bounds at) else head_added_after head at l s o)) (sym is)
    (steps_none at head (extended l s head) (int_lt s.0 floor) (nat_le max_series (length head)))
judged_step floor head at l s (Some h) is =
    subst (λ o. IsStepOf at (judged_at floor head (Some h) s) head (extended l s head) (if int_lt s.0 floor then Err (out_of_bounds at) else head_added_after head at l s o)) (sym is)
    (steps_some at head (extended l s head) (int_lt s.0 floor) (int_lt s.0 h.newest.0) (int_eq s.0 h.newest.0) (int_eq s.1 h.newest.1) (nat_le max_samples (length h.samples)))

-- by what is met
pub step_joins : (at : ℕ) (m : Met) (head more : List HeadSeries) (r : Result (List HeadSeries) Refusal) → m ≡ Joins → IsStepOf at m head more r → r ≡ Ok more
step_joins at m head more r is step = subst (λ k. IsStepOf at k head more r) is step

pub step_held : (at : ℕ) (m : Met) (head more : List HeadSeries) (r : Result (List HeadSeries) Refusal) → m ≡ Held → IsStepOf at m head more r → r ≡ Ok head
step_held at m head more r is step = subst (λ k. IsStepOf at k head more r) is step

pub step_refused : (at : ℕ) (m : Met) (reason : Reason) (head more : List HeadSeries) (r : Result (List HeadSeries) Refusal) → m ≡ Refused reason → IsStepOf at m head more r → IsStepRefusal (refusal_at at reason) r
step_refused at m reason head more r is step = subst (λ k. IsStepOf at k head more r) is step

-- the series that stands at the place of a label set is the one that has it
pub standing_is : (l : Labels) (head : List HeadSeries) (place : Option ℕ) (d : HeadSeries) → place ≡ place_from l 0 head → series_at l head ≡ standing head place d
standing_is l head None d e = (missing_place l 0 head 0 (sym e) (pos 0, pos 0)).0
standing_is l head (Some i) d e = (stands_at l head i (sym e)).found d

-- the same at a series, in each head in which it stands
series_is : (l : Labels) (head : List HeadSeries) (k : ℕ) (h : HeadSeries) → StandsIn l head k h → series_at l head ≡ Some h
series_is l head k h st = (stands_at l head k st.0).found h ∙ ap Some (st.1 h)

pub grown_in : (l : Labels) (s : ℤ × ℤ) (head : List HeadSeries) (k : ℕ) (h : HeadSeries) → StandsIn l head k h → slice_set head k (grown s h) ≡ extended l s head
grown_in l s head k h st = ap (λ (g : HeadSeries). slice_set head k (grown s g)) (sym (st.1 h)) ∙ (stands_at l head k st.0).sets h s

pub takes_joins : (floor : ℤ) (at : ℕ) (s : ℤ × ℤ) (h : HeadSeries) → judged floor (Some h.newest) (nat_le max_samples (length h.samples)) s ≡ Joins →
    (l : Labels) (head : List HeadSeries) (k : ℕ) → StandsIn l head k h → head_added floor head at (l, s) ≡ Ok (slice_set head k (grown s h))
takes_joins floor at s h is l head k st =
    step_joins at (judged_at floor head (Some h) s) head (extended l s head) (head_added floor head at (l, s)) is (judged_step floor head at l s (Some h) (series_is l head k h st))
    ∙ ap Ok (sym (grown_in l s head k h st))

pub takes_held : (floor : ℤ) (at : ℕ) (s : ℤ × ℤ) (h : HeadSeries) → judged floor (Some h.newest) (nat_le max_samples (length h.samples)) s ≡ Held →
    (l : Labels) (head : List HeadSeries) (k : ℕ) → StandsIn l head k h → head_added floor head at (l, s) ≡ Ok (slice_set head k h)
takes_held floor at s h is l head k st =
    step_held at (judged_at floor head (Some h) s) head (extended l s head) (head_added floor head at (l, s)) is (judged_step floor head at l s (Some h) (series_is l head k h st))
    ∙ ap Ok (sym (set_itself l head k h st))

pub takes_refused : (floor : ℤ) (at : ℕ) (s : ℤ × ℤ) (h : HeadSeries) (reason : Reason) → judged floor (Some h.newest) (nat_le max_samples (length h.samples)) s ≡ Refused reason →
    (l : Labels) (head : List HeadSeries) (k : ℕ) → StandsIn l head k h → IsStepRefusal (refusal_at at reason) (head_added floor head at (l, s))
takes_refused floor at s h reason is l head k st =
    step_refused at (judged_at floor head (Some h) s) reason head (extended l s head) (head_added floor head at (l, s)) is (judged_step floor head at l s (Some h) (series_is l head k h st))

-- what joins has room
pub room_by : (b e r l f : Bool) → judged_by b e r l f ≡ Joins → f ≡ false
room_by true e r l f is = absurd cc
room_by false true r l f is = absurd cc
room_by false false true l f is = absurd cc
room_by false false false true f is = absurd cc
room_by false false false false true is = absurd cc
room_by false false false false false is = refl

pub has_room : (floor : ℤ) (head : List HeadSeries) (o : Option HeadSeries) (s : ℤ × ℤ) → judged_at floor head o s ≡ Joins → has_no_room head o ≡ false
has_room floor head o s is = room_by (int_lt s.0 floor) (is_earlier s (known_of o)) (is_repeated s (known_of o)) (is_level s (known_of o)) (has_no_room head o) is

-- a label set that has no series has no sample that is held by the step
none_held : (b f : Bool) → judged_by b false false false f ≡ Held → ⊥
none_held true f is = cc
none_held false true is = cc
none_held false false is = cc

pub not_held : (floor : ℤ) (head : List HeadSeries) (s : ℤ × ℤ) → judged_at floor head None s ≡ Held → ⊥
not_held floor head s is = none_held (int_lt s.0 floor) (nat_le max_series (length head)) is

-- what is told of a sample that joins, or is held, by the step
pub told_joins : (there : Bool) (m : Met) → told there m ≡ Joins → m ≡ Joins
told_joins there Joins e = refl
told_joins there Held e = e
told_joins true (Refused reason) e = absurd cc
told_joins false (Refused reason) e = e
