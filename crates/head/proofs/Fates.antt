-- What becomes of one sample.
use Rattle.std.specs.Prelude.{◌≡◌, ℕ, ℤ, Bool, true, false, ◌&&◌, ◌||◌, Option, None, Some, Result, Ok, Err, refl, int_lt, if◌then◌else◌}
use Rattle.std.specs.Ordering.{int_eq}
use Rattle.std.proofs.Common.{sym, ap, ◌⊎◌, inl, inr}
use Rattle.head.specs.Worlds.{World, is_earlier, is_level, is_repeated, is_full, added}
use Rattle.head.specs.Refusals.{Refusal, out_of_bounds, out_of_order, duplicate, limit}
use Rattle.head.specs.Sifting.{Fate, joins, held, left_out, has, is_newest, fate_by, fate}
use Rattle.head.specs.Laws.{reason_of}
use Rattle.labels.proofs.Times.{true_not_false}
use Rattle.head.proofs.Steps.{Item, newest_at, after, closed, IsNext}

-- the step, by its tests
abbrev pub step_by : World → ℕ → World → Bool → Bool → Bool → Bool → Bool → Result World Refusal
step_by w at v b e r l f =
    if b then Err (out_of_bounds at) else if e then Err (out_of_order at) else if r then Ok w
    else if l then Err (duplicate at) else if f then Err limit else Ok v

abbrev pub fate_in : World → ℕ → World → Bool → Bool → Bool → Bool → Bool → Bool → Fate
fate_in w at v h b e r l f = if r then held else fate_by h (step_by w at v b e r l f)

-- the sample joins
pub record IsJoin (v u : World) (b e l f : Bool) : Type 0 where
  pub is : u ≡ v
  pub above : b ≡ false
  pub late : e ≡ false
  pub new : l ≡ false
  pub room : f ≡ false

join_by : (w v u : World) (at : ℕ) (h b e r l f : Bool) → fate_in w at v h b e r l f ≡ joins u → IsJoin v u b e l f
join_by w v u at h b e true l f p = cc
join_by w v u at true true e false l f p = cc
join_by w v u at false true e false l f p = cc
join_by w v u at true false true false l f p = cc
join_by w v u at false false true false l f p = cc
join_by w v u at true false false false true f p = cc
join_by w v u at false false false false true f p = cc
join_by w v u at true false false false false true p = cc
join_by w v u at false false false false false true p = cc
join_by w v u at h false false false false false p = record { is = cc; above = refl; late = refl; new = refl; room = refl }

pub joining : (w u : World) (at : ℕ) (x : Item) → fate w at x ≡ joins u → (u ≡ after w x) × IsNext w x
joining w u at x p =
    let j = join_by w (after w x) u at (has w x) (int_lt x.1.0 w.floor) (is_earlier x.1 (newest_at w x.0)) (is_newest w x) (is_level x.1 (newest_at w x.0)) (is_full w x.0 (newest_at w x.0)) p in
    (j.is, record { above = j.above; late = j.late; new = j.new; room = j.room })

-- a repeated sample is level
level_by : (a b : Bool) → (a && b) ≡ true → a ≡ true
level_by true b e = refl
level_by false b e = absurd (true_not_false (sym e))

pub is_level-newest : (s : ℤ × ℤ) (n : Option (ℤ × ℤ)) → is_repeated s n ≡ true → is_level s n ≡ true
is_level-newest s None e = e
is_level-newest s (Some n) e = level_by (int_eq s.0 n.0) (int_eq s.1 n.1) e

-- what is held was closed
closed_held : (w v : World) (at : ℕ) (h b e r l f : Bool) → (r ≡ true → l ≡ true) → fate_in w at v h b e r l f ≡ held → ((b || (e || (l || f))) ≡ true) × ((r ≡ true) ⊎ (h ≡ true))
closed_held w v at h true e true l f same p = (refl, inl refl)
closed_held w v at h false true true l f same p = (refl, inl refl)
closed_held w v at h false false true l f same p = (ap (λ k. k || f) (same refl), inl refl)
closed_held w v at true true e false l f same p = (refl, inr refl)
closed_held w v at false true e false l f same p = cc
closed_held w v at true false true false l f same p = (refl, inr refl)
closed_held w v at false false true false l f same p = cc
closed_held w v at true false false false true f same p = (refl, inr refl)
closed_held w v at false false false false true f same p = cc
closed_held w v at true false false false false true same p = (refl, inr refl)
closed_held w v at false false false false false true same p = cc
closed_held w v at h false false false false false same p = cc

pub holding : (w : World) (at : ℕ) (x : Item) → fate w at x ≡ held → (closed w x ≡ true) × ((is_newest w x ≡ true) ⊎ (has w x ≡ true))
holding w at x p = closed_held w (after w x) at (has w x) (int_lt x.1.0 w.floor) (is_earlier x.1 (newest_at w x.0)) (is_newest w x) (is_level x.1 (newest_at w x.0)) (is_full w x.0 (newest_at w x.0))
    (is_level-newest x.1 (newest_at w x.0)) p

-- what is left out
pub record IsLeft (w : World) (at : ℕ) (x : Item) (c : Refusal) : Type 0 where
  pub closed : closed w x ≡ true
  pub other : is_newest w x ≡ false
  pub absent : has w x ≡ false
  pub refused : added w at x ≡ Err c

left_by : (w v : World) (at : ℕ) (c : Refusal) (h b e r l f : Bool) → fate_in w at v h b e r l f ≡ left_out c →
    ((b || (e || (l || f))) ≡ true) × (r ≡ false) × (h ≡ false) × (step_by w at v b e r l f ≡ Err c)
left_by w v at c h b e true l f p = cc
left_by w v at c true true e false l f p = cc
left_by w v at c false true e false l f p = (refl, refl, refl, cc)
left_by w v at c true false true false l f p = cc
left_by w v at c false false true false l f p = (refl, refl, refl, cc)
left_by w v at c true false false false true f p = cc
left_by w v at c false false false false true f p = (refl, refl, refl, cc)
left_by w v at c true false false false false true p = cc
left_by w v at c false false false false false true p = (refl, refl, refl, cc)
left_by w v at c h false false false false false p = cc

pub leaving : (w : World) (at : ℕ) (x : Item) (c : Refusal) → fate w at x ≡ left_out c → IsLeft w at x c
leaving w at x c p =
    let l = left_by w (after w x) at c (has w x) (int_lt x.1.0 w.floor) (is_earlier x.1 (newest_at w x.0)) (is_newest w x) (is_level x.1 (newest_at w x.0)) (is_full w x.0 (newest_at w x.0)) p in
    record { closed = l.0; other = l.1; absent = l.2; refused = l.3 }

-- a closed sample that the store has is held; one that stands nowhere is left out
abbrev pub IsLeftOut : Fate → Type 0
IsLeftOut (joins v) = ⊥
IsLeftOut held = ⊥
IsLeftOut (left_out e) = Unit {0}

held_by : (w v : World) (at : ℕ) (h b e r l f : Bool) → (b || (e || (l || f))) ≡ true → h ≡ true → fate_in w at v h b e r l f ≡ held
held_by w v at h b e true l f c p = refl
held_by w v at false b e false l f c p = absurd (true_not_false (sym p))
held_by w v at true true e false l f c p = refl
held_by w v at true false true false l f c p = refl
held_by w v at true false false false true f c p = refl
held_by w v at true false false false false true c p = refl
held_by w v at true false false false false false c p = absurd (true_not_false (sym c))

pub held_again : (w : World) (at : ℕ) (x : Item) → closed w x ≡ true → has w x ≡ true → fate w at x ≡ held
held_again w at x c p = held_by w (after w x) at (has w x) (int_lt x.1.0 w.floor) (is_earlier x.1 (newest_at w x.0)) (is_newest w x) (is_level x.1 (newest_at w x.0)) (is_full w x.0 (newest_at w x.0)) c p

out_by : (w v : World) (at : ℕ) (h b e r l f : Bool) → (b || (e || (l || f))) ≡ true → r ≡ false → h ≡ false → IsLeftOut (fate_in w at v h b e r l f)
out_by w v at h b e true l f c p q = absurd (true_not_false p)
out_by w v at true b e false l f c p q = absurd (true_not_false q)
out_by w v at false true e false l f c p q = tt
out_by w v at false false true false l f c p q = tt
out_by w v at false false false false true f c p q = tt
out_by w v at false false false false false true c p q = tt
out_by w v at false false false false false false c p q = absurd (true_not_false (sym c))

pub out_again : (w : World) (at : ℕ) (x : Item) → closed w x ≡ true → is_newest w x ≡ false → has w x ≡ false → IsLeftOut (fate w at x)
out_again w at x c p q = out_by w (after w x) at (has w x) (int_lt x.1.0 w.floor) (is_earlier x.1 (newest_at w x.0)) (is_newest w x) (is_level x.1 (newest_at w x.0)) (is_full w x.0 (newest_at w x.0)) c p q

-- a closed sample does not join
abbrev pub IsNoJoin : Fate → Type 0
IsNoJoin (joins v) = ⊥
IsNoJoin held = Unit {0}
IsNoJoin (left_out e) = Unit {0}

no_join_by : (w v : World) (at : ℕ) (h b e r l f : Bool) → (b || (e || (l || f))) ≡ true → IsNoJoin (fate_in w at v h b e r l f)
no_join_by w v at h b e true l f c = tt
no_join_by w v at true true e false l f c = tt
no_join_by w v at false true e false l f c = tt
no_join_by w v at true false true false l f c = tt
no_join_by w v at false false true false l f c = tt
no_join_by w v at true false false false true f c = tt
no_join_by w v at false false false false true f c = tt
no_join_by w v at true false false false false true c = tt
no_join_by w v at false false false false false true c = tt
no_join_by w v at h false false false false false c = absurd (true_not_false (sym c))

pub no_join : (w : World) (at : ℕ) (x : Item) → closed w x ≡ true → IsNoJoin (fate w at x)
no_join w at x c = no_join_by w (after w x) at (has w x) (int_lt x.1.0 w.floor) (is_earlier x.1 (newest_at w x.0)) (is_newest w x) (is_level x.1 (newest_at w x.0)) (is_full w x.0 (newest_at w x.0)) c

taken_by : (w v u : World) (at k : ℕ) (h b e r l f : Bool) → fate_in w at v h b e r l f ≡ joins u → step_by w k v b e r l f ≡ Ok u
taken_by w v u at k h b e true l f p = cc
taken_by w v u at k true true e false l f p = cc
taken_by w v u at k false true e false l f p = cc
taken_by w v u at k true false true false l f p = cc
taken_by w v u at k false false true false l f p = cc
taken_by w v u at k true false false false true f p = cc
taken_by w v u at k false false false false true f p = cc
taken_by w v u at k true false false false false true p = cc
taken_by w v u at k false false false false false true p = cc
taken_by w v u at k h false false false false false p = cc

-- what joins is what the step takes, at any place
pub taken : (w u : World) (at k : ℕ) (x : Item) → fate w at x ≡ joins u → added w k x ≡ Ok u
taken w u at k x p = taken_by w (after w x) u at k (has w x) (int_lt x.1.0 w.floor) (is_earlier x.1 (newest_at w x.0)) (is_newest w x) (is_level x.1 (newest_at w x.0)) (is_full w x.0 (newest_at w x.0)) p

-- what the step takes joins, or changes nothing
abbrev pub IsTaken : World → World → Fate → Type 0
IsTaken w u (joins v) = v ≡ u
IsTaken w u held = w ≡ u
IsTaken w u (left_out e) = ⊥

taken_fate_by : (w v u : World) (at : ℕ) (h b e r l f : Bool) → step_by w at v b e r l f ≡ Ok u → IsTaken w u (fate_in w at v h b e r l f)
taken_fate_by w v u at h true e r l f p = cc
taken_fate_by w v u at h false true r l f p = cc
taken_fate_by w v u at h false false true l f p = cc
taken_fate_by w v u at h false false false true f p = cc
taken_fate_by w v u at h false false false false true p = cc
taken_fate_by w v u at h false false false false false p = cc

pub taken_fate : (w u : World) (at : ℕ) (x : Item) → added w at x ≡ Ok u → IsTaken w u (fate w at x)
taken_fate w u at x p = taken_fate_by w (after w x) u at (has w x) (int_lt x.1.0 w.floor) (is_earlier x.1 (newest_at w x.0)) (is_newest w x) (is_level x.1 (newest_at w x.0)) (is_full w x.0 (newest_at w x.0)) p

-- numbered from elsewhere, a sample fares alike
abbrev pub IsLike : Fate → Fate → Type 0
IsLike (joins v) (joins u) = v ≡ u
IsLike (joins v) held = ⊥
IsLike (joins v) (left_out c) = ⊥
IsLike held (joins u) = ⊥
IsLike held held = Unit {0}
IsLike held (left_out c) = ⊥
IsLike (left_out c) (joins u) = ⊥
IsLike (left_out c) held = ⊥
IsLike (left_out c) (left_out d) = reason_of c ≡ reason_of d

like_by : (w v : World) (at k : ℕ) (h b e r l f : Bool) → IsLike (fate_in w at v h b e r l f) (fate_in w k v h b e r l f)
like_by w v at k h b e true l f = tt
like_by w v at k true true e false l f = tt
like_by w v at k false true e false l f = refl
like_by w v at k true false true false l f = tt
like_by w v at k false false true false l f = refl
like_by w v at k true false false false true f = tt
like_by w v at k false false false false true f = refl
like_by w v at k true false false false false true = tt
like_by w v at k false false false false false true = refl
like_by w v at k h false false false false false = refl

pub like_fate : (w : World) (at k : ℕ) (x : Item) → IsLike (fate w at x) (fate w k x)
like_fate w at k x = like_by w (after w x) at k (has w x) (int_lt x.1.0 w.floor) (is_earlier x.1 (newest_at w x.0)) (is_newest w x) (is_level x.1 (newest_at w x.0)) (is_full w x.0 (newest_at w x.0))
