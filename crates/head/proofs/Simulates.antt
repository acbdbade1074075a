-- The step at a head is the step of its world.
use Rattle.std.specs.Prelude.{◌≡◌, ◌<◌, ℕ, ℤ, ◌+◌, Bool, true, false, cond, not, ◌&&◌, ◌||◌, T, List, [], ◌∷◌, ◌++◌, Option, None, Some, Result, Ok, Err, map, refl, length, nat_le, int_lt, if◌then◌else◌, is_some}
use Rattle.std.specs.declared.cmp.Ordering.{Ordering}
use Rattle.std.specs.declared.cmp.Ordering.TheVariants.{Less, Equal, Greater}
use Rattle.std.specs.Ordering.{int_cmp, int_eq, ordering_then, eq_by_cmp, is_eq}
use Rattle.std.specs.FinMap.Entries.{find, put, where_key, is_sorted, find-put, is_sorted-put, find-append, find-where_key, is_sorted-where_key}
use Rattle.std.proofs.Common.{sym, ◌∙◌, ap, subst, arith}
use Rattle.std.proofs.lemmas.Bool.{leb-false}
use Rattle.std.proofs.lemmas.Cmp.{int_cmp_total}
use Rattle.labels.specs.Labels.{Labels, Point, labels_cmp, point_cmp, same_labels}
use Rattle.labels.specs.Contents.{Content, held_from}
use Rattle.head.specs.Refusals.{Refusal, out_of_bounds, out_of_order, duplicate, limit}
use Rattle.head.specs.Limits.{max_series, max_samples}
use Rattle.head.specs.Worlds.{World, with_sample, is_earlier, is_repeated, is_level, is_full, added, added_each, committed}
use Rattle.labels.specs.Rows.{points_in}
use Rattle.labels.specs.Parts.{laid_over, over}
use Rattle.head.specs.Heads.{HeadSeries, newest_in, head_part, SnapshotParts, world_of, series_at, IsSoundSeries, IsSoundHead, IsSoundSnapshot}
use Rattle.head.specs.Taking.{grown, extended, head_added, head_added_after, head_added_each}
use Rattle.labels.proofs.OrderLaws.{point_total, point_exact, same_turn}
use Rattle.labels.proofs.ContentLaws.{or_else, or_else_cond, or_else_none, find-laid_over, is_sorted-laid_over, is_sorted-over, same_content, over-last, find-points_in, length-points_in, is_sorted-points_in}
use Rattle.labels.proofs.Times.{true_not_false, missing, later}
use Rattle.head.proofs.SeriesLaws.{IsSoundSeries-grown, IsSoundSeries-new}
use Rattle.head.proofs.HeadLaws.{head_points, points_of-numbered, samples_at, same_path, find-head_points, find-newest_in, with_newest-newest_in, length-newest_in, samples_at-extended}
use Rattle.head.specs.Known.{samples_or, known_of}

-- what the blocks hold
abbrev pub below_of : SnapshotParts → Content
below_of s = over [] (map (λ b. b.part) s.blocks)

pub content-world_of : (s : SnapshotParts) → (world_of s).content ≡ laid_over (head_points s.head) (below_of s)
unfolding world_of
content-world_of s =
    over-last (map (λ b. b.part) s.blocks) [] (head_part s.head)
    ∙ ap (λ c. laid_over c (below_of s)) (points_of-numbered 1 s.head)

pub is_sorted-below_of : (s : SnapshotParts) → T (is_sorted point_cmp (below_of s))
is_sorted-below_of s = is_sorted-over (map (λ b. b.part) s.blocks) [] tt

pub is_sorted-world_of : (s : SnapshotParts) → T (is_sorted point_cmp (world_of s).content)
is_sorted-world_of s = subst (λ c. T (is_sorted point_cmp c)) (sym (content-world_of s)) (is_sorted-laid_over (head_points s.head) (below_of s) (is_sorted-below_of s))

-- a sample is the head's, or else the blocks'
pub find-world_of : (s : SnapshotParts) (l : Labels) (t : ℤ) → IsSoundSnapshot s → find point_cmp (l, t) (world_of s).content ≡ or_else (find int_cmp t (samples_at l s.head)) (find point_cmp (l, t) (below_of s))
find-world_of s l t sound =
    ap (find point_cmp (l, t)) (content-world_of s)
    ∙ find-laid_over (l, t) (head_points s.head) (below_of s)
    ∙ ap (λ o. or_else o (find point_cmp (l, t) (below_of s))) (find-head_points s.floor s.head l t sound.head)

abbrev pub IfSeries : (HeadSeries → Type 0) → Option HeadSeries → Type 0
IfSeries P None = Unit {0}
IfSeries P (Some h) = P h

if_cond : (P : HeadSeries → Type 0) (b : Bool) (h : HeadSeries) (o : Option HeadSeries) → P h → IfSeries P o → IfSeries P (cond b (Some h) o)
if_cond P true h o p q = p
if_cond P false h o p q = q

pub sound_at : (floor : ℤ) (l : Labels) (head : List HeadSeries) → IsSoundHead floor head → IfSeries (IsSoundSeries floor) (series_at l head)
sound_at floor l [] sound = tt
sound_at floor l (h ∷ hs) sound = if_cond (IsSoundSeries floor) (same_labels l h.labels) h (series_at l hs) sound.0 (sound_at floor l hs sound.2)

ascending_or : (floor : ℤ) (o : Option HeadSeries) → IfSeries (IsSoundSeries floor) o → T (is_sorted int_cmp (samples_or o))
ascending_or floor None sound = tt
ascending_or floor (Some h) sound = sound.ascending

pub none_below : (floor t : ℤ) (o : Option HeadSeries) → int_lt t floor ≡ true → IfSeries (IsSoundSeries floor) o → find int_cmp t (samples_or o) ≡ None
none_below floor t None low sound = refl
none_below floor t (Some h) low sound = missing (λ u. int_lt u floor) t h.samples low sound.above

-- in a content, the samples of one label set from the floor on are those of its series
counted : (s : SnapshotParts) (l l' : Labels) (t : ℤ) → IsSoundSnapshot s → (a b : Bool) → same_labels l l' ≡ a → int_lt t s.floor ≡ b →
    cond (a && not b) (find point_cmp (l', t) (world_of s).content) None ≡ cond a (find int_cmp t (samples_at l s.head)) None
counted s l l' t sound false b is low = refl
counted s l l' t sound true true is low = sym (none_below s.floor t (series_at l s.head) low (sound_at s.floor l s.head sound.head))
counted s l l' t sound true false is low =
    find-world_of s l' t sound
    ∙ ap (or_else (find int_cmp t (samples_at l' s.head))) (sound.blocks.none l' t low)
    ∙ or_else_none (find int_cmp t (samples_at l' s.head))
    ∙ ap (λ k. find int_cmp t (samples_at k s.head)) (sym (same_path l l' is))

pub held_from-world_of : (s : SnapshotParts) (l : Labels) → IsSoundSnapshot s → held_from s.floor l (world_of s).content ≡ length (samples_at l s.head)
held_from-world_of s l sound =
    let p : Point → Bool = λ q. same_labels l q.0 && not (int_lt q.1 s.floor) in
    let alike : (q x : Point) → point_cmp q x ≡ Equal → p x ≡ p q = λ q x e. ap p (sym (point_exact q x e)) in
    let same : where_key {X = ℤ} point_cmp p (world_of s).content ≡ points_in l (samples_at l s.head) = same_content _ _
    (is_sorted-where_key point_cmp p (world_of s).content (is_sorted-world_of s))
    (subst T (sym (is_sorted-points_in l (samples_at l s.head))) (ascending_or s.floor (series_at l s.head) (sound_at s.floor l s.head sound.head)))
    (λ q. find-where_key point_cmp p q (alike q) (world_of s).content
    ∙ counted s l q.0 q.1 sound (same_labels l q.0) (int_lt q.1 s.floor) refl refl
    ∙ ap (λ b. cond b (find int_cmp q.1 (samples_at l s.head)) None) (same_turn l q.0)
    ∙ sym (find-points_in q.0 q.1 l (samples_at l s.head))) in
    ap length same ∙ length-points_in l (samples_at l s.head)

-- one sample more, where there is none at its point
found_more : (a : Bool) (l l' : Labels) (t : ℤ) (x : ℤ × ℤ) (head : List HeadSeries) → same_labels l' l ≡ a → find int_cmp x.0 (samples_at l head) ≡ None →
    find int_cmp t (cond a (samples_at l head ++ x ∷ []) (samples_at l' head)) ≡ cond (a && eq_by_cmp int_cmp t x.0) (Some x.1) (find int_cmp t (samples_at l' head))
found_more true l l' t x head is none =
    find-append int_cmp int_cmp_total (samples_at l head) x.0 x.1 t none
    ∙ ap (λ k. cond (eq_by_cmp int_cmp t x.0) (Some x.1) (find int_cmp t (samples_at k head))) (sym (same_path l' l is))
found_more false l l' t x head is none = refl

both_equal : (r q : Ordering) → (is_eq r && is_eq q) ≡ is_eq (ordering_then r q)
both_equal Less q = refl
both_equal Equal q = refl
both_equal Greater q = refl

pub put-world_of : (s : SnapshotParts) (l : Labels) (x : ℤ × ℤ) → IsSoundSnapshot s → IsSoundSnapshot (record s { head = extended l x s.head }) → find int_cmp x.0 (samples_at l s.head) ≡ None →
    put point_cmp (l, x.0) x.1 (world_of s).content ≡ (world_of (record s { head = extended l x s.head })).content
put-world_of s l x sound more none = same_content _ _
    (is_sorted-put point_cmp point_total (l, x.0) x.1 (world_of s).content (is_sorted-world_of s))
    (is_sorted-world_of (record s { head = extended l x s.head }))
    (λ q.
    find-put point_cmp point_total q (l, x.0) x.1 (world_of s).content
    ∙ (λ i. cond (sym (both_equal (labels_cmp q.0 l) (int_cmp q.1 x.0)) i) (Some x.1) (find-world_of s q.0 q.1 sound i))
    ∙ or_else_cond (same_labels q.0 l && eq_by_cmp int_cmp q.1 x.0) x.1 (find int_cmp q.1 (samples_at q.0 s.head)) (find point_cmp q (below_of s))
    ∙ ap (λ o. or_else o (find point_cmp q (below_of s))) (sym (
    ap (find int_cmp q.1) (samples_at-extended q.0 l x s.head)
    ∙ found_more (same_labels q.0 l) l q.0 q.1 x s.head refl none))
    ∙ sym (find-world_of (record s { head = extended l x s.head }) q.0 q.1 more))

absent-extended : (k l : Labels) (x : ℤ × ℤ) (head : List HeadSeries) → same_labels k l ≡ false → series_at k head ≡ None → series_at k (extended l x head) ≡ None
absent-extended k l x [] other none = ap (λ b. cond b (Some (record { labels = l; samples = x ∷ []; newest = x })) None) other
absent-extended k l x (h ∷ hs) other none =
    elim (same_labels k h.labels) as (λ a. cond a (Some h) (series_at k hs) ≡ None → same_labels k h.labels ≡ a → series_at k (cond (same_labels l h.labels) (grown x h ∷ hs) (h ∷ extended l x hs)) ≡ None) [
      | true ↦ λ e is. absurd (true_not_false (ap is_some e))
      | false ↦ λ e is. elim (same_labels l h.labels) as (λ b. series_at k (cond b (grown x h ∷ hs) (h ∷ extended l x hs)) ≡ None) [
        | true ↦ ap (λ a. cond a (Some (grown x h)) (series_at k hs)) is ∙ e
        | false ↦ ap (λ a. cond a (Some h) (series_at k (extended l x hs))) is ∙ absent-extended k l x hs other e
      ]
    ] none refl

-- the sample is later than the newest of the series, which has room for it
abbrev pub IsNext : ℤ × ℤ → HeadSeries → Type 0
IsNext x h = (int_lt h.newest.0 x.0 ≡ true) × (length h.samples < 1048576)

pub IsSoundHead-extended : (floor : ℤ) (l : Labels) (x : ℤ × ℤ) (head : List HeadSeries) → int_lt x.0 floor ≡ false → IsSoundHead floor head → IfSeries (IsNext x) (series_at l head) → IsSoundHead floor (extended l x head)
IsSoundHead-extended floor l x [] above sound less = (IsSoundSeries-new floor l x above, refl, tt)
IsSoundHead-extended floor l x (h ∷ hs) above sound less =
    elim (same_labels l h.labels) as (λ b. same_labels l h.labels ≡ b → IfSeries (IsNext x) (cond b (Some h) (series_at l hs)) → IsSoundHead floor (cond b (grown x h ∷ hs) (h ∷ extended l x hs))) [
      | true ↦ λ is less. (IsSoundSeries-grown floor x h above less.0 less.1 sound.0, sound.1, sound.2)
      | false ↦ λ is less. (sound.0, absent-extended h.labels l x hs (same_turn h.labels l ∙ is) sound.1, IsSoundHead-extended floor l x hs above sound.2 less)
    ] refl less

pub none_later : (floor : ℤ) (x : ℤ × ℤ) (o : Option HeadSeries) → IfSeries (IsSoundSeries floor) o → IfSeries (IsNext x) o → find int_cmp x.0 (samples_or o) ≡ None
none_later floor x None sound less = refl
none_later floor x (Some h) sound less = missing (λ u. int_lt h.newest.0 u) x.0 h.samples less.0 sound.upto

-- the world and the soundness of what a step gives
abbrev pub world_with : SnapshotParts → Result (List HeadSeries) Refusal → Result World Refusal
world_with s (Ok head) = Ok (world_of (record s { head = head }))
world_with s (Err e) = Err e

abbrev pub IsSoundWith : SnapshotParts → Result (List HeadSeries) Refusal → Type 0
IsSoundWith s (Ok head) = IsSoundSnapshot (record s { head = head })
IsSoundWith s (Err e) = Unit {0}

abbrev pub Follows : SnapshotParts → Result World Refusal → Result (List HeadSeries) Refusal → Type 0
Follows s r q = (r ≡ world_with s q) × IsSoundWith s q

pub with_sample-world_of : (s : SnapshotParts) (l : Labels) (x : ℤ × ℤ) → IsSoundSnapshot s → IsSoundSnapshot (record s { head = extended l x s.head }) → find int_cmp x.0 (samples_at l s.head) ≡ None → with_sample (world_of s) l x ≡ world_of (record s { head = extended l x s.head })
unfolding world_of
with_sample-world_of s l x sound more none = λ i. record { content = put-world_of s l x sound more none i; newest = with_newest-newest_in l x s.head i; floor = s.floor; blocks = length s.blocks }

joins : (s : SnapshotParts) (l : Labels) (x : ℤ × ℤ) (a b : Bool) → a ≡ b → IsSoundSnapshot s → int_lt x.0 s.floor ≡ false → (b ≡ false → IfSeries (IsNext x) (series_at l s.head)) →
    Follows s (if a then Err limit else Ok (with_sample (world_of s) l x)) (if b then Err limit else Ok (extended l x s.head))
joins s l x a true e sound above less = (ap (λ c. if c then Err limit else Ok (with_sample (world_of s) l x)) e, tt)
joins s l x a false e sound above less =
    let next = less refl in
    let more : IsSoundSnapshot (record s { head = extended l x s.head }) = record { few = sound.few; time = sound.time; ends = sound.ends; head = IsSoundHead-extended s.floor l x s.head above sound.head next; blocks = sound.blocks } in (
      ap (λ c. if c then Err limit else Ok (with_sample (world_of s) l x)) e
          ∙ ap Ok (with_sample-world_of s l x sound more (none_later s.floor x (series_at l s.head) (sound_at s.floor l s.head sound.head) next)),
      more,
    )

or_false : (a b : Bool) → b ≡ false → (a || b) ≡ a
or_false true b e = refl
or_false false b e = e

-- a sample that is not below the floor
abbrev added_after : World → ℕ → Labels → ℤ × ℤ → Option (ℤ × ℤ) → Result World Refusal
added_after w at l x newest =
    if is_earlier x newest then Err (out_of_order at)
    else if is_repeated x newest then Ok w
    else if is_level x newest then Err (duplicate at)
    else if is_full w l newest then Err limit
    else Ok (with_sample w l x)

follows_after : (s : SnapshotParts) (at : ℕ) (l : Labels) (x : ℤ × ℤ) → IsSoundSnapshot s → int_lt x.0 s.floor ≡ false →
    (o : Option HeadSeries) → series_at l s.head ≡ o → Follows s (added_after (world_of s) at l x (known_of o)) (head_added_after s.head at l x o)
unfolding world_of
follows_after s at l x sound above None is = joins s l x _ _
    (ap (λ n. nat_le max_series (length (newest_in s.head)) || nat_le max_samples n) (held_from-world_of s l sound ∙ ap (λ o. length (samples_or o)) is)
    ∙ or_false (nat_le max_series (length (newest_in s.head))) _ refl
    ∙ ap (nat_le max_series) (length-newest_in s.head))
    sound above (λ _. subst (IfSeries (IsNext x)) (sym is) tt)
follows_after s at l x sound above (Some h) is =
    elim (int_lt x.0 h.newest.0) as (λ a. int_lt x.0 h.newest.0 ≡ a → Follows s
    (if a then Err (out_of_order at) else if int_eq x.0 h.newest.0 && int_eq x.1 h.newest.1 then Ok (world_of s) else if int_eq x.0 h.newest.0 then Err (duplicate at) else if is_full (world_of s) l (Some h.newest) then Err limit else Ok (with_sample (world_of s) l x))
    (if a then Err (out_of_order at) else if int_eq x.0 h.newest.0 then (if int_eq x.1 h.newest.1 then Ok s.head else Err (duplicate at)) else if nat_le max_samples (length h.samples) then Err limit else Ok (extended l x s.head))) [
      | true ↦ λ p. (refl, tt)
      | false ↦ λ p. elim (int_eq x.0 h.newest.0) as (λ b. int_eq x.0 h.newest.0 ≡ b → Follows s
          (if b && int_eq x.1 h.newest.1 then Ok (world_of s) else if b then Err (duplicate at) else if is_full (world_of s) l (Some h.newest) then Err limit else Ok (with_sample (world_of s) l x))
          (if b then (if int_eq x.1 h.newest.1 then Ok s.head else Err (duplicate at)) else if nat_le max_samples (length h.samples) then Err limit else Ok (extended l x s.head))) [
            | true ↦ λ q. elim (int_eq x.1 h.newest.1) as (λ c. Follows s (if c then Ok (world_of s) else Err (duplicate at)) (if c then Ok s.head else Err (duplicate at))) [
              | true ↦ (refl, sound)
              | false ↦ (refl, tt)
            ]
            | false ↦ λ q. joins s l x _ _ (ap (nat_le max_samples) (held_from-world_of s l sound ∙ ap (λ o. length (samples_or o)) is))
                sound above (λ left. subst (IfSeries (IsNext x)) (sym is)
                (later x.0 h.newest.0 p q, let below = leb-false max_samples (length h.samples) left in omega (arith, below)))
          ] refl
    ] refl

-- the step at a head is the step of its world
pub follows : (s : SnapshotParts) (at : ℕ) (x : Labels × (ℤ × ℤ)) → IsSoundSnapshot s → Follows s (added (world_of s) at x) (head_added s.floor s.head at x)
unfolding world_of head_added
follows s at x sound =
    elim (int_lt x.1.0 s.floor) as (λ b. int_lt x.1.0 s.floor ≡ b → Follows s
    (if b then Err (out_of_bounds at) else added_after (world_of s) at x.0 x.1 (find labels_cmp x.0 (newest_in s.head)))
    (if b then Err (out_of_bounds at) else head_added_after s.head at x.0 x.1 (series_at x.0 s.head))) [
      | true ↦ λ p. (refl, tt)
      | false ↦ λ p. subst (λ k. Follows s (added_after (world_of s) at x.0 x.1 k) (head_added_after s.head at x.0 x.1 (series_at x.0 s.head)))
          (sym (find-newest_in x.0 s.head))
          (follows_after s at x.0 x.1 sound p (series_at x.0 s.head) refl)
    ] refl

-- the steps of a batch
pub follows_each : (s : SnapshotParts) (at : ℕ) (xs : List (Labels × (ℤ × ℤ))) (r : Result World Refusal) (q : Result (List HeadSeries) Refusal) →
    Follows s r q → Follows s (added_each r at xs) (head_added_each s.floor q at xs)
follows_each s at [] r q f = f
follows_each s at (x ∷ xs) r (Err e) f = (ap (λ k. added_each k at (x ∷ xs)) f.0, tt)
follows_each s at (x ∷ xs) r (Ok head) f =
    let rest = follows_each s (at + 1) xs (added (world_of (record s { head = head })) at x) (head_added s.floor head at x) (follows (record s { head = head }) at x f.1) in
    (ap (λ k. added_each k at (x ∷ xs)) f.0 ∙ rest.0, rest.1)

pub follows_batch : (s : SnapshotParts) (xs : List (Labels × (ℤ × ℤ))) → IsSoundSnapshot s → Follows s (committed (world_of s) xs) (head_added_each s.floor (Ok s.head) 0 xs)
follows_batch s xs sound = follows_each s 0 xs (Ok (world_of s)) (Ok s.head) (refl, sound)
