-- The world of a snapshot after a cut.
use Rattle.std.specs.Prelude.{◌≡◌, ℤ, ◌+◌, Bool, true, false, cond, not, ◌&&◌, T, List, [], ◌∷◌, ◌++◌, Option, None, Some, map, refl, length, filter, int_lt, is_some}
use Rattle.std.specs.List.{list_all}
use Rattle.std.specs.Ordering.{int_cmp}
use Rattle.std.specs.FinMap.Entries.{find, is_sorted-where_key}
use Rattle.std.proofs.Common.{sym, ◌∙◌, ap, arith}
use Rattle.std.proofs.lemmas.Cmp.{int_cmp_total}
use Rattle.labels.specs.Labels.{Labels, Point, point_cmp, same_labels}
use Rattle.labels.specs.Rows.{points_in, points_of}
use Rattle.labels.specs.Parts.{Part, rows_in, over}
use Rattle.labels.proofs.ContentLaws.{or_else, find-laid_over, same_content, over-last}
use Rattle.labels.proofs.Times.{both_T, first_T, second_T, T_of, not_T, true_not_false, less_of, lt_of, below_of}
use Rattle.labels.proofs.Restricting.{kept, find-kept, kept-++, kept-points_in}
use Rattle.head.specs.Worlds.{raised, Newest}
use Rattle.head.specs.Heads.{HeadSeries, BlockPart, SnapshotParts, newest_in, series_at, world_of, IsSoundSeries, IsSoundHead, AreBelow, IsSoundSnapshot}
use Rattle.head.specs.Cuts.{leaving}
use Rattle.head.specs.Removing.{series_kept, from_on, head_cut, snapshot_cut}
use Rattle.head.proofs.HeadLaws.{head_points, find-head_points}
use Rattle.head.proofs.Deleting.{few_left, all_filter}
use Rattle.head.proofs.Simulates.{below_of as blocks_of, content-world_of, is_sorted-world_of, sound_at, none_below}

-- a series whose newest sample is below the time has none from it on
none_left : (n t : ℤ) (ss : List (ℤ × ℤ)) → int_lt n t ≡ true → T (list_all (λ e. not (int_lt n e.0)) ss) → filter (λ s. not (int_lt s.0 t)) ss ≡ []
none_left n t [] low upto = refl
none_left n t (s ∷ ss) low upto =
    ap (λ b. cond (not b) (s ∷ filter (λ s. not (int_lt s.0 t)) ss) (filter (λ s. not (int_lt s.0 t)) ss)) (lt_of s.0 t (below_of s.0 n t (not_T _ (first_T _ _ upto)) (less_of n t low)))
    ∙ none_left n t ss low (second_T _ _ upto)

-- the samples of a head after a cut
pub points-head_cut : (floor t : ℤ) (head : List HeadSeries) → IsSoundHead floor head → head_points (head_cut t head) ≡ kept (from_on t) (head_points head)
points-head_cut floor t [] sound = refl
points-head_cut floor t (h ∷ hs) sound =
    sym (kept-++ (from_on t) (points_in h.labels h.samples) (head_points hs)
    ∙ (λ i. kept-points_in (from_on t) h.labels h.samples i ++ sym (points-head_cut floor t hs sound.2) i)
    ∙ elim (int_lt h.newest.0 t) as (λ b. int_lt h.newest.0 t ≡ b → points_in h.labels (filter (λ s. not (int_lt s.0 t)) h.samples) ++ head_points (head_cut t hs) ≡ head_points (cond (not b) (series_kept (from_on t) h ∷ head_cut t hs) (head_cut t hs))) [
      | true ↦ λ e. ap (λ ss. points_in h.labels ss ++ head_points (head_cut t hs)) (none_left h.newest.0 t h.samples e sound.0.upto)
      | false ↦ λ e. refl
    ] refl)

newest-head_cut : (t : ℤ) (head : List HeadSeries) → newest_in (head_cut t head) ≡ filter (λ e. not (int_lt e.1.0 t)) (newest_in head)
newest-head_cut t [] = refl
newest-head_cut t (h ∷ hs) =
    elim (int_lt h.newest.0 t) as (λ b. newest_in (cond (not b) (series_kept (from_on t) h ∷ head_cut t hs) (head_cut t hs)) ≡ cond (not b) ((h.labels, h.newest) ∷ newest_in (head_cut t hs)) (newest_in (head_cut t hs))) [ true ↦ refl | false ↦ refl ]
    ∙ ap (λ (ns : Newest). cond (not (int_lt h.newest.0 t)) ((h.labels, h.newest) ∷ ns) ns) (newest-head_cut t hs)

all_passed : (q : ℤ × ℤ → Bool) (ss : List (ℤ × ℤ)) → T (list_all q (filter q ss))
all_passed q [] = tt
all_passed q (s ∷ ss) = elim (q s) as (λ b. q s ≡ b → T (list_all q (cond b (s ∷ filter q ss) (filter q ss)))) [
  | true ↦ λ e. both_T _ _ (T_of (q s) e) (all_passed q ss)
  | false ↦ λ e. all_passed q ss
] refl

series_cut : (floor t : ℤ) (h : HeadSeries) → IsSoundSeries floor h → IsSoundSeries t (series_kept (from_on t) h)
series_cut floor t h sound = record {
  few = let left = few_left (λ s. not (int_lt s.0 t)) h.samples in omega (arith, left, sound.few);
  ascending = is_sorted-where_key int_cmp (λ u. not (int_lt u t)) h.samples sound.ascending;
  above = all_passed (λ s. not (int_lt s.0 t)) h.samples;
  upto = all_filter (λ e. not (int_lt h.newest.0 e.0)) (λ s. not (int_lt s.0 t)) h.samples sound.upto;
}

absent-head_cut : (k : Labels) (t : ℤ) (head : List HeadSeries) → series_at k head ≡ None → series_at k (head_cut t head) ≡ None
absent-head_cut k t [] none = refl
absent-head_cut k t (h ∷ hs) none =
    elim (same_labels k h.labels) as (λ a. cond a (Some h) (series_at k hs) ≡ None → same_labels k h.labels ≡ a → series_at k (cond (not (int_lt h.newest.0 t)) (series_kept (from_on t) h ∷ head_cut t hs) (head_cut t hs)) ≡ None) [
      | true ↦ λ e is. absurd (true_not_false (ap is_some e))
      | false ↦ λ e is. elim (int_lt h.newest.0 t) as (λ b. series_at k (cond (not b) (series_kept (from_on t) h ∷ head_cut t hs) (head_cut t hs)) ≡ None) [
        | true ↦ absent-head_cut k t hs e
        | false ↦ ap (λ a. cond a (Some (series_kept (from_on t) h)) (series_at k (head_cut t hs))) is ∙ absent-head_cut k t hs e
      ]
    ] none refl

pub IsSoundHead-head_cut : (floor t : ℤ) (head : List HeadSeries) → IsSoundHead floor head → IsSoundHead t (head_cut t head)
IsSoundHead-head_cut floor t [] sound = tt
IsSoundHead-head_cut floor t (h ∷ hs) sound =
    elim (int_lt h.newest.0 t) as (λ b. IsSoundHead t (cond (not b) (series_kept (from_on t) h ∷ head_cut t hs) (head_cut t hs))) [
      | true ↦ IsSoundHead-head_cut floor t hs sound.2
      | false ↦ (series_cut floor t h sound.0, absent-head_cut h.labels t hs sound.1, IsSoundHead-head_cut floor t hs sound.2)
    ]

-- these blocks hold what the old ones do, and the samples that leave the head laid over it
pub record HoldCut (t : ℤ) (blocks : List BlockPart) (s : SnapshotParts) : Type 0 where
  pub holds : (q : Point) → find point_cmp q (over [] (map (λ b. b.part) blocks)) ≡ or_else (find point_cmp q (leaving t s)) (find point_cmp q (blocks_of s))

parts-snoc : (blocks : List BlockPart) (block : BlockPart) → map (λ b. b.part) (blocks ++ block ∷ []) ≡ map (λ b. b.part) blocks ++ block.part ∷ []
parts-snoc [] block = refl
parts-snoc (b ∷ bs) block = ap (λ (ps : List Part). b.part ∷ ps) (parts-snoc bs block)

pub length-snoc : (blocks : List BlockPart) (block : BlockPart) → length (blocks ++ block ∷ []) ≡ length blocks + 1
length-snoc [] block = refl
length-snoc (b ∷ bs) block = let rest = length-snoc bs block in omega arith

-- the old blocks, where no sample leaves the head
pub hold_none : (t : ℤ) (s : SnapshotParts) → leaving t s ≡ [] → HoldCut t s.blocks s
hold_none t s none = record { holds = λ q. ap (λ c. or_else (find point_cmp q c) (find point_cmp q (blocks_of s))) (sym none) }

-- the old blocks and one of the samples that leave
pub hold_more : (t : ℤ) (s : SnapshotParts) (block : BlockPart) → points_of (rows_in block.part) ≡ leaving t s → HoldCut t (s.blocks ++ block ∷ []) s
hold_more t s block is = record {
  holds = λ q.
      ap (λ ps. find point_cmp q (over [] ps)) (parts-snoc s.blocks block)
      ∙ ap (find point_cmp q) (over-last (map (λ b. b.part) s.blocks) [] block.part)
      ∙ find-laid_over q (points_of (rows_in block.part)) (blocks_of s)
      ∙ ap (λ c. or_else (find point_cmp q c) (find point_cmp q (blocks_of s))) is;
}

twice : (x y : Option ℤ) → or_else (or_else x y) y ≡ or_else x y
twice None None = refl
twice None (Some v) = refl
twice (Some v) y = refl

split : (low below : Bool) (x y : Option ℤ) → (low ≡ true → x ≡ None) → or_else (cond (not below) x None) (or_else (cond (not low && below) (or_else x y) None) y) ≡ or_else x y
split true true x y none = ap (λ o. or_else o y) (sym (none refl))
split false true x y none = twice x y
split true false x y none = refl
split false false x y none = refl

pub content-cut : (t : ℤ) (blocks : List BlockPart) (s : SnapshotParts) → IsSoundSnapshot s → HoldCut t blocks s → (world_of (snapshot_cut t blocks s)).content ≡ (world_of s).content
content-cut t blocks s sound cut = same_content _ _ (is_sorted-world_of (snapshot_cut t blocks s)) (is_sorted-world_of s) (λ q.
    let whole : find point_cmp q (world_of s).content ≡ or_else (find point_cmp q (head_points s.head)) (find point_cmp q (blocks_of s)) = ap (find point_cmp q) (content-world_of s) ∙ find-laid_over q (head_points s.head) (blocks_of s) in
    ap (find point_cmp q) (content-world_of (snapshot_cut t blocks s))
    ∙ find-laid_over q (head_points (head_cut t s.head)) (blocks_of (snapshot_cut t blocks s))
    ∙ (λ i. or_else (find point_cmp q (points-head_cut s.floor t s.head sound.head i)) (cut.holds q i))
    ∙ (λ i. or_else (find-kept (from_on t) q (head_points s.head) i)
    (or_else ((find-kept (λ p. not (int_lt p.1 s.floor) && int_lt p.1 t) q (world_of s).content
    ∙ ap (λ o. cond (not (int_lt q.1 s.floor) && int_lt q.1 t) o None) whole) i) (find point_cmp q (blocks_of s))))
    ∙ split (int_lt q.1 s.floor) (int_lt q.1 t) (find point_cmp q (head_points s.head)) (find point_cmp q (blocks_of s))
    (λ low. find-head_points s.floor s.head q.0 q.1 sound.head ∙ none_below s.floor q.1 (series_at q.0 s.head) low (sound_at s.floor q.0 s.head sound.head))
    ∙ sym whole)

-- the world after a cut
pub cut-world_of : (t : ℤ) (blocks : List BlockPart) (s : SnapshotParts) → IsSoundSnapshot s → HoldCut t blocks s → world_of (snapshot_cut t blocks s) ≡ record (raised (world_of s) t) { blocks = length blocks }
unfolding world_of
cut-world_of t blocks s sound cut = λ i. record { content = content-cut t blocks s sound cut i; newest = newest-head_cut t s.head i; floor = t; blocks = length blocks }

and_false : (b : Bool) (o : Option ℤ) → cond (b && false) o None ≡ None
and_false true o = refl
and_false false o = refl

not_below_floor : (floor t u : ℤ) → int_lt floor t ≡ true → int_lt u t ≡ false → int_lt u floor ≡ false
not_below_floor floor t u up high =
    elim (int_lt u floor) as (λ b. int_lt u floor ≡ b → b ≡ false) [
      | true ↦ λ e. absurd (true_not_false (sym (lt_of u t (int_cmp_total.trans u floor t (less_of u floor e) (less_of floor t up))) ∙ high))
      | false ↦ λ e. refl
    ] refl

pub none_above_cut : (t : ℤ) (blocks : List BlockPart) (s : SnapshotParts) → IsSoundSnapshot s → HoldCut t blocks s → int_lt s.floor t ≡ true → AreBelow t blocks
none_above_cut t blocks s sound cut up = record {
  none = λ l u high.
      cut.holds (l, u)
      ∙ (λ i. or_else ((find-kept (λ p. not (int_lt p.1 s.floor) && int_lt p.1 t) (l, u) (world_of s).content
      ∙ ap (λ b. cond (not (int_lt u s.floor) && b) (find point_cmp (l, u) (world_of s).content) None) high
      ∙ and_false (not (int_lt u s.floor)) _) i)
      (sound.blocks.none l u (not_below_floor s.floor t u up high) i));
}
