-- The opening of a store: the floor is at or above the end of every block's range, so that no block reaches it.
use Rattle.std.specs.Prelude.{◌≡◌, ℕ, ℤ, Bool, true, false, cond, not, T, List, [], ◌∷◌, None, map, refl, int_lt, int_le, ◌&&◌, Option, length, ◌≤◌}
use Rattle.std.specs.List.{list_all, AllByRecursion, fold}
use Rattle.std.specs.Int.{int_max}
use Rattle.std.specs.Ordering.{int_cmp}
use Rattle.std.specs.FinMap.Entries.{find}
use Rattle.std.proofs.Common.{◌∙◌, ap, sym, subst, arith}
use Rattle.std.proofs.lemmas.Int.{ints}
use Rattle.std.proofs.lemmas.List.{length-map}
use Rattle.std.proofs.lemmas.List.Elements.{All-head, All-tail}
use Rattle.labels.specs.declared.sample.TheConstants.{MIN_TIME}
use Rattle.labels.specs.Labels.{Labels, point_cmp, same_labels}
use Rattle.labels.specs.Contents.{Content, is_time}
use Rattle.labels.specs.Rows.{points_in, points_of}
use Rattle.labels.specs.Parts.{Part, rows_in, laid_over, over}
use Rattle.labels.proofs.ContentLaws.{or_else, find-laid_over, find-++, find-points_in}
use Rattle.labels.proofs.Times.{true_not_false, missing, both_T, T_of}
use Rattle.block.specs.Blocks.{Shown, AreInside}
use Rattle.block.specs.Ranges.{covers}
use Rattle.head.specs.Heads.{EndBy, AreBelow, IsSoundSnapshot}
use Rattle.head.specs.Blocks.{part_in, EachInside, opening_floor}

second_true : (a b : Bool) → (a && b) ≡ true → b ≡ true
second_true true b e = e
second_true false b e = absurd (true_not_false (sym e))

greater : (t m : ℤ) → int_lt (int_max t m) t ≡ false
greater t m = grind (arith, ints)

greater_end : (t m : ℤ) → int_lt (int_max t m) m ≡ false
greater_end t m = grind (arith, ints)

at_least : (a b c : ℤ) → int_lt b a ≡ false → int_lt c b ≡ false → int_lt c a ≡ false
at_least a b c e f = grind (arith, ints)

under : (s m floor : ℤ) → int_lt s m ≡ true → int_lt floor m ≡ false → int_lt s floor ≡ true
under s m floor e f = grind (arith, ints)

self : (a : ℤ) → int_lt a a ≡ false
self a = grind (arith, ints)

before_end : (range : ℤ × ℤ) (t : ℤ) → covers range t ≡ true → int_lt t range.1 ≡ true
before_end range t e = second_true (int_le range.0 t) (int_lt t range.1) e

-- the greater of a time and the ends of the blocks' ranges
abbrev pub end_after : ℤ → List Shown → ℤ
end_after t blocks = fold (λ floor block. int_max floor block.range.1) t blocks

pub end_is : (t : ℤ) (blocks : List Shown) → fold (λ floor block. int_max floor block.max) t (map part_in blocks) ≡ end_after t blocks
end_is t [] = refl
end_is t (b ∷ bs) = end_is (int_max t b.range.1) bs

-- it is not below the time from which it was taken
from_time : (t : ℤ) (blocks : List Shown) → int_lt (end_after t blocks) t ≡ false
from_time t [] = self t
from_time t (b ∷ bs) = at_least t (int_max t b.range.1) (end_after (int_max t b.range.1) bs) (greater t b.range.1) (from_time (int_max t b.range.1) bs)

-- no sample of a row is at a time from the floor on, where all lie in a range whose end the floor is not below
none_in_row : (range : ℤ × ℤ) (floor t : ℤ) (ss : List (ℤ × ℤ)) → int_lt floor range.1 ≡ false → AllByRecursion (λ (s : ℤ × ℤ). covers range s.0 ≡ true) ss → T (list_all (λ e. not (not (int_lt e.0 floor))) ss)
none_in_row range floor t [] end inside = tt
none_in_row range floor t (s ∷ ss) end inside =
    both_T _ _ (T_of _ (ap (λ b. not (not b)) (under s.0 range.1 floor (before_end range s.0 inside.0) end))) (none_in_row range floor t ss end inside.1)

chosen_none : (b : Bool) (o : Option ℤ) → o ≡ None → cond b o None ≡ None
chosen_none true o e = e
chosen_none false o e = refl

-- nor one of a part
none_in_part : (range : ℤ × ℤ) (floor t : ℤ) (l : Labels) (part : Part) → int_lt floor range.1 ≡ false → int_lt t floor ≡ false → AreInside range part
    → find point_cmp (l, t) (points_of (rows_in part)) ≡ None
none_in_part range floor t l [] end high inside = refl
none_in_part range floor t l (row ∷ rows) end high inside =
    let none = missing (λ u. not (int_lt u floor)) t row.1.1 (ap not high) (none_in_row range floor t row.1.1 end inside.0) in
    find-++ (l, t) (points_in row.1.0 row.1.1) (points_of (rows_in rows))
    ∙ ap (λ o. or_else o (find point_cmp (l, t) (points_of (rows_in rows)))) (find-points_in l t row.1.0 row.1.1 ∙ chosen_none (same_labels l row.1.0) (find int_cmp t row.1.1) none)
    ∙ none_in_part range floor t l rows end high inside.1

pub not_below : (m floor : ℤ) → int_le m floor ≡ true → int_lt floor m ≡ false
not_below m floor e = grind (arith, ints)

-- nor one of the blocks, laid over what has none
none_in_blocks : (floor t : ℤ) (l : Labels) (bs : List Shown) (c : Content) → int_lt t floor ≡ false → EndBy floor (map part_in bs) → EachInside bs
    → find point_cmp (l, t) c ≡ None → find point_cmp (l, t) (over c (map (λ b. b.part) (map part_in bs))) ≡ None
none_in_blocks floor t l [] c high ends inside none = none
none_in_blocks floor t l (b ∷ bs) c high ends inside none =
    none_in_blocks floor t l bs (laid_over (points_of (rows_in b.part)) c) high ends.1 (All-tail (λ (x : Shown). AreInside x.range x.part) b bs inside)
    (find-laid_over (l, t) (points_of (rows_in b.part)) c
    ∙ ap (λ o. or_else o (find point_cmp (l, t) c)) (none_in_part b.range floor t l b.part (not_below b.range.1 floor ends.0) high (All-head (λ (x : Shown). AreInside x.range x.part) b bs inside))
    ∙ none)

-- blocks whose ranges end by the floor have no sample from it on
pub below_by_ends : (floor : ℤ) (bs : List Shown) → EndBy floor (map part_in bs) → EachInside bs → AreBelow floor (map part_in bs)
below_by_ends floor bs ends inside = record { none = λ l t high. none_in_blocks floor t l bs [] high ends inside refl }

-- the greater of two times is a time
pub time_of_max : (r t m : ℤ) → r ≡ int_max t m → is_time t ≡ true → is_time m ≡ true → is_time r ≡ true
time_of_max r t m is e f = ap is_time is ∙ elim (int_lt m t) as (λ b. is_time (cond b t m) ≡ true) [ true ↦ e | false ↦ f ]

pub not_above : (m floor : ℤ) → int_lt floor m ≡ false → int_le m floor ≡ true
not_above m floor e = grind (arith, ints)

-- no range ends above the floor
pub ends_by : (floor from : ℤ) (bs : List Shown) → int_lt floor (end_after from bs) ≡ false → EndBy floor (map part_in bs)
ends_by floor from [] above = tt
ends_by floor from (b ∷ bs) above =
    let next = int_max from b.range.1 in (
      not_above b.range.1 floor (at_least b.range.1 (end_after next bs) floor (at_least b.range.1 next (end_after next bs) (greater_end from b.range.1) (from_time next bs)) above),
      ends_by floor next bs above,
    )

pub opening_is_sound : (blocks : List Shown) (copied : ℕ) → length blocks ≤ 63 → EachInside blocks → is_time (opening_floor (map part_in blocks)) ≡ true → IsSoundSnapshot (record { blocks = map part_in blocks; head = []; floor = opening_floor (map part_in blocks); copied = copied })
opening_is_sound blocks copied few inside time =
    let floor = opening_floor (map part_in blocks) in
    let ends : EndBy floor (map part_in blocks) = ends_by floor MIN_TIME blocks (subst (λ end. int_lt floor end ≡ false) (end_is MIN_TIME blocks) (self floor)) in
    record {
      few = subst (λ n. n ≤ 63) (sym (length-map blocks part_in)) few;
      time = time;
      ends = ends;
      head = tt;
      blocks = below_by_ends floor blocks ends inside;
    }
