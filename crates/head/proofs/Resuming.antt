-- A head and a snapshot out of what was saved.
use Rattle.std.specs.Prelude.{◌≡◌, ◌≤◌, ◌<◌, ◌+◌, ℕ, ℤ, Bool, true, false, cond, not, ◌&&◌, T, List, [], ◌∷◌, ◌++◌, Option, None, Some, length, map, nat_le, int_lt, int_le, is_some, refl, slice_index_or, take}
use Rattle.std.specs.List.{All, list_all}
use Rattle.std.specs.Int.{int_max}
use Rattle.std.specs.Ordering.{int_cmp}
use Rattle.std.specs.FinMap.Entries.{find, is_sorted}
use Rattle.std.proofs.Common.{sym, ◌∙◌, ap, subst, arith}
use Rattle.std.proofs.lemmas.Bool.Decides.{nat_tests}
use Rattle.std.proofs.lemmas.Int.{ints}
use Rattle.std.proofs.lemmas.List.{length-map}
use Rattle.std.proofs.lemmas.List.Elements.{All-cons, All-nil}
use Rattle.labels.specs.Labels.{Labels, labels_cmp, same_labels}
use Rattle.labels.specs.Contents.{in_range, is_time}
use Rattle.labels.specs.declared.sample.TheConstants.{MAX_TIME, MIN_TIME}
use Rattle.labels.proofs.OrderLaws.{same_turn}
use Rattle.labels.proofs.Times.{both_T, first_T, second_T, T_of}
use Rattle.block.specs.Blocks.{Shown}
use Rattle.head.specs.Blocks.{part_in, opening_floor, EachInside}
use Rattle.head.specs.Heads.{BlockPart, HeadSeries, series_at, EndBy, IsSoundHead, IsSoundSeries, IsSoundSnapshot}
use Rattle.head.specs.Orders.{IsOrderOf}
use Rattle.head.specs.Resuming.{is_sound, may_have, resumed, Denies, MayJoin, MayStand, MayStandInHead}
use Rattle.head.specs.Taking.{place_from}
use Rattle.head.specs.declared.error.ResumeError.{ResumeError}
use Rattle.head.specs.declared.error.ResumeError.TheVariants.{Unsound, Memory}
use Rattle.head.proofs.Leaving.{sound_place}
use Rattle.head.proofs.Opening.{below_by_ends, end_after, end_is, ends_by, not_above, not_below}
use Rattle.head.proofs.Ordered.{absent_before, place_first}

true_of : (b : Bool) → T b → b ≡ true
true_of true h = refl
true_of false h = absurd h

false_of : (b : Bool) → not b ≡ true → b ≡ false
false_of true e = sym e
false_of false e = refl

and_left : (x y : Bool) → (x && y) ≡ true → x ≡ true
and_left true y h = refl
and_left false y h = absurd cc

and_right : (x y : Bool) → (x && y) ≡ true → y ≡ true
and_right true y h = h
and_right false y h = absurd cc

and_both : (x y : Bool) → x ≡ true → y ≡ true → (x && y) ≡ true
and_both true y a b = b
and_both false y a b = absurd cc

at_most : (n m : ℕ) → n ≤ m → nat_le n m ≡ true
at_most n m h = grind (arith, nat_tests)

few_of : (n m : ℕ) → nat_le n m ≡ true → n ≤ m
few_of n m h = grind (arith, nat_tests)

-- a refusal of what is asked for less denies what is asked for more
pub denies_more : (e : ResumeError) (P Q : Type 0) → (Q → P) → Denies e P → Denies e Q
denies_more Unsound P Q f denied = λ q. denied (f q)
denies_more Memory P Q f denied = tt

-- samples that pass two tests

all_both : (p q : ℤ × ℤ → Bool) (ss : List (ℤ × ℤ)) → T (list_all p ss) → T (list_all q ss) → T (list_all (λ s. p s && q s) ss)
all_both p q [] a b = tt
all_both p q (s ∷ ss) a b =
    both_T (p s && q s) (list_all (λ e. p e && q e) ss)
    (both_T (p s) (q s) (first_T (p s) (list_all p ss) a) (first_T (q s) (list_all q ss) b))
    (all_both p q ss (second_T (p s) (list_all p ss) a) (second_T (q s) (list_all q ss) b))

all_first : (p q : ℤ × ℤ → Bool) (ss : List (ℤ × ℤ)) → T (list_all (λ s. p s && q s) ss) → T (list_all p ss)
all_first p q [] h = tt
all_first p q (s ∷ ss) h = both_T _ _ (first_T (p s) (q s) (first_T _ _ h)) (all_first p q ss (second_T _ _ h))

all_second : (p q : ℤ × ℤ → Bool) (ss : List (ℤ × ℤ)) → T (list_all (λ s. p s && q s) ss) → T (list_all q ss)
all_second p q [] h = tt
all_second p q (s ∷ ss) h = both_T _ _ (second_T (p s) (q s) (first_T _ _ h)) (all_second p q ss (second_T _ _ h))

-- the tests of a series tell whether it is sound

pub sound_series : (floor : ℤ) (h : HeadSeries) → is_sound floor h ≡ true → IsSoundSeries floor h
sound_series floor h passed =
    let few = nat_le (length h.samples) 1048576 in
    let up = is_sorted int_cmp h.samples in
    let inside = list_all (λ (s : ℤ × ℤ). in_range floor h.newest.0 s.0) h.samples in
    let two : (few && up) ≡ true = and_left (few && up) inside passed in
    let within : T (list_all (λ (s : ℤ × ℤ). not (int_lt s.0 floor) && not (int_lt h.newest.0 s.0)) h.samples) = T_of inside (and_right (few && up) inside passed) in
    record {
      few = few_of (length h.samples) 1048576 (and_left few up two);
      ascending = T_of up (and_right few up two);
      above = all_first (λ (s : ℤ × ℤ). not (int_lt s.0 floor)) (λ (s : ℤ × ℤ). not (int_lt h.newest.0 s.0)) h.samples within;
      upto = all_second (λ (s : ℤ × ℤ). not (int_lt s.0 floor)) (λ (s : ℤ × ℤ). not (int_lt h.newest.0 s.0)) h.samples within;
    }

pub sound_passes : (floor : ℤ) (h : HeadSeries) → IsSoundSeries floor h → is_sound floor h ≡ true
sound_passes floor h sound =
    let few = nat_le (length h.samples) 1048576 in
    let up = is_sorted int_cmp h.samples in
    let inside = list_all (λ (s : ℤ × ℤ). in_range floor h.newest.0 s.0) h.samples in
    and_both (few && up) inside
    (and_both few up (at_most (length h.samples) 1048576 sound.few) (true_of up sound.ascending))
    (true_of inside (all_both (λ (s : ℤ × ℤ). not (int_lt s.0 floor)) (λ (s : ℤ × ℤ). not (int_lt h.newest.0 s.0)) h.samples sound.above sound.upto))

-- the tests of a series beside others

absent_of : (o : Option ℕ) → not (is_some o) ≡ true → o ≡ None
absent_of None h = refl
absent_of (Some n) h = absurd cc

passes_absent : (o : Option ℕ) → o ≡ None → not (is_some o) ≡ true
passes_absent o e = ap (λ (p : Option ℕ). not (is_some p)) e

pub joins : (floor : ℤ) (head : List HeadSeries) (order : List (Labels × ℕ)) (h : HeadSeries) → IsOrderOf order head → (is_sound floor h && not (is_some (find labels_cmp h.labels order))) ≡ true → MayJoin floor head h
joins floor head order h ordered passed =
    let sound = is_sound floor h in
    let free = not (is_some (find labels_cmp h.labels order)) in
    record {
      sound = sound_series floor h (and_left sound free passed);
      absent = sym (ordered.placed h.labels) ∙ absent_of (find labels_cmp h.labels order) (and_right sound free passed);
    }

pub joining_passes : (floor : ℤ) (head : List HeadSeries) (order : List (Labels × ℕ)) (h : HeadSeries) → IsOrderOf order head → MayJoin floor head h → (is_sound floor h && not (is_some (find labels_cmp h.labels order))) ≡ true
joining_passes floor head order h ordered may =
    and_both (is_sound floor h) (not (is_some (find labels_cmp h.labels order))) (sound_passes floor h may.sound)
    (passes_absent (find labels_cmp h.labels order) (ordered.placed h.labels ∙ may.absent))

-- each series of a sound head may join those before it
pub each_joins : (floor : ℤ) (hs : List HeadSeries) (i : ℕ) (d : HeadSeries) → i < length hs → IsSoundHead floor hs → MayJoin floor (take i hs) (slice_index_or hs i d)
each_joins floor hs i d inside sound = record {
  sound = sound_place floor hs i d inside sound;
  absent = absent_before floor 0 hs i d sound inside;
}

-- a sound head with one series more

series_more : (l : Labels) (head : List HeadSeries) (h : HeadSeries) → series_at l head ≡ None → same_labels l h.labels ≡ false → series_at l (head ++ h ∷ []) ≡ None
series_more l [] h none other = ap (λ b. cond b (Some h) None) other
series_more l (x ∷ xs) h none other =
    elim (same_labels l x.labels) as (λ b. cond b (Some x) (series_at l xs) ≡ None → cond b (Some x) (series_at l (xs ++ h ∷ [])) ≡ None) [
      | true ↦ λ e. e
      | false ↦ λ e. series_more l xs h e other
    ] none

sound_more : (floor : ℤ) (n : ℕ) (head : List HeadSeries) (h : HeadSeries) → IsSoundHead floor head → IsSoundSeries floor h → place_from h.labels n head ≡ None → IsSoundHead floor (head ++ h ∷ [])
sound_more floor n [] h sound one absent = (one, refl, tt)
sound_more floor n (x ∷ xs) h sound one absent =
    let both = place_first (same_labels h.labels x.labels) n (place_from h.labels (n + 1) xs) absent in (
      sound.0,
      series_more x.labels xs h sound.1 (same_turn x.labels h.labels ∙ both.0),
      sound_more floor (n + 1) xs h sound.2 one both.1,
    )

pub sound_joined : (floor : ℤ) (head : List HeadSeries) (h : HeadSeries) → IsSoundHead floor head → MayJoin floor head h → IsSoundHead floor (head ++ h ∷ [])
sound_joined floor head h sound may = sound_more floor 0 head h sound may.sound may.absent

-- the tests of blocks

lesser : (a b c : ℤ) → int_le a c ≡ true → int_le b c ≡ true → int_le (int_max a b) c ≡ true
lesser a b c e f = grind (arith, ints)

end_by : (floor from : ℤ) (bs : List Shown) → int_le from floor ≡ true → EndBy floor (map part_in bs) → int_le (end_after from bs) floor ≡ true
end_by floor from [] low ends = low
end_by floor from (b ∷ bs) low ends = end_by floor (int_max from b.range.1) bs (lesser from b.range.1 floor low ends.0) ends.1

pub stands : (floor : ℤ) (blocks : List Shown) (head : List HeadSeries) → EachInside blocks → may_have floor blocks ≡ true → IsSoundHead floor head → IsSoundSnapshot (resumed (map part_in blocks) floor head)
stands floor blocks head inside passed sound =
    let few = nat_le (length blocks) 63 in
    let time = is_time floor in
    let above = int_le (opening_floor (map part_in blocks)) floor in
    let two : (few && time) ≡ true = and_left (few && time) above passed in
    let end : int_lt floor (end_after MIN_TIME blocks) ≡ false = not_below (end_after MIN_TIME blocks) floor (ap (λ e. int_le e floor) (sym (end_is MIN_TIME blocks)) ∙ and_right (few && time) above passed) in
    let ends : EndBy floor (map part_in blocks) = ends_by floor MIN_TIME blocks end in
    record {
      few = subst (λ n. n ≤ 63) (sym (length-map blocks part_in)) (few_of (length blocks) 63 (and_left few time two));
      time = and_right few time two;
      ends = ends;
      head = sound;
      blocks = below_by_ends floor blocks ends inside;
    }

pub standing_passes : (floor : ℤ) (blocks : List Shown) (head : List HeadSeries) → IsSoundSnapshot (resumed (map part_in blocks) floor head) → may_have floor blocks ≡ true
standing_passes floor blocks head sound =
    let few = nat_le (length blocks) 63 in
    let time = is_time floor in
    let timed : (not (int_lt floor MIN_TIME) && not (int_lt MAX_TIME floor)) ≡ true = sound.time in
    let low : int_le MIN_TIME floor ≡ true = not_above MIN_TIME floor (false_of (int_lt floor MIN_TIME) (and_left (not (int_lt floor MIN_TIME)) (not (int_lt MAX_TIME floor)) timed)) in
    and_both (few && time) (int_le (opening_floor (map part_in blocks)) floor)
    (and_both few time (at_most (length blocks) 63 (subst (λ n. n ≤ 63) (length-map blocks part_in) sound.few)) sound.time)
    (ap (λ e. int_le e floor) (end_is MIN_TIME blocks) ∙ end_by floor MIN_TIME blocks low sound.ends)

pub head_stands : (blocks : List BlockPart) (floor : ℤ) (head : List HeadSeries) → MayStand (resumed blocks floor head) → MayStandInHead floor head
head_stands blocks floor head may = record { sound = may.sound.head; few = may.few }

-- each series of a sound head has few samples
pub few_each : (floor : ℤ) (hs : List HeadSeries) → IsSoundHead floor hs → All (λ (h : HeadSeries). length h.samples ≤ 1048576) hs
few_each floor [] sound = All-nil (λ (h : HeadSeries). length h.samples ≤ 1048576)
few_each floor (h ∷ hs) sound =
    All-cons (λ (x : HeadSeries). length x.samples ≤ 1048576) h hs sound.0.few (few_each floor hs sound.2)
