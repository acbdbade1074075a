-- Blocks side by side that lie in one window.
use Rattle.std.proofs.Common.{◌≡◌, ℕ, ◌+◌, ◌-◌, ◌≤◌}
use Rattle.std.proofs.Common.{◌<◌, List, length, take, drop, get_or, arith}
use Rattle.std.proofs.Common.{subst, sym, ap, ◌∙◌, add-zero}
use Rattle.std.specs.Prelude.{ℤ, pos, ◌+ℤ◌, ◌≤ℤ◌, ◌<ℤ◌, All, slice_get, Some}
use Rattle.std.proofs.lemmas.Int.{ints}
use Rattle.std.proofs.lemmas.List.{length-drop, length-take-le, get_or-take, get_or-drop}
use Rattle.std.proofs.lemmas.List.Elements.{All-get_or}
use Rattle.std.proofs.lemmas.Option.{slice_get-get_or, slice_get_within, get_or_from_slice_get}
use Rattle.join_schedule.specs.declared.blocks.Shape.{Shape}
use Rattle.join_schedule.specs.declared.blocks.Run.{Run}
use Rattle.join_schedule.specs.Blocks.{run_of}
use Rattle.join_schedule.specs.Windows.{IsMultiple, LiesIn, IsWindow}
use Rattle.join_schedule.proofs.Multiples.{not_before_next}
use Rattle.join_schedule.proofs.Sums.{no_block}

-- a block of a run
in_run : (P : Shape → Type 0) (blocks : List Shape) (at n k : ℕ) (d : Shape) → at + n ≤ length blocks
    → k < n → All P (take n (drop at blocks)) → P (get_or blocks (at + k) d)
in_run P blocks at n k d inside lt all =
    let left : length (drop at blocks) ≡ length blocks - at = length-drop at blocks in
    let long : length (take n (drop at blocks)) ≡ n =
    length-take-le n (drop at blocks) (omega (arith, left, inside)) in
    let here : P (get_or (take n (drop at blocks)) k d) =
    All-get_or P (take n (drop at blocks)) k d (omega (arith, long, lt)) all in
    subst P (get_or-take n (drop at blocks) k d lt ∙ get_or-drop at blocks k d) here

-- a block behind a place, seen from there
pub from_place : (blocks : List Shape) (at n : ℕ) (b : Shape) → slice_get blocks (at + n) ≡ Some b
    → slice_get (drop at blocks) n ≡ Some b
from_place blocks at n b is =
    let inside : at + n < length blocks = slice_get_within blocks (at + n) b is in
    let left : length (drop at blocks) ≡ length blocks - at = length-drop at blocks in
    slice_get-get_or (drop at blocks) n b (omega (arith, inside, left))
    ∙ ap (λ (x : Shape). Some x)
    (get_or-drop at blocks n b ∙ get_or_from_slice_get blocks (at + n) b b is)

-- where so many blocks from a place on have P and the next one has not, no more have
pub no_more : (P : Shape → Type 0) (blocks : List Shape) (at n m : ℕ) → at + n ≤ length blocks
    → All P (take n (drop at blocks))
    → ((b : Shape) → slice_get blocks (at + m) ≡ Some b → P b → ⊥) → m < n → ⊥
no_more P blocks at n m inside all behind lt =
    behind (get_or blocks (at + m) no_block)
    (slice_get-get_or blocks (at + m) no_block (omega (arith, inside, lt)))
    (in_run P blocks at n m no_block inside lt all)

first_lies : (floor : ℤ) (blocks : List Shape) (span : ℕ) (end : ℤ) (run : Run) (d : Shape)
    → IsWindow floor blocks span end run → LiesIn span end (get_or blocks run.at d)
first_lies floor blocks span end run d w =
    subst (λ (k : ℕ). LiesIn span end (get_or blocks k d)) (add-zero run.at)
    (in_run (LiesIn span end) blocks run.at run.count 0 d w.is_run.inside
    (omega (arith, w.is_run.several)) w.inside)

-- where the window of a block ends
end_is : (span : ℕ) (b : Shape) (end other : ℤ) → IsMultiple span end → b.from <ℤ end
    → end ≤ℤ (b.from +ℤ pos span) → IsMultiple span other → LiesIn span other b → end ≡ other
end_is span b end other of_end behind near of_other lies =
    let one : end ≤ℤ other =
    not_before_next span b.from end other of_end near of_other lies.before in
    let two : other ≤ℤ end =
    not_before_next span b.from other end of_other (omega (arith, ints, lies.begins)) of_end behind in
    omega (arith, ints, one, two)

-- where no window of a block is closed, none begins with it
pub none_closed : (floor : ℤ) (blocks : List Shape) (span at : ℕ) (d : Shape)
    → ((end : ℤ) → IsMultiple span end → (get_or blocks at d).from <ℤ end
    → end ≤ℤ ((get_or blocks at d).from +ℤ pos span) → end ≤ℤ floor → ⊥)
    → (end : ℤ) (run : Run) → run.at ≡ at → IsWindow floor blocks span end run → ⊥
none_closed floor blocks span at d none end run here w =
    let first : LiesIn span end (get_or blocks at d) =
    subst (λ (k : ℕ). LiesIn span end (get_or blocks k d)) here
    (first_lies floor blocks span end run d w) in
    none end w.multiple first.before (omega (arith, ints, first.begins)) w.closed

-- what is known of the blocks of a window makes it one
pub is_window : (floor : ℤ) (blocks rest : List Shape) (span at count : ℕ) (end : ℤ)
    → rest ≡ drop at blocks → at ≤ length blocks → IsMultiple span end → end ≤ℤ floor → 1 < count
    → count ≤ length rest → All (LiesIn span end) (take count rest)
    → ((before : ℕ) (b : Shape) → before + 1 ≡ at → slice_get blocks before ≡ Some b
    → LiesIn span end b → ⊥)
    → ((b : Shape) → slice_get blocks (at + count) ≡ Some b → LiesIn span end b → ⊥)
    → IsWindow floor blocks span end (record { at = at; count = count })
is_window floor blocks rest span at count end of_rest from multiple closed several few all before behind =
    let left : length (drop at blocks) ≡ length blocks - at = length-drop at blocks in
    let long : length rest ≡ length (drop at blocks) = ap length of_rest in
    record {
      multiple = multiple;
      closed = closed;
      is_run = record { several = several; inside = omega (arith, from, few, left, long) };
      inside =
          subst (λ (s : List Shape). All (LiesIn span end) (take count s)) of_rest all;
      before = before;
      behind = behind;
    }

-- the same of the rest
pub behind_rest : (blocks rest : List Shape) (span at count : ℕ) (end : ℤ) → rest ≡ drop at blocks
    → ((b : Shape) → slice_get rest count ≡ Some b → LiesIn span end b → ⊥) → (b : Shape)
    → slice_get blocks (at + count) ≡ Some b → LiesIn span end b → ⊥
behind_rest blocks rest span at count end of_rest none b is lies =
    none b
    (subst (λ (s : List Shape). slice_get s count ≡ Some b) (sym of_rest)
    (from_place blocks at count b is)) lies

pub within_rest : (blocks rest : List Shape) (at count : ℕ) → rest ≡ drop at blocks
    → at ≤ length blocks → count ≤ length rest → at + count ≤ length blocks
within_rest blocks rest at count of_rest from few =
    let left : length (drop at blocks) ≡ length blocks - at = length-drop at blocks in
    let long : length rest ≡ length (drop at blocks) = ap length of_rest in
    omega (arith, from, few, left, long)

pub same_blocks : (blocks : List Shape) (run other : Run) → other.at ≡ run.at
    → other.count ≡ run.count → run_of other blocks ≡ run_of run blocks
same_blocks blocks run other at count =
    ap (λ (n : ℕ). take other.count (drop n blocks)) at
    ∙ ap (λ (n : ℕ). take n (drop run.at blocks)) count

module _ (floor : ℤ) (blocks : List Shape) (span at : ℕ) (d : Shape) (end : ℤ)
    (of_end : IsMultiple span end) (behind : (get_or blocks at d).from <ℤ end)
    (near : end ≤ℤ ((get_or blocks at d).from +ℤ pos span)) where
  -- each window whose first block is there ends there
  pub same_end : (other : ℤ) (run : Run) → run.at ≡ at → IsWindow floor blocks span other run
      → end ≡ other
  same_end other run here w =
      end_is span (get_or blocks at d) end other of_end behind near w.multiple
      (subst (λ (k : ℕ). LiesIn span other (get_or blocks k d)) here
      (first_lies floor blocks span other run d w))

  pub none_begun : (before : ℕ) (b : Shape) → before + 1 ≡ at → slice_get blocks before ≡ Some b
      → LiesIn span end b → (other : ℤ) (run : Run) → run.at ≡ at
      → IsWindow floor blocks span other run → ⊥
  none_begun before b next is lies other run here w =
      w.before before b (next ∙ sym here) is
      (subst (λ (e : ℤ). LiesIn span e b) (same_end other run here w) lies)

  -- with so many blocks that lie in it, and none behind them
  module _ (count : ℕ)
      (none : (b : Shape) → slice_get blocks (at + count) ≡ Some b → LiesIn span end b → ⊥) where
    at_most : (other : ℤ) (run : Run) → run.at ≡ at → IsWindow floor blocks span other run
        → count < run.count → ⊥
    at_most other run here w lt =
        no_more (LiesIn span end) blocks run.at run.count count w.is_run.inside
        (subst (λ (e : ℤ). All (LiesIn span e) (run_of run blocks)) (sym (same_end other run here w))
        w.inside)
        (subst (λ (k : ℕ). (b : Shape) → slice_get blocks (k + count) ≡ Some b → LiesIn span end b → ⊥)
        (sym here) none) lt

    pub none_single : count ≤ 1 → (other : ℤ) (run : Run) → run.at ≡ at
        → IsWindow floor blocks span other run → ⊥
    none_single few other run here w =
        at_most other run here w (omega (arith, few, w.is_run.several))

    pub same_count : at + count ≤ length blocks → All (LiesIn span end) (take count (drop at blocks))
        → (other : ℤ) (run : Run) → run.at ≡ at → IsWindow floor blocks span other run
        → run.count ≡ count
    same_count inside all other run here w =
        let not_more : (count < run.count → ⊥) = at_most other run here w in
        let not_fewer : (run.count < count → ⊥) =
        no_more (LiesIn span end) blocks at count run.count inside all
        (subst (λ (e : ℤ). (b : Shape) → slice_get blocks (at + run.count) ≡ Some b
        → LiesIn span e b → ⊥) (sym (same_end other run here w))
        (subst (λ (k : ℕ). (b : Shape) → slice_get blocks (k + run.count) ≡ Some b
        → LiesIn span other b → ⊥) here w.behind)) in
        omega (arith, not_more, not_fewer)
