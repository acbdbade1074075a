use Rattle.std.proofs.Common.{refl, ◌≡◌, ℕ, ◌<◌, ◌≤◌, List, length, get_or, drop, ap, sym, ◌∙◌}
use Rattle.std.proofs.Common.{arith}
use Rattle.std.specs.Prelude.{slice_get, Option, Some, None}
use Rattle.std.specs.List.Sorted.{IsStrictlyIncreasing}
use Rattle.labels.specs.Ascending.{not_below, first_or_end}
use Rattle.labels.proofs.Lists.{rising-drop}
use Rattle.block.proofs.Places.{not_below_at, first_at, stays_at, read_first, none_stays}
use Rattle.block.proofs.raw_list.RawListPostings.seek.Goals as goal

sought : (refs read found old : List ℕ) (from at target : ℕ) → read ≡ refs → found ≡ read
    → drop from refs ≡ old → IsStrictlyIncreasing refs → from ≤ at → at ≤ length read
    → ((k : ℕ) → from ≤ k → k < at → get_or read k 0 < target)
    → (at < length read → target ≤ get_or read at 0) → drop at found ≡ not_below target old
sought refs read found old from at target e f v up le fits below above =
    let up2 : IsStrictlyIncreasing read = rw e up in
    ap (drop at) f
    ∙ not_below_at read from at target up2 le fits below above
    ∙ ap (λ (xs : List ℕ). not_below target (drop from xs)) e
    ∙ ap (not_below target) v

pub returns-then-number-clause-list : goal.returns-then-number-clause-list
returns-then-number-clause-list c =
    let s = c.place_of-at.ensures in
    sought c.args.self.now.entries.0 _ _ _ c.args.self.now.at c.place_of-at.result.0 c.args.target
    refl s.same refl c.args.self.now.placed.increasing s.place.0 s.place.1 s.below s.above

ended : (refs found : List ℕ) (at target : ℕ) (head : Option ℕ) → found ≡ refs
    → head ≡ slice_get refs at → head ≡ None → drop at found ≡ not_below target (drop at refs)
ended refs found at target head f h none =
    ap (drop at) f ∙ none_stays (drop at refs) target (first_at refs at ∙ sym h ∙ none)

pub returns-in_default-clause-list : goal.returns-in_default-clause-list
returns-in_default-clause-list c =
    ended c.args.self.now.entries.0 c.args.self.now.entries.0 c.args.self.now.at c.args.target
    c.args.self.now.head refl c.args.self.now.placed.head_is c.in_default.is

first_kept : (refs : List ℕ) (at value : ℕ) (head : Option ℕ) → head ≡ slice_get refs at
    → head ≡ Some value → first_or_end (drop at refs) ≡ value
first_kept refs at value head h some =
    read_first (drop at refs) value (first_at refs at ∙ sym h ∙ some)

pub returns-then-number-clause-still : goal.returns-then-number-clause-still
returns-then-number-clause-still c =
    let e : first_or_end (drop c.args.self.now.at c.args.self.now.entries.0) ≡ c.in-Some.head =
    first_kept c.args.self.now.entries.0 c.args.self.now.at c.in-Some.head c.args.self.now.head
    c.args.self.now.placed.head_is c.in-Some.is in
    λ h. absurd (omega arith)

stayed : (refs found : List ℕ) (at target value : ℕ) (head : Option ℕ) → found ≡ refs
    → IsStrictlyIncreasing refs → head ≡ slice_get refs at → head ≡ Some value → target ≤ value
    → drop at found ≡ not_below target (drop at refs)
stayed refs found at target value head f up h some le =
    let e : first_or_end (drop at refs) ≡ value = first_kept refs at value head h some in
    ap (drop at) f ∙ stays_at (drop at refs) target (rising-drop refs at up) (omega arith)

pub returns-else-number-clause-list : goal.returns-else-number-clause-list
returns-else-number-clause-list c =
    stayed c.args.self.now.entries.0 c.args.self.now.entries.0 c.args.self.now.at c.args.target
    c.in-Some.head c.args.self.now.head refl c.args.self.now.placed.increasing
    c.args.self.now.placed.head_is c.in-Some.is (omega arith)
