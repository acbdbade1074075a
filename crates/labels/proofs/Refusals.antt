-- What pairs are refused for.
use Rattle.std.proofs.Common.{◌≡◌, ℕ, ◌<◌, ◌≤◌, Bool, true, false, List, length, None, Some, refl, sym, ap, ◌∙◌, arith}
use Rattle.std.specs.Prelude.{nat_lt, IsPermutation}
use Rattle.std.proofs.lemmas.Bool.Decides.{Decides-ltb}
use Rattle.labels.specs.declared.error.LabelError.TheVariants.{BadName, Repeated, Limit}
use Rattle.labels.specs.Labels.{Labels, IsByName}
use Rattle.labels.specs.LabelSets.{are_named, repeats, with_values, refusal_of}
use Rattle.std.specs.declared.string.String.{String}
use Rattle.labels.specs.Pairs.{pairs_of}
use Rattle.labels.proofs.NamedPairs.{repeats-IsPermutation, length-with_values}

pub refusal-bad_name : (given : Labels) → are_named given ≡ false → refusal_of given ≡ Some BadName
refusal-bad_name given e = rw e refl

pub refusal-repeated : (given sorted : Labels) → are_named given ≡ true → IsPermutation given sorted → repeats sorted ≡ true → refusal_of given ≡ Some Repeated
refusal-repeated given sorted named same e = rw (named, sym (repeats-IsPermutation given sorted same) ∙ e) refl

pub refusal-limit : (given sorted kept : Labels) → are_named given ≡ true → IsPermutation given sorted → repeats sorted ≡ false → kept ≡ with_values sorted → 64 < length kept → refusal_of given ≡ Some Limit
refusal-limit given sorted kept named same once is many =
    let count : length kept ≡ length (with_values given) = ap length is ∙ length-with_values given sorted same in
    let above : nat_lt 64 (length (with_values given)) ≡ true = (Decides-ltb 64 (length (with_values given))).1 (omega (arith, count, many)) in
    rw (named, sym (repeats-IsPermutation given sorted same) ∙ once, above) refl

not_above : (n : ℕ) (b : Bool) → nat_lt 64 n ≡ b → n ≤ 64 → b ≡ false
not_above n false e le = refl
not_above n true e le = absurd (omega (arith, le, (Decides-ltb 64 n).0 e))

pub refusal-none : (given sorted kept : Labels) → are_named given ≡ true → IsPermutation given sorted → repeats sorted ≡ false → kept ≡ with_values sorted → length kept ≤ 64 → refusal_of given ≡ None
refusal-none given sorted kept named same once is few =
    let count : length kept ≡ length (with_values given) = ap length is ∙ length-with_values given sorted same in
    let within : nat_lt 64 (length (with_values given)) ≡ false = not_above (length (with_values given)) _ refl (omega (arith, count, few)) in
    rw (named, sym (repeats-IsPermutation given sorted same) ∙ once, within) refl

-- what was asked of the strings that a slice shows
pub named_of : {Z : Type 0} (given shown : List (String Z × String Z)) (r : Bool) → shown ≡ given → r ≡ are_named (pairs_of shown) → r ≡ true → are_named (pairs_of given) ≡ true
named_of given shown r e is named = rw (← e) (sym is ∙ named)

pub repeats_of : {Z : Type 0} (given shown : List (String Z × String Z)) (r b : Bool) → shown ≡ given → r ≡ repeats (pairs_of shown) → r ≡ b → repeats (pairs_of given) ≡ b
repeats_of given shown r b e is found = rw (← e) (sym is ∙ found)

pub by_name_of : {Z : Type 0} (given shown : List (String Z × String Z)) → shown ≡ given → IsByName (pairs_of shown) → IsByName (pairs_of given)
by_name_of given shown e h = rw (← e) h
