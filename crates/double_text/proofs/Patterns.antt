-- The bits of a double that is no NaN.
use Rattle.std.proofs.Common.{◌≡◌, ℕ, ◌*◌, ◌^◌, ◌%◌, ◌<◌, ◌≤◌, Bool, true, false, not, List, Option, Some}
use Rattle.std.proofs.Common.{Vec, Global, Result, Ok, Err, IfOk, sym, ap, refl, subst, ◌∙◌, T, nat_lt, arith}
use Rattle.std.specs.Prelude.{option_map, is_nan, to_bits}
use Rattle.std.specs.Float.{Float, binary64}
use Rattle.std.specs.Float.Ieee.{of_bits, nan_bits}
use lib.Ieee.Bits.{to_bits-of_bits, nan_bits_is}
use Rattle.std.proofs.lemmas.Float.{not_nan_f64_bits}
use Rattle.fast_float.specs.Parse.{parse_float}
use Rattle.double_text.specs.Texts.{bits_of, double_at, is_nan_bits}

is_false : (b : Bool) → T (not b) → b ≡ false
is_false true t = absurd t
is_false false t = refl

not_above : (a b : ℕ) → nat_lt a b ≡ false → b ≤ a
not_above a b e = grind arith

pub no_nan : (bits : ℕ) → is_nan_bits bits ≡ false → T (not (nan_bits binary64 bits))
no_nan bits e =
    not_nan_f64_bits bits (not_above 0x7ff0_0000_0000_0000 (bits % 0x8000_0000_0000_0000) e)

same_bits : (bits : ℕ) → bits < 2 ^ 64 → is_nan_bits bits ≡ false
    → bits_of (of_bits binary64 bits) ≡ bits
same_bits bits lt e =
    let number = subst (λ (b : Bool). T (not b)) (nan_bits_is binary64 bits) (no_nan bits e) in
    let is_number = is_false (is_nan (of_bits binary64 bits)) number in
    rw is_number (to_bits-of_bits binary64 bits lt number)

-- a text that is read as a double gives its bits
read_again : (bits : ℕ) (text : List ℕ) → bits < 2 ^ 64 → is_nan_bits bits ≡ false
    → parse_float binary64 text ≡ Some (of_bits binary64 bits) → double_at text ≡ Some bits
read_again bits text lt e p =
    ap (λ (o : Option Float). option_map bits_of o) p
    ∙ ap (λ (n : ℕ). Some n) (same_bits bits lt e)

-- so does its copy
pub copied : {E : Type 0} (bits : ℕ) (text items : List ℕ) (r : Result (Vec ℕ Global) E)
    → bits < 2 ^ 64 → is_nan_bits bits ≡ false
    → parse_float binary64 text ≡ Some (of_bits binary64 bits) → items ≡ text
    → IfOk r (λ v. v.items ≡ items) → IfOk r (λ v. double_at v.items ≡ Some bits)
copied bits text items (Ok v) lt e p is same =
    subst (λ (t : List ℕ). double_at t ≡ Some bits) (sym (same ∙ is)) (read_again bits text lt e p)
copied bits text items (Err x) lt e p is same = tt
