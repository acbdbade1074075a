-- A double has one number of parts at most, and it is found by its whole number or its decimal.
use Rattle.std.proofs.Common.{◌≡◌, inl, inr, ℕ, ◌^◌, ◌<◌, ◌*ℤ◌, pos, negsuc, ℤ, Option, Some}
use Rattle.std.proofs.Common.{None}
use Rattle.std.proofs.Common.{IfSome, sym, ap, subst, ◌∙◌, to_z, of_z, w64, arith}
use Rattle.std.proofs.lemmas.Int.{ints, to_z-of_z}
use Rattle.std.specs.Prelude.{unsigned_abs}
use Rattle.doubles.specs.Double.{IsWhole}
use Rattle.doubles.specs.Decimal.{IsDecimal}
use Rattle.doubles.specs.Rounded.{IsRounded}
use Rattle.imported_values.specs.declared.policy.Verdict.TheVariants.{Rounded}
use Rattle.imported_values.specs.Values.{IsExact, IsNearestParts}

-- of a whole number
pub found_whole : (digits bits : ℕ) (n : ℤ) → IsWhole bits n → unsigned_abs n < 2 ^ 63
    → (r : Option ℤ) → IfSome r (λ v. v ≡ n *ℤ pos (10 ^ digits))
    → IfSome r (λ v. unsigned_abs v < 2 ^ 63) → IfSome r (IsExact digits bits)
found_whole digits bits n whole small (Some v) is fits =
    inl (record { number = n; whole = whole; small = small; is = is; fits = fits })
found_whole digits bits n whole small None is fits = tt

-- of another double
pub found_fraction : (digits bits : ℕ)
    → ((n : ℤ) → unsigned_abs n < 2 ^ 63 → IsWhole bits n → ⊥)
    → (r : Option ℤ) → IfSome r (IsDecimal bits digits)
    → IfSome r (λ v. unsigned_abs v < 10 ^ 15) → IfSome r (IsExact digits bits)
found_fraction digits bits not_whole (Some v) nearest fits =
    inr (record { not_whole = not_whole; nearest = nearest; fits = fits })
found_fraction digits bits not_whole None nearest fits = tt

pub some_same : (a b : ℤ) → Some a ≡ Some b → a ≡ b
some_same a b e = cc

pub rounded_same : (a b : ℤ) → Rounded a ≡ Rounded b → a ≡ b
rounded_same a b e = cc

-- what is rounded is the nearest
pub nearest_parts : (digits given bits : ℕ) (v : ℤ) → given ≡ digits → IsRounded bits given v
    → unsigned_abs v < 2 ^ 63 → IsNearestParts digits bits v
nearest_parts digits given bits v same nearest fits = record {
  nearest = subst (λ (d : ℕ). IsRounded bits d v) same nearest;
  fits = fits;
}

pub none_not : (v : ℤ) → None ≡ Some v → ⊥
none_not v e = absurd cc

-- of a whole number no other is exact
pub only_whole : (digits bits : ℕ) (n : ℤ)
    → ((v : ℤ) → unsigned_abs v < 2 ^ 63 → IsWhole bits v → Some n ≡ Some v)
    → IsWhole bits n → unsigned_abs n < 2 ^ 63
    → (r : Option ℤ) → (unsigned_abs (n *ℤ pos (10 ^ digits)) < 2 ^ 63
    → r ≡ Some (n *ℤ pos (10 ^ digits)))
    → (v : ℤ) → IsExact digits bits v → r ≡ Some v
only_whole digits bits n one whole small r only v (inl w) =
    let same : n ≡ w.number = some_same n w.number (one w.number w.small w.whole) in
    let is : v ≡ n *ℤ pos (10 ^ digits) =
    w.is ∙ ap (λ (x : ℤ). x *ℤ pos (10 ^ digits)) (sym same) in
    let fits : unsigned_abs (n *ℤ pos (10 ^ digits)) < 2 ^ 63 =
    subst (λ (x : ℤ). unsigned_abs x < 2 ^ 63) is w.fits in
    only fits ∙ ap (λ (x : ℤ). Some x) (sym is)
only_whole digits bits n one whole small r only v (inr f) = absurd (f.not_whole n small whole)

-- of another double
pub only_fraction : (digits bits : ℕ)
    → ((v : ℤ) → unsigned_abs v < 2 ^ 63 → IsWhole bits v → None ≡ Some v)
    → (r : Option ℤ)
    → ((v : ℤ) → unsigned_abs v < 10 ^ 15 → IsDecimal bits digits v → r ≡ Some v)
    → (v : ℤ) → IsExact digits bits v → r ≡ Some v
only_fraction digits bits none r only v (inl w) =
    absurd (none_not w.number (none w.number w.small w.whole))
only_fraction digits bits none r only v (inr f) = only v f.fits f.nearest

-- a number that is passed on stays the same
pub passed_on : (n : ℤ) → unsigned_abs n < 2 ^ 63 → to_z w64 (of_z w64 n) ≡ n
passed_on (pos k) small = to_z-of_z w64 (pos k) (record { sfits = omega (arith, ints) })
passed_on (negsuc k) small = to_z-of_z w64 (negsuc k) (record { sfits = omega (arith, ints) })
