-- Numbers that are read are below 2^63 in size.
use Rattle.std.proofs.Common.{◌≡◌, ℕ, zero, suc, ◌+◌, ◌<◌, ◌^◌, Bool, true, false, List}
use Rattle.std.proofs.Common.{Option, None, Some, Result, Ok, Err, refl, subst, inl, inr}
use Rattle.std.specs.Prelude.{unsigned_abs, option_and_then}
use Rattle.std.proofs.lemmas.Bool.{cases_Bool}
use Rattle.decimal_text.specs.declared.error.DecimalError.{DecimalError}
use Rattle.decimal_text.specs.declared.error.DecimalError.TheVariants.{Form, Finer, Large}
use Rattle.decimal_text.specs.declared.rounding.Nearest.{Nearest}
use Rattle.decimal_text.proofs.NearestParts.{nearest_small}
use Rattle.open_metrics.specs.declared.numbers.Value.{Value}
use Rattle.open_metrics.specs.declared.numbers.Value.TheVariants.{Parts, Near, Other}
use Rattle.open_metrics.specs.declared.tokens.Class.TheVariants.{Mantissa}
use Rattle.open_metrics.specs.Numbers.{exponent_at, is_minus, is_special, number_at, of_nearest}
use Rattle.open_metrics.specs.Numbers.{scaled_at, signed_at, unsigned_of, value_of, with_sign}
use Rattle.open_metrics.specs.Tokens.{behind, front}

abbrev pub IsSmall : Value → Type 0
IsSmall (Parts v) = unsigned_abs v < 2 ^ 63
IsSmall (Near v) = unsigned_abs v < 2 ^ 63
IsSmall Other = Unit {0}

same_some : (a b : Value) → Some a ≡ Some b → a ≡ b
same_some a b e = cc

sign_small : (minus : Bool) (n : ℕ) → n < 2 ^ 63 → unsigned_abs (with_sign minus n) < 2 ^ 63
sign_small true zero lt = lt
sign_small true (suc n) lt = lt
sign_small false n lt = lt

nearest_in : (minus : Bool) (n : Nearest) → n.size < 2 ^ 63 → IsSmall (of_nearest minus n)
nearest_in minus n lt =
    elim (cases_Bool n.exact) [
      | inl e ↦ rw e (sign_small minus n.size lt)
      | inr e ↦ rw e (sign_small minus n.size lt)
    ]

value_in : (minus : Bool) (r : Result Nearest DecimalError) (v : Value)
    → ((n : Nearest) → r ≡ Ok n → n.size < 2 ^ 63) → value_of minus r ≡ Some v → IsSmall v
value_in minus (Ok n) v small h =
    subst IsSmall (same_some (of_nearest minus n) v h) (nearest_in minus n (small n refl))
value_in minus (Err Form) v small h = absurd cc
value_in minus (Err Finer) v small h = subst IsSmall (same_some Other v h) tt
value_in minus (Err Large) v small h = subst IsSmall (same_some Other v h) tt

scaled_small : (mantissa : List ℕ) (places e : ℕ) (down : Bool) (n : Nearest)
    → scaled_at mantissa places down e ≡ Ok n → n.size < 2 ^ 63
unfolding scaled_at
scaled_small mantissa places e true n h = nearest_small mantissa places e n h
scaled_small mantissa places e false n h = nearest_small mantissa (places + e) 0 n h

and_then_some : {A B : Type 0} (f : A → Option B) (o : Option A) (b : B)
    → option_and_then f o ≡ Some b → (a : A) × (f a ≡ Some b)
and_then_some f (Some a) b h = (a, h)
and_then_some f None b h = absurd cc

signed_small : (text : List ℕ) (places : ℕ) (v : Value) → signed_at text places ≡ Some v
    → IsSmall v
unfolding signed_at
signed_small text places v h =
    let body = unsigned_of text in
    let mantissa = front Mantissa body in
    let x = and_then_some _ (exponent_at (behind Mantissa body)) v h in
    value_in (is_minus text) (scaled_at mantissa places x.0.0 x.0.1) v
    (λ n e. scaled_small mantissa places x.0.1 x.0.0 n e) x.1

pub number_small : (text : List ℕ) (places : ℕ) (v : Value) → number_at text places ≡ Some v
    → IsSmall v
unfolding number_at
number_small text places v h =
    elim (cases_Bool (is_special text)) [
      | inl e ↦ subst IsSmall (same_some Other v (rw e at h)) tt
      | inr e ↦ signed_small text places v (rw e at h)
    ]
