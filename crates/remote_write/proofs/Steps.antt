-- Refusals, within a field and of the whole.
use Rattle.std.proofs.Common.{◌≡◌, ℕ, ◌+◌, Result, Ok, Err, refl, ap, ◌∙◌}
use Rattle.wire.specs.Outcome.{Fails}
use Rattle.protobuf_fields.specs.declared.error.Fault.{Fault}
use Rattle.protobuf_fields.specs.Reading.{Refusal}
use Rattle.remote_write.specs.declared.error.ReadError.{ReadError}
use Rattle.remote_write.specs.declared.error.ReadError.TheVariants as errors
use Rattle.remote_write.specs.Reading.{is_memory, or_error, behind}

refused_is : {A : Type 0} (r : Result A Refusal) (f : Fault) (left : ℕ) → or_error r ≡ Err (errors.Fault f left)
    → (x : Refusal) × (r ≡ Err x) × (x.0 ≡ f) × (x.1 ≡ left)
refused_is (Ok y) f left e = absurd cc
refused_is (Err x) f left e = (x, refl, cc, cc)

pub fails_behind : {A B : Type 0} (after : ℕ) (e : ReadError) (r : Result A Refusal) (whole : Result B Refusal) → Fails is_memory e (or_error r)
    → ((x : Refusal) → r ≡ Err x → whole ≡ Err (x.0, x.1 + after)) → Fails is_memory (behind after e) (or_error whole)
fails_behind after errors.Memory r whole h lead = tt
fails_behind {A} {B} after (errors.Fault f left) r whole h lead =
    let x = refused_is r f left h in
    ap (or_error {A = B}) (lead x.0 x.1) ∙ ap (λ (g : Fault). Err (errors.Fault g (x.0.1 + after))) x.2 ∙ ap (λ (n : ℕ). Err (errors.Fault f (n + after))) x.3

value_is : {A : Type 0} (r : Result A Refusal) (x : A) → or_error r ≡ Ok x → r ≡ Ok x
value_is (Ok y) x e = cc
value_is (Err f) x e = absurd cc

pub given : {A : Type 0} (r : Result A Refusal) (x : A) → or_error r ≡ Ok x → r ≡ Ok x
given r x e = value_is r x e
