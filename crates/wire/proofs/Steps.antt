-- Steps of a reading that did not fail, over any error.
use Rattle.std.proofs.Common.{◌≡◌, Bool, true, false, cond, List, ℕ, ◌++◌, Result, Ok, Err, refl}
use Rattle.std.proofs.Common.{subst}
use Rattle.std.specs.Prelude.{⊤, MatchBool}
use Rattle.wire.specs.Spelling.{IsBytes}
use Rattle.wire.specs.Outcome.{◌>>=◌, or_refused, Fails}
use Rattle.wire.proofs.Fields.{IsBytes-back}

-- the value of a step that did not fail
pub bind_ok : {A B E : Type 0} (r : Result A E) (f : A → Result B E) (y : B) → (r >>= f) ≡ Ok y
    → (x : A) × (r ≡ Ok x) × (f x ≡ Ok y)
bind_ok (Ok x) f y e = (x, refl, e)
bind_ok (Err d) f y e = absurd cc

pub refused_ok : {A E F : Type 0} (e : E) (r : Result A F) (x : A)
    → or_refused e r ≡ Ok x → r ≡ Ok x
refused_ok e (Ok y) x h = cc
refused_ok e (Err f) x h = absurd cc

-- a chain of two steps, seen as one
pub chain : {A B C E : Type 0} (r : Result A E) (f : A → Result B E) (g : B → Result C E)
    → (r >>= λ x. (f x >>= g)) ≡ ((r >>= f) >>= g)
chain (Ok x) f g = refl
chain (Err e) f g = refl

-- a test that had to hold, and one that had not to
pub passed : {A E : Type 0} (b : Bool) (d : E) (r : Result A E) (y : A) → cond b r (Err d) ≡ Ok y
    → (b ≡ true) × (r ≡ Ok y)
passed true d r y e = (refl, e)
passed false d r y e = absurd cc

pub not_failed : {A E : Type 0} (b : Bool) (d : E) (r : Result A E) (y : A)
    → cond b (Err d) r ≡ Ok y
    → (b ≡ false) × (r ≡ Ok y)
not_failed true d r y e = absurd cc
not_failed false d r y e = (refl, e)

abbrev pub value : {E A : Type 0} → A → Result A E
value a = Ok a

pub same_value : {E A : Type 0} (a b : A) → value {E = E} a ≡ value b → a ≡ b
same_value a b e = cc

-- what stands after a text is bytes too
pub rest_fits : (bytes text rest : List ℕ) → IsBytes bytes → bytes ≡ text ++ rest → IsBytes rest
rest_fits bytes text rest fits e = IsBytes-back text rest (subst IsBytes e fits)

not_ok : {A B E : Type 0} (is_memory : Bool) (e : E) (x : A) (whole : Result B E)
    → MatchBool is_memory ⊤ (value x ≡ Err e) → MatchBool is_memory ⊤ (whole ≡ Err e)
not_ok true e x whole f = tt
not_ok false e x whole f = absurd cc

abbrev refusal : {A E : Type 0} → E → Result A E
refusal e = Err e

same_error : {B E : Type 0} (A : Type 0) (is_memory : Bool) (e g : E) (whole : Result B E)
    → refusal g ≡ whole
    → MatchBool is_memory ⊤ (refusal {A = A} g ≡ Err e) → MatchBool is_memory ⊤ (whole ≡ Err e)
same_error A true e g whole h f = tt
same_error A false e g whole h f = cc

-- a call failed: the whole is no value then, or memory ran out
pub fails_on : {A B E : Type 0} (is_memory : E → Bool) (e : E) (read : Result A E)
    (next : A → Result B E) (whole : Result B E)
    → (read >>= next) ≡ whole → Fails is_memory e read → Fails is_memory e whole
fails_on {A} is_memory e (Ok x) next whole h f = not_ok (is_memory e) e x whole f
fails_on {A} is_memory e (Err g) next whole h f = same_error A (is_memory e) e g whole h f
