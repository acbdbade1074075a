-- A message that is read is its fields, and its fields are read.
use Rattle.std.proofs.Common.{◌≡◌, ℕ, zero, suc, ◌+◌, ◌-◌, ◌<◌, ◌≤◌, Bool, true, false, cond, List, [], ◌∷◌, ◌++◌, length, Result, Ok, Err, refl, sym, ap, subst, ◌∙◌, inl, inr, arith, length-append}
use Rattle.std.proofs.lemmas.List.{nil_from_length, get_or_append_left, get_or_past}
use Rattle.std.proofs.lemmas.Bool.{cases_lt}
use Rattle.wire.specs.Outcome.{◌>>=◌}
use Rattle.wire.specs.Spelling.{IsBytes}
use Rattle.protobuf_fields.specs.declared.error.Fault.{Fault}
use Rattle.protobuf_fields.specs.declared.error.Fault.TheVariants.{Unexpected}
use Rattle.protobuf_fields.specs.Format.{Value, Number, Eight, Text, Four, number_of, kind_of, IsBody, IsField, AreFields, AreKnown}
use Rattle.protobuf_fields.specs.Reading.{Refusal, placed, moved, field_at, known_at, message_at}
use Rattle.protobuf_fields.proofs.Fields.{bind_ok, field_took, field_again, some_bytes, IsBytes-back}

-- what fields make of a value, step by step
abbrev pub Steps : {A : Type 0} → (A → Value → Result A Refusal) → A → List Value → A → Type 0
Steps step a [] b = a ≡ b
Steps {A} step a (v ∷ vs) b = (c : A) × (step a v ≡ Ok c) × Steps step c vs b

pub one_more : {A : Type 0} (allows : ℕ → ℕ → Bool) (step : A → Value → Result A Refusal) (most : ℕ) (a : A) (bytes : List ℕ) → 0 < length bytes
    → message_at allows step (suc most) a bytes
    ≡ (placed (length bytes) (known_at allows bytes) >>= λ x. moved (length x.1) (step a x.0) >>= λ c. message_at allows step most c x.1)
unfolding message_at
one_more allows step most a [] some = absurd (omega arith)
one_more allows step most a (b ∷ rest) some = refl

no_more : {A : Type 0} (allows : ℕ → ℕ → Bool) (step : A → Value → Result A Refusal) (most : ℕ) (a : A) → message_at allows step most a [] ≡ Ok a
unfolding message_at
no_more allows step zero a = refl
no_more allows step (suc most) a = refl

pub ends : {A : Type 0} (allows : ℕ → ℕ → Bool) (step : A → Value → Result A Refusal) (most : ℕ) (a : A) (bytes : List ℕ) → length bytes ≡ 0
    → message_at allows step most a bytes ≡ Ok a
ends allows step most a bytes e = ap (message_at allows step most a) (nil_from_length bytes e) ∙ no_more allows step most a

-- the same at any bound that is enough
pub next : {A : Type 0} (allows : ℕ → ℕ → Bool) (step : A → Value → Result A Refusal) (most : ℕ) (a : A) (bytes : List ℕ) → 0 < length bytes → length bytes ≤ most
    → message_at allows step most a bytes
    ≡ (placed (length bytes) (known_at allows bytes) >>= λ x. moved (length x.1) (step a x.0) >>= λ c. message_at allows step (most - 1) c x.1)
next allows step most a bytes some le =
    let e : suc (most - 1) ≡ most = omega arith in
    subst (λ (k : ℕ). message_at allows step k a bytes ≡ (placed (length bytes) (known_at allows bytes) >>= λ x. moved (length x.1) (step a x.0) >>= λ c. message_at allows step (most - 1) c x.1)) e
    (one_more allows step (most - 1) a bytes some)

-- a field that cannot be read or is not of its kind
pub refused : {A : Type 0} (allows : ℕ → ℕ → Bool) (step : A → Value → Result A Refusal) (most : ℕ) (a : A) (bytes : List ℕ) (f : Fault) → 0 < length bytes → length bytes ≤ most
    → known_at allows bytes ≡ Err f → message_at allows step most a bytes ≡ Err (f, length bytes)
refused allows step most a bytes f some le e =
    next allows step most a bytes some le
    ∙ ap (λ (r : Result (Value × List ℕ) Fault). placed (length bytes) r >>= λ x. moved (length x.1) (step a x.0) >>= λ c. message_at allows step (most - 1) c x.1) e

-- a field that is read
pub taken : {A : Type 0} (allows : ℕ → ℕ → Bool) (step : A → Value → Result A Refusal) (most : ℕ) (a : A) (bytes : List ℕ) (x : Value × List ℕ) → 0 < length bytes → length bytes ≤ most
    → known_at allows bytes ≡ Ok x → message_at allows step most a bytes ≡ (moved (length x.1) (step a x.0) >>= λ c. message_at allows step (most - 1) c x.1)
taken allows step most a bytes x some le e =
    next allows step most a bytes some le
    ∙ ap (λ (r : Result (Value × List ℕ) Fault). placed (length bytes) r >>= λ x. moved (length x.1) (step a x.0) >>= λ c. message_at allows step (most - 1) c x.1) e

-- and makes something of the value
pub goes_on : {A : Type 0} (allows : ℕ → ℕ → Bool) (step : A → Value → Result A Refusal) (most : ℕ) (a c : A) (bytes : List ℕ) (x : Value × List ℕ) → 0 < length bytes → length bytes ≤ most
    → known_at allows bytes ≡ Ok x → step a x.0 ≡ Ok c → message_at allows step most a bytes ≡ message_at allows step (most - 1) c x.1
goes_on {A} allows step most a c bytes x some le e f =
    taken allows step most a bytes x some le e
    ∙ ap (λ (r : Result A Refusal). moved (length x.1) r >>= λ c. message_at allows step (most - 1) c x.1) f

-- or has a fault within it
pub inner : {A : Type 0} (allows : ℕ → ℕ → Bool) (step : A → Value → Result A Refusal) (most : ℕ) (a : A) (bytes : List ℕ) (x : Value × List ℕ) (r : Refusal) → 0 < length bytes → length bytes ≤ most
    → known_at allows bytes ≡ Ok x → step a x.0 ≡ Err r → message_at allows step most a bytes ≡ Err (r.0, r.1 + length x.1)
inner {A} allows step most a bytes x r some le e f =
    taken allows step most a bytes x some le e
    ∙ ap (λ (r : Result A Refusal). moved (length x.1) r >>= λ c. message_at allows step (most - 1) c x.1) f

placed_ok : {A : Type 0} (left : ℕ) (r : Result A Fault) (x : A) → placed left r ≡ Ok x → r ≡ Ok x
placed_ok left (Ok y) x e = cc
placed_ok left (Err f) x e = absurd cc

moved_ok : {A : Type 0} (after : ℕ) (r : Result A Refusal) (x : A) → moved after r ≡ Ok x → r ≡ Ok x
moved_ok after (Ok y) x e = cc
moved_ok after (Err f) x e = absurd cc

abbrev ok : {X : Type 0} → X → Result X Fault
ok x = Ok x

abbrev refuse : {X : Type 0} → Result X Fault
refuse = Err Unexpected

chosen_known : {X : Type 0} (b : Bool) (x y : X) → cond b (ok x) (refuse {X = X}) ≡ Ok y → (b ≡ true) × (x ≡ y)
chosen_known true x y e = (refl, cc)
chosen_known false x y e = absurd cc

known_took : (allows : ℕ → ℕ → Bool) (bytes : List ℕ) (x : Value × List ℕ) → IsBytes bytes → known_at allows bytes ≡ Ok x
    → (front : List ℕ) × IsField front x.0 × (bytes ≡ front ++ x.1) × (allows (number_of x.0) (kind_of x.0) ≡ true)
unfolding known_at
known_took allows bytes x fits e =
    let y = bind_ok (field_at bytes) _ x e in
    let k = chosen_known (allows (number_of y.0.0) (kind_of y.0.0)) y.0 x y.2 in
    let f = field_took bytes x fits (rw k.1 at y.1) in
    (f.0, f.1, f.2, rw k.1 at k.0)

pub known_again : (allows : ℕ → ℕ → Bool) (front rest : List ℕ) (v : Value) → IsField front v → allows (number_of v) (kind_of v) ≡ true
    → known_at allows (front ++ rest) ≡ Ok (v, rest)
unfolding known_at
known_again allows front rest v f e = rw (field_again front rest v f, e) refl

-- the texts of fields are bytes
abbrev pub FitsText : Value → Type 0
FitsText (Text n text) = IsBytes text
FitsText (Number n v) = Unit {0}
FitsText (Eight n v) = Unit {0}
FitsText (Four n v) = Unit {0}

abbrev pub FitTexts : List Value → Type 0
FitTexts [] = Unit {0}
FitTexts (v ∷ vs) = FitsText v × FitTexts vs

IsBytes-front : (a b : List ℕ) → IsBytes (a ++ b) → IsBytes a
IsBytes-front a b h i =
    elim (cases_lt i (length a)) [
      | inl lt ↦ rw (← get_or_append_left a b 0 i lt) (h i)
      | inr le ↦ rw (get_or_past a i 0 le) (omega arith)
    ]

body_fits : (v : Value) (body : List ℕ) → IsBody v body → IsBytes body → FitsText v
body_fits (Text n text) body b fits = IsBytes-back b.0 text (subst IsBytes b.2 fits)
body_fits (Number n v) body b fits = tt
body_fits (Eight n v) body b fits = tt
body_fits (Four n v) body b fits = tt

text_fits : (front : List ℕ) (v : Value) → IsField front v → IsBytes front → FitsText v
text_fits front v f fits = body_fits v f.body f.body_is (IsBytes-back f.key f.body (subst IsBytes f.parts fits))

pub record Took {A : Type 0} (allows : ℕ → ℕ → Bool) (step : A → Value → Result A Refusal) (a b : A) (bytes : List ℕ) : Type 0 where
  pub values : List Value
  pub fields : AreFields bytes values
  pub known : AreKnown allows values
  pub steps : Steps step a values b
  pub texts : FitTexts values

pub message_took : {A : Type 0} (allows : ℕ → ℕ → Bool) (step : A → Value → Result A Refusal) (most : ℕ) (a b : A) (bytes : List ℕ) → IsBytes bytes → length bytes ≤ most
    → message_at allows step most a bytes ≡ Ok b → Took allows step a b bytes
message_took allows step most a b [] fits le e =
    let s : a ≡ b = let h = sym (ends allows step most a [] refl) ∙ e in cc in
    record { values = []; fields = refl; known = tt; steps = s; texts = tt }
message_took allows step zero a b (x ∷ rest) fits le e = absurd (omega arith)
message_took {A} allows step (suc most) a b (y ∷ rest) fits le e =
    let bytes : List ℕ = y ∷ rest in
    let h = bind_ok (placed (length bytes) (known_at allows bytes)) (λ x. moved (length x.1) (step a x.0) >>= λ c. message_at allows step most c x.1) b
    (sym (one_more allows step most a bytes (omega arith)) ∙ e) in
    let x = h.0 in
    let f = known_took allows bytes x fits (placed_ok (length bytes) _ x h.1) in
    let c = bind_ok (moved (length x.1) (step a x.0)) (λ c. message_at allows step most c x.1) b h.2 in
    let some = some_bytes f.0 x.0 f.1 in
    let len = ap length f.2 ∙ length-append f.0 x.1 in
    let few : IsBytes x.1 = IsBytes-back f.0 x.1 (subst IsBytes f.2 fits) in
    let t = message_took allows step most c.0 b x.1 few (omega arith) c.2 in
    record {
      values = x.0 ∷ t.values;
      fields = (f.0, x.1, f.1, f.2, t.fields);
      known = (f.3, t.known);
      steps = (c.0, moved_ok (length x.1) (step a x.0) c.0 c.1, t.steps);
      texts = (text_fits f.0 x.0 f.1 (IsBytes-front f.0 x.1 (subst IsBytes f.2 fits)), t.texts);
    }

pub message_again : {A : Type 0} (allows : ℕ → ℕ → Bool) (step : A → Value → Result A Refusal) (most : ℕ) (a b : A) (bytes : List ℕ) (values : List Value)
    → length bytes ≤ most → AreFields bytes values → AreKnown allows values → Steps step a values b → message_at allows step most a bytes ≡ Ok b
message_again allows step most a b bytes [] le fields known steps =
    ends allows step most a bytes (ap length fields) ∙ ap (λ x. Ok x) steps
message_again allows step most a b bytes (v ∷ vs) le fields known steps =
    let front = fields.0 in
    let rest = fields.1 in
    let some = some_bytes front v fields.2 in
    let len = ap length fields.3 ∙ length-append front rest in
    goes_on allows step most a steps.0 bytes (v, rest) (omega arith) le (ap (known_at allows) fields.3 ∙ known_again allows front rest v fields.2 known.0) steps.1
    ∙ message_again allows step (most - 1) steps.0 b rest vs (omega arith) fields.4 known.1 steps.2

-- steps lead to one value
pub steps_once : {A : Type 0} (step : A → Value → Result A Refusal) (a b c : A) (vs : List Value) → Steps step a vs b → Steps step a vs c → b ≡ c
steps_once step a b c [] x y = sym x ∙ y
steps_once {A} step a b c (v ∷ vs) x y =
    let e : x.0 ≡ y.0 = (let h = sym x.1 ∙ y.1 in cc) in
    steps_once step y.0 b c vs (subst (λ (d : A). Steps step d vs b) e x.2) y.2

-- a bound that is enough is as good as another
by_step : {A : Type 0} (allows : ℕ → ℕ → Bool) (step : A → Value → Result A Refusal) (m n : ℕ) (a : A) (bytes : List ℕ) (x : Value × List ℕ) → 0 < length bytes → length bytes ≤ m → length bytes ≤ n
    → known_at allows bytes ≡ Ok x → (r : Result A Refusal) → step a x.0 ≡ r
    → ((c : A) → message_at allows step (m - 1) c x.1 ≡ message_at allows step (n - 1) c x.1)
    → message_at allows step m a bytes ≡ message_at allows step n a bytes
by_step allows step m n a bytes x some le lf e (Err r) f same =
    inner allows step m a bytes x r some le e f ∙ sym (inner allows step n a bytes x r some lf e f)
by_step allows step m n a bytes x some le lf e (Ok c) f same =
    goes_on allows step m a c bytes x some le e f ∙ same c ∙ sym (goes_on allows step n a c bytes x some lf e f)

enough_by : {A : Type 0} (allows : ℕ → ℕ → Bool) (step : A → Value → Result A Refusal) (m n : ℕ) (a : A) (bytes : List ℕ) → 0 < length bytes → length bytes ≤ m → length bytes ≤ n
    → (k : Result (Value × List ℕ) Fault) → known_at allows bytes ≡ k
    → ((x : Value × List ℕ) (c : A) → known_at allows bytes ≡ Ok x → message_at allows step (m - 1) c x.1 ≡ message_at allows step (n - 1) c x.1)
    → message_at allows step m a bytes ≡ message_at allows step n a bytes
enough_by allows step m n a bytes some le lf (Err f) e same =
    refused allows step m a bytes f some le e ∙ sym (refused allows step n a bytes f some lf e)
enough_by {A} allows step m n a bytes some le lf (Ok x) e same =
    by_step allows step m n a bytes x some le lf e (step a x.0) refl (λ c. same x c e)

pub enough : {A : Type 0} (allows : ℕ → ℕ → Bool) (step : A → Value → Result A Refusal) (m n : ℕ) (a : A) (bytes : List ℕ) → IsBytes bytes → length bytes ≤ m → length bytes ≤ n
    → message_at allows step m a bytes ≡ message_at allows step n a bytes
enough allows step zero n a bytes fits le lf =
    ends allows step zero a bytes (omega arith) ∙ sym (ends allows step n a bytes (omega arith))
enough allows step (suc m) n a [] fits le lf =
    ends allows step (suc m) a [] refl ∙ sym (ends allows step n a [] refl)
enough {A} allows step (suc m) n a (b ∷ rest) fits le lf =
    enough_by allows step (suc m) n a (b ∷ rest) (omega arith) le lf (known_at allows (b ∷ rest)) refl (λ x c e.
    let f = known_took allows (b ∷ rest) x fits e in
    let some = some_bytes f.0 x.0 f.1 in
    let len = ap length f.2 ∙ length-append f.0 x.1 in
    let few : IsBytes x.1 = IsBytes-back f.0 x.1 (subst IsBytes f.2 fits) in
    let k : suc m - 1 ≡ m = omega arith in
    ap (λ (j : ℕ). message_at allows step j c x.1) k ∙ enough allows step m (n - 1) c x.1 few (omega arith) (omega arith))

-- what is left behind a field is bytes, and less
pub left_behind : (allows : ℕ → ℕ → Bool) (bytes : List ℕ) (x : Value × List ℕ) → IsBytes bytes → known_at allows bytes ≡ Ok x → IsBytes x.1 × (length x.1 < length bytes)
left_behind allows bytes x fits e =
    let f = known_took allows bytes x fits e in
    let some = some_bytes f.0 x.0 f.1 in
    let len = ap length f.2 ∙ length-append f.0 x.1 in
    (IsBytes-back f.0 x.1 (subst IsBytes f.2 fits), omega arith)
