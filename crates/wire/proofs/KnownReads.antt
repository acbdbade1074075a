-- Reads that are known.
use Rattle.std.proofs.Common.{◌≡◌, ℕ, Bool, true, false, cond, List, Result, Ok, Err, refl, ap, ◌⊎◌}
use Rattle.std.proofs.Common.{inl, inr}
use Rattle.wire.specs.declared.error.WireError.{WireError}

-- which way a test went
pub chosen : {A : Type 0} (b : Bool) (x y z : A) → cond b x y ≡ z
    → ((b ≡ true) × (x ≡ z)) ⊎ ((b ≡ false) × (y ≡ z))
chosen true x y z e = inl (refl, e)
chosen false x y z e = inr (refl, e)

abbrev pub read_with : {X : Type 0} → X → List ℕ → Result (X × List ℕ) WireError
read_with a x = Ok (a, x)

abbrev pub value : {X : Type 0} → X → Result X WireError
value a = Ok a

-- the value of a read that is known
pub same_value : {X : Type 0} (a b : X) (x y : List ℕ)
    → read_with a x ≡ read_with b y → value a ≡ value b
same_value {X = X} a b x y e =
    let s : X × List ℕ = (a, x) in
    let t : X × List ℕ = (b, y) in
    let p : s ≡ t = cc in
    ap (λ (q : X × List ℕ). value q.0) p

pub not_refused : {X : Type 0} {C : Type 0} (r : Result X WireError) (f : WireError) (x : X)
    → r ≡ Err f → r ≡ Ok x → C
not_refused r f x e h = absurd cc

pub same_read : {X : Type 0} (a b : X) (x y : List ℕ)
    → read_with a x ≡ read_with b y → (a ≡ b) × (x ≡ y)
same_read {X = X} a b x y e =
    let s : X × List ℕ = (a, x) in
    let t : X × List ℕ = (b, y) in
    let p : s ≡ t = cc in
    (ap (λ (q : X × List ℕ). q.0) p, ap (λ (q : X × List ℕ). q.1) p)
