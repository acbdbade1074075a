-- A label set made of pairs gives each name the value that the pairs give it.
use Rattle.std.proofs.Common.{◌≡◌, ◌==◌, ℕ, Bool, true, false, cond, not, ◌||◌, List, [], ◌∷◌, length, refl, sym, ap, ◌∙◌, ◌⊎◌, inl, inr, arith}
use Rattle.std.specs.Prelude.{IsPermutation}
use Rattle.std.specs.List.{Contains, list_any}
use Rattle.std.specs.Str.{bytes_eq}
use Rattle.std.proofs.lemmas.Bool.Decides.{Decides-eqb}
use Rattle.std.proofs.lemmas.Slice.Eq.{bytes_eq-Decides}
use Rattle.std.proofs.lemmas.List.Sorted.{Contains-permutation, IsPermutation-sym}
use Rattle.labels.specs.Labels.{Labels, value_of}
use Rattle.labels.specs.LabelSets.{same_name, repeats, has_value, with_values}
use Rattle.labels.proofs.Lists.{Contains-cases, none_in_nil, here, there, filter-has, filter-from}

apart : (a b : Bool) → (a || b) ≡ false → (a ≡ false) × (b ≡ false)
apart true b h = absurd cc
apart false b h = (refl, h)

-- a pair whose name no other pair has
other_name : (p : List ℕ × List ℕ) (ps : Labels) (q : List ℕ × List ℕ) → list_any (same_name p) ps ≡ false → Contains ps q → bytes_eq p.0 q.0 ≡ false
other_name p [] q h c = absurd (none_in_nil q c)
other_name p (x ∷ ps) q h c =
    elim (Contains-cases x ps q c) [
      | inl e ↦ rw (← e) ((apart _ _ h).0)
      | inr rest ↦ other_name p ps q (apart _ _ h).1 rest
    ]

-- where no name repeats, each pair has the value of its name
pub value_of-pair : (ps : Labels) (q : List ℕ × List ℕ) → repeats ps ≡ false → Contains ps q → value_of ps q.0 ≡ q.1
value_of-pair [] q h c = absurd (none_in_nil q c)
value_of-pair (p ∷ ps) q h c =
    elim (Contains-cases p ps q c) [
      | inl e ↦ let same : bytes_eq p.0 q.0 ≡ true = (bytes_eq-Decides p.0 q.0).1 (ap (λ (x : List ℕ × List ℕ). x.0) e) in
          rw same (ap (λ (x : List ℕ × List ℕ). x.1) e)
      | inr rest ↦ rw (other_name p ps q (apart _ _ h).0 rest) (value_of-pair ps q (apart _ _ h).1 rest)
    ]

-- a pair of this name, with its value
abbrev Has : Labels → List ℕ → Type 0
Has ps name = (q : List ℕ × List ℕ) × (Contains ps q × ((q.0 ≡ name) × (q.1 ≡ value_of ps name)))

-- an absent name has no value; of any other some pair tells it
none_or_some : (ps : Labels) (name : List ℕ) → (value_of ps name ≡ []) ⊎ Has ps name
none_or_some [] name = inl refl
none_or_some (p ∷ ps) name =
    let go : (b : Bool) → bytes_eq p.0 name ≡ b → (cond b p.1 (value_of ps name) ≡ []) ⊎ ((q : List ℕ × List ℕ) × (Contains (p ∷ ps) q × ((q.0 ≡ name) × (q.1 ≡ cond b p.1 (value_of ps name))))) =
    λ b. elim b as (λ v. bytes_eq p.0 name ≡ v → (cond v p.1 (value_of ps name) ≡ []) ⊎ ((q : List ℕ × List ℕ) × (Contains (p ∷ ps) q × ((q.0 ≡ name) × (q.1 ≡ cond v p.1 (value_of ps name)))))) [
      | true ↦ λ e. inr (p, (here p ps, ((bytes_eq-Decides p.0 name).0 e, refl)))
      | false ↦ λ e. elim (none_or_some ps name) [
        | inl h ↦ inl h
        | inr h ↦ inr (h.0, (there p h.0 ps h.1.0, h.1.1))
      ]
    ] in
    go (bytes_eq p.0 name) refl

-- a pair without a value has the empty one
no_value : (xs : List ℕ) → not (length xs == 0) ≡ false → xs ≡ []
no_value [] h = refl
no_value (x ∷ xs) h =
    let go : (b : Bool) → (length (x ∷ xs) == 0) ≡ b → not b ≡ false → ⊥ = elim [
      | true ↦ λ e _. omega (arith, (Decides-eqb (length (x ∷ xs)) 0).0 e)
      | false ↦ λ _ f. let no : true ≡ false = f in cc
    ] in
    absurd (go _ refl h)

told : (given made : Labels) (name : List ℕ) → repeats given ≡ false → IsPermutation (with_values given) made → Has made name → value_of made name ≡ value_of given name
told given made name once same has =
    let q = has.0 in
    let kept : Contains (with_values given) q = Contains-permutation made (with_values given) q (IsPermutation-sym (with_values given) made same) has.1.0 in
    let whole = value_of-pair given q once (filter-from has_value given q kept).0 in
    sym has.1.1.1 ∙ sym whole ∙ ap (value_of given) has.1.1.0

untold : (given made : Labels) (name : List ℕ) → repeats made ≡ false → IsPermutation (with_values given) made → value_of made name ≡ [] → Has given name → value_of made name ≡ value_of given name
untold given made name once same none has =
    let q = has.0 in
    let go : (b : Bool) → has_value q ≡ b → value_of made name ≡ q.1 = λ b. elim b as (λ v. has_value q ≡ v → value_of made name ≡ q.1) [
      | true ↦ λ e. ap (value_of made) (sym has.1.1.0) ∙ value_of-pair made q once (Contains-permutation (with_values given) made q same (filter-has has_value given q has.1.0 e))
      | false ↦ λ e. none ∙ sym (no_value q.1 e)
    ] in
    go (has_value q) refl ∙ has.1.1.1

pub value_of-with_values : (given made : Labels) (name : List ℕ) → repeats given ≡ false → repeats made ≡ false → IsPermutation (with_values given) made → value_of made name ≡ value_of given name
value_of-with_values given made name once still same =
    elim (none_or_some made name) [
      | inr has ↦ told given made name once same has
      | inl none ↦ elim (none_or_some given name) [
        | inl neither ↦ none ∙ sym neither
        | inr has ↦ untold given made name still same none has
      ]
    ]
