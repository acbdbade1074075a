-- The place of a key.
use Rattle.std.proofs.Common.{◌≡◌, ℕ, zero, suc, Bool, true, false, cond, List, [], ◌∷◌, ◌++◌, length, take}
use Rattle.std.proofs.Common.{Option, None, Some, refl, sym, ap, ◌∙◌, inl, inr, arith}
use Rattle.std.specs.Prelude.{Vec}
use Rattle.std.specs.declared.alloc.Global.{Global}
use Rattle.std.specs.List.{position, position_or_len, list_any}
use Rattle.std.specs.Str.{bytes_eq}
use Rattle.std.proofs.lemmas.Bool.{false_from_ne_true, ltb-false}
use Rattle.std.proofs.lemmas.List.{length-map, map-append}
use Rattle.std.proofs.lemmas.List.Recursion.{is_position_or_len}
use Rattle.std.proofs.lemmas.Slice.Eq.{bytes_eq-Decides}
use Rattle.name_table.specs.Names.{number_of}
use Rattle.name_table.proofs.Numbers.{either, number_le}
use Rattle.name_table.specs.Keys.{keys_in}

abbrev Key : Type 0
Key = Vec ℕ Global

-- whether a key has these bytes, as the set tests it
abbrev pub has : List ℕ → Key → Bool
has bytes k = bytes_eq bytes k.items

turn : (a b : List ℕ) → bytes_eq a b ≡ bytes_eq b a
turn a b =
    elim (either (bytes_eq a b)) [
      | inl t ↦ t ∙ sym ((bytes_eq-Decides b a).1 (sym ((bytes_eq-Decides a b).0 t)))
      | inr f ↦
          f ∙ sym (false_from_ne_true (bytes_eq b a) (λ t.
          let u : bytes_eq a b ≡ true = (bytes_eq-Decides a b).1 (sym ((bytes_eq-Decides b a).0 t)) in
          absurd (let x : true ≡ false = sym u ∙ f in cc)))
    ]

pub place_is : (bytes : List ℕ) (ks : List Key)
    → number_of bytes (keys_in ks) ≡ position_or_len (has bytes) ks
place_is bytes ks =
    is_position_or_len (λ xs. number_of bytes (keys_in xs)) (has bytes) refl
    (λ x xs. ap (λ (b : Bool). cond b zero (suc (number_of bytes (keys_in xs)))) (turn x.items bytes)
    ∙ ap (λ (n : ℕ). cond (has bytes x) zero n) (omega arith)) ks

some_of : (b : Bool) (n m : ℕ) → Some m ≡ cond b (Some n) None → m ≡ n
some_of true n m e = cc
some_of false n m e = absurd cc

abbrev absent : Option ℕ
absent = None

none_of : (b : Bool) (n : ℕ) (C : Type 0) → absent ≡ cond b (Some n) None → (b ≡ false)
none_of true n C e = absurd cc
none_of false n C e = refl

pub there : (bytes : List ℕ) (ks : List Key) (n : ℕ) → Some n ≡ position (has bytes) ks
    → n ≡ number_of bytes (keys_in ks)
there bytes ks n e = some_of _ _ n e ∙ sym (place_is bytes ks)

pub not_there : (bytes : List ℕ) (ks : List Key) → absent ≡ position (has bytes) ks
    → length ks ≡ number_of bytes (keys_in ks)
not_there bytes ks e =
    let past = ltb-false (position_or_len (has bytes) ks) (length ks) (none_of _ _ ℕ e) in
    let same = place_is bytes ks in
    let le = number_le bytes (keys_in ks) in
    let len = length-map ks (λ (k : Key). k.items) in
    omega (arith, past, same, le, len)

-- a label set that has no number is no key
pub no_key : (bytes : List ℕ) (ks : List Key) → number_of bytes (keys_in ks) ≡ length (keys_in ks)
    → list_any (has bytes) ks ≡ false
no_key bytes [] e = refl
no_key bytes (k ∷ ks) e =
    elim (either (bytes_eq k.items bytes)) [
      | inl t ↦
          let zero_is : number_of bytes (keys_in (k ∷ ks)) ≡ zero =
          ap (λ (b : Bool). cond b zero (suc (number_of bytes (keys_in ks)))) t in
          absurd (omega (arith, zero_is, e))
      | inr f ↦
          let next : number_of bytes (keys_in (k ∷ ks)) ≡ suc (number_of bytes (keys_in ks)) =
          ap (λ (b : Bool). cond b zero (suc (number_of bytes (keys_in ks)))) f in
          let not_first : has bytes k ≡ false = turn bytes k.items ∙ f in
          let rest = no_key bytes ks (omega (arith, next, e)) in
          rw (not_first, rest) refl
    ]

pub pushed : (ks new : List Key) (key : Key)
    → number_of key.items (keys_in ks) ≡ length (keys_in ks)
    → new ≡ cond (list_any (has key.items) ks) ks (ks ++ key ∷ [])
    → keys_in new ≡ keys_in ks ++ key.items ∷ []
pushed ks new key e h =
    ap keys_in (h ∙ ap (λ (b : Bool). cond b ks (ks ++ key ∷ [])) (no_key key.items ks e))
    ∙ map-append (λ (k : Key). k.items) ks (key ∷ [])

pub front : (n : ℕ) (ks : List Key) → keys_in (take n ks) ≡ take n (keys_in ks)
front zero ks = refl
front (suc n) [] = refl
front (suc n) (k ∷ ks) = ap (λ (ls : List (List ℕ)). k.items ∷ ls) (front n ks)
