-- A text character by character, and the choice that is read of a pattern so far.
use Rattle.std.proofs.Common.{◌≡◌, ℕ, suc, ◌+◌, ◌<◌, Bool, true, ◌&&◌, ◌||◌, false, List, [], ◌∷◌, ◌++◌, length, drop, map, Option, Some, None, option_map, get_or, slice_get, chars, encode_utf8, IsUtf8, refl, sym, ap, ◌∙◌, arith, append_assoc, append-nil, drop-cons, ◌==◌, eqb-true, inl, inr, Result, Ok, Err, IfOk, IfSome}
use lib.Utf8.{scalar, scalars, encodes}
use Rattle.std.proofs.lemmas.Bool.{and_parts, and_from, cases_Bool, cond-true, cond-false}
use Rattle.std.proofs.lemmas.List.{nil_from_length}
use Rattle.std.proofs.lemmas.Option.{none-some, same_Some}
use Rattle.std.proofs.lemmas.Str.{chars-append, IsUtf8-encode, chars-encodes, encodes-chars, scalars-chars, chars-nil, drop_past_char, IsUtf8-past_char}
use Rattle.std.specs.List.{list_any}
use Rattle.std.specs.Char.{IsScalar}
use Rattle.std.specs.Str.Pattern.{HasCharAt}
use Rattle.text_choices.specs.Alternatives.{Choice, spelled, choice_of, fits, takes, before, spelled_from, step, may_end}
use Rattle.text_choices.specs.declared.atom.Atom.{Atom}
use Rattle.text_choices.specs.declared.alternative.Alternative.{Alternative}
use Rattle.text_choices.specs.declared.reading.Place.{Place}
use Rattle.text_choices.proofs.Written.{by_step, step_is}
use Rattle.text_choices.specs.declared.reading.Step.{Step}
use Rattle.text_choices.specs.declared.reading.Step.TheVariants.{Refuse, Goes, Bar, Put}
use Rattle.text_choices.specs.declared.reading.Place.TheVariants.{Inside}

first_of : (s t cs : List ℕ) (c : ℕ) → scalars cs ≡ true → encodes cs ≡ s → s ≡ encode_utf8 c ++ t → Some c ≡ slice_get cs 0 → cs ≡ c ∷ chars t
first_of s t [] c ok is e first = absurd (none-some c (sym first))
first_of s t (d ∷ ds) c ok is e first =
    let same : d ≡ c = sym (same_Some c d first) in
    let left : t ≡ encodes ds = sym (drop_past_char s t 0 c e) ∙ drop_past_char s (encodes ds) 0 c (sym is ∙ ap (λ x. encode_utf8 x ++ encodes ds) same) in
    let rest : chars t ≡ ds = ap chars left ∙ chars-encodes ds (and_parts (scalar d) (scalars ds) ok).1 in
    ap (λ x. x ∷ ds) same ∙ ap (λ x. c ∷ x) (sym rest)

-- the first character of a text, and those that follow
pub chars_next : (s t : List ℕ) (c : ℕ) → IsUtf8 s → s ≡ encode_utf8 c ++ t → Some c ≡ slice_get (chars s) 0 → chars s ≡ c ∷ chars t
chars_next s t c u e first = first_of s t (chars s) c (scalars-chars s u) (encodes-chars s u) e first

pub utf8_next : (s t : List ℕ) (c : ℕ) → IsUtf8 s → s ≡ encode_utf8 c ++ t → IsUtf8 t
utf8_next s t c u e = IsUtf8-past_char s t c u e

pub no_chars : (s : List ℕ) → length s ≡ 0 → chars s ≡ []
no_chars s e = ap chars (nil_from_length s e) ∙ chars-nil

pub fits_ends : (atoms : List Atom) (s : List ℕ) (i : ℕ) (none : Atom) → i < length atoms → length s ≡ 0 → fits (drop i atoms) (chars s) ≡ false
fits_ends atoms s i none lt e = rw (no_chars s e, drop-cons atoms i none lt)

pub fits_goes : (atoms : List Atom) (s t : List ℕ) (i c : ℕ) (none : Atom) → i < length atoms → IsUtf8 s → s ≡ encode_utf8 c ++ t →
    Some c ≡ slice_get (chars s) 0 → fits (drop i atoms) (chars s) ≡ (takes (get_or atoms i none) c && fits (drop (i + 1) atoms) (chars t))
fits_goes atoms s t i c none lt u e first =
    let next : suc i ≡ i + 1 = omega arith in
    ap (fits (drop i atoms)) (chars_next s t c u e first) ∙ ap (λ xs. fits xs (c ∷ chars t)) (drop-cons atoms i none lt)
    ∙ ap (λ k. takes (get_or atoms i none) c && fits (drop k atoms) (chars t)) next

-- the choice so far, with what the rest spells
abbrev pub glue : Choice → List Atom → Option Choice → Option Choice
glue done atoms None = None
glue done atoms (Some []) = Some done
glue done atoms (Some (first ∷ others)) = Some (done ++ (atoms ++ first) ∷ others)

pub glue_start : (o : Option Choice) → glue [] [] o ≡ o
glue_start None = refl
glue_start (Some []) = refl
glue_start (Some (first ∷ others)) = refl

pub glue_put : (done : Choice) (atoms : List Atom) (a : Atom) (o : Option Choice) → glue done atoms (option_map (before a) o) ≡ glue done (atoms ++ a ∷ []) o
glue_put done atoms a None = refl
glue_put done atoms a (Some []) = refl
glue_put done atoms a (Some (first ∷ others)) = ap (λ x. Some (done ++ x ∷ others)) (sym (append_assoc atoms (a ∷ []) first))

pub glue_bar : (done : Choice) (atoms : List Atom) (o : Option Choice) → glue done atoms (option_map (λ x. [] ∷ x) o) ≡ glue (done ++ atoms ∷ []) [] o
glue_bar done atoms None = refl
glue_bar done atoms (Some []) = ap (λ x. Some (done ++ x ∷ [])) (append-nil atoms)
glue_bar done atoms (Some (first ∷ others)) =
    ap (λ x. Some (done ++ x ∷ first ∷ others)) (append-nil atoms) ∙ ap Some (sym (append_assoc done (atoms ∷ []) (first ∷ others)))

-- one character of a pattern is read
pub spelled_next : (grouped : Bool) (place : Place) (s t : List ℕ) (c : ℕ) (kind : Step) → IsUtf8 s → s ≡ encode_utf8 c ++ t →
    Some c ≡ slice_get (chars s) 0 → step grouped place c ≡ kind → spelled_from grouped place (chars s) ≡ by_step grouped kind (chars t)
spelled_next grouped place s t c kind u e first is = ap (spelled_from grouped place) (chars_next s t c u e first) ∙ step_is grouped place c (chars t) kind is

-- what the loop of the reader keeps
pub goes_step : (D : Choice) (A : List Atom) (grouped : Bool) (p next : Place) (s t : List ℕ) (c : ℕ) (r : Option Choice) → IsUtf8 s → s ≡ encode_utf8 c ++ t →
    Some c ≡ slice_get (chars s) 0 → step grouped p c ≡ Goes next → glue D A (spelled_from grouped p (chars s)) ≡ r →
    glue D A (spelled_from grouped next (chars t)) ≡ r
goes_step D A grouped p next s t c r u e first is h = ap (glue D A) (sym (spelled_next grouped p s t c (Goes next) u e first is)) ∙ h

pub bar_step : (D D2 : Choice) (A A2 : List Atom) (grouped : Bool) (p : Place) (s t : List ℕ) (c : ℕ) (r : Option Choice) → IsUtf8 s → s ≡ encode_utf8 c ++ t →
    Some c ≡ slice_get (chars s) 0 → step grouped p c ≡ Bar → glue D A (spelled_from grouped p (chars s)) ≡ r → D2 ≡ D ++ A ∷ [] → A2 ≡ [] →
    glue D2 A2 (spelled_from grouped Inside (chars t)) ≡ r
bar_step D D2 A A2 grouped p s t c r u e first is h d a =
    rw (d, a) (sym (glue_bar D A (spelled_from grouped Inside (chars t))) ∙ ap (glue D A) (sym (spelled_next grouped p s t c Bar u e first is)) ∙ h)

pub put_step : (D : Choice) (A A2 : List Atom) (a : Atom) (grouped : Bool) (p : Place) (s t : List ℕ) (c : ℕ) (r : Option Choice) → IsUtf8 s → s ≡ encode_utf8 c ++ t →
    Some c ≡ slice_get (chars s) 0 → step grouped p c ≡ Put a → glue D A (spelled_from grouped p (chars s)) ≡ r → A2 ≡ A ++ a ∷ [] →
    glue D A2 (spelled_from grouped Inside (chars t)) ≡ r
put_step D A A2 a grouped p s t c r u e first is h d =
    rw d (sym (glue_put D A a (spelled_from grouped Inside (chars t))) ∙ ap (glue D A) (sym (spelled_next grouped p s t c (Put a) u e first is)) ∙ h)

pub refuse_step : (D : Choice) (A : List Atom) (grouped : Bool) (p : Place) (s t : List ℕ) (c : ℕ) (r : Option Choice) → IsUtf8 s → s ≡ encode_utf8 c ++ t →
    Some c ≡ slice_get (chars s) 0 → step grouped p c ≡ Refuse → glue D A (spelled_from grouped p (chars s)) ≡ r → r ≡ None
refuse_step D A grouped p s t c r u e first is h = sym h ∙ ap (glue D A) (spelled_next grouped p s t c Refuse u e first is)

pub bad_end : (D : Choice) (A : List Atom) (grouped : Bool) (p : Place) (s : List ℕ) (r : Option Choice) → length s ≡ 0 → may_end grouped p ≡ false →
    glue D A (spelled_from grouped p (chars s)) ≡ r → r ≡ None
bad_end D A grouped p s r e not_so h =
    sym h ∙ ap (λ cs. glue D A (spelled_from grouped p cs)) (no_chars s e) ∙ ap (glue D A) (cond-false (may_end grouped p) _ _ not_so)

pub good_end : (D D2 : Choice) (A : List Atom) (grouped : Bool) (p : Place) (s : List ℕ) (r : Option Choice) → length s ≡ 0 → may_end grouped p ≡ true →
    glue D A (spelled_from grouped p (chars s)) ≡ r → D2 ≡ D ++ A ∷ [] → r ≡ Some D2
good_end D D2 A grouped p s r e ok h d =
    sym h ∙ ap (λ cs. glue D A (spelled_from grouped p cs)) (no_chars s e) ∙ ap (glue D A) (cond-true (may_end grouped p) _ _ ok)
    ∙ ap (λ x. Some (D ++ x ∷ [])) (append-nil A) ∙ ap Some (sym d)

pub any_map : {A B : Type 0} (f : B → Bool) (g : A → B) (xs : List A) → list_any f (map g xs) ≡ list_any (λ x. f (g x)) xs
any_map f g [] = refl
any_map f g (x ∷ xs) = ap (λ b. f (g x) || b) (any_map f g xs)

pub any_items : (value : List ℕ) (xs : List Alternative)
    → list_any (λ one. fits one.atoms.items value) xs
    ≡ list_any (λ atoms. fits atoms value) (map (λ one. one.atoms.items) xs)
any_items value xs =
    sym (any_map (λ atoms. fits atoms value) (λ (one : Alternative). one.atoms.items) xs)

chars_front : (c : ℕ) (rest : List ℕ) → IsScalar c → chars (encode_utf8 c ++ rest) ≡ c ∷ chars rest
chars_front c rest s =
    let one : chars (encode_utf8 c) ≡ c ∷ [] = ap chars (sym (append-nil (encode_utf8 c))) ∙ chars-encodes (c ∷ []) (and_from _ true s refl) in
    chars-append (encode_utf8 c) rest (IsUtf8-encode c s) ∙ ap (λ cs. cs ++ chars rest) one

-- a pattern with a parenthesis at its front, and one without
pub spelled_grouped : (pattern rest : List ℕ) → pattern ≡ encode_utf8 40 ++ rest → choice_of pattern ≡ spelled_from true Inside (chars rest)
spelled_grouped pattern rest e = ap spelled (ap chars e ∙ chars_front 40 rest refl)

bare_chars : (pattern cs : List ℕ) → encodes cs ≡ pattern → ((rest : List ℕ) → pattern ≡ encode_utf8 40 ++ rest → ⊥) → spelled cs ≡ spelled_from false Inside cs
bare_chars pattern [] e none = refl
bare_chars pattern (c ∷ cs) e none = elim (cases_Bool (c == 40)) [
  | inl is_so ↦ absurd (none (encodes cs) (sym e ∙ ap (λ x. encode_utf8 x ++ encodes cs) (eqb-true c 40 is_so)))
  | inr not_so ↦ cond-false (c == 40) _ _ not_so
]

pub spelled_bare : (pattern : List ℕ) → IsUtf8 pattern → ((rest : List ℕ) → pattern ≡ encode_utf8 40 ++ rest → ⊥) →
    choice_of pattern ≡ spelled_from false Inside (chars pattern)
spelled_bare pattern u none = bare_chars pattern (chars pattern) (encodes-chars pattern u) none

pub if_some_weaker : {A E : Type 0} (r : Result (Option A) E) (P Q : A → Type 0) → ((a : A) → P a → Q a) → IfOk r (λ found. IfSome found P) →
    IfOk r (λ found. IfSome found Q)
if_some_weaker (Ok None) P Q f h = h
if_some_weaker (Ok (Some a)) P Q f h = f a h
if_some_weaker (Err e) P Q f h = h

pub at_front : (pattern rest : List ℕ) (x : ℕ) → HasCharAt 40 pattern 0 x → rest ≡ drop x pattern → pattern ≡ encode_utf8 40 ++ rest
at_front pattern rest x h e = h.split ∙ ap (λ r. encode_utf8 40 ++ r) (sym e)
