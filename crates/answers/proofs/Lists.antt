-- The text of a list, as its items with commas before them.
use Rattle.std.proofs.Common.{◌≡◌, ℕ, List, [], ◌∷◌, ◌++◌, true, map, length, take, drop, refl, sym}
use Rattle.std.proofs.Common.{ap, ap₂, ◌∙◌, append_assoc, arith}
use Rattle.std.proofs.Math.Seq.{take-append_seam, drop-append_seam}
use Rattle.serde_json.specs.Data.{Data}
use Rattle.serde_json.specs.View.{items_of}
use Rattle.serde_json.specs.Written.{compact_text, items_text}
use Rattle.answers.specs.Body.{list_data}
use Rattle.answers.specs.AfterCommas.{after_commas, with_bracket}

later_items : {A : Type 0} (data_of : A → Data) (xs : List A)
    → items_text true (items_of (map data_of xs)) ≡ after_commas data_of xs ++ 93 ∷ []
later_items data_of [] = refl
later_items data_of (x ∷ xs) =
    ap (λ s. 44 ∷ (compact_text (data_of x) ++ s)) (later_items data_of xs)
    ∙ ap (λ s. 44 ∷ s)
    (sym (append_assoc (compact_text (data_of x)) (after_commas data_of xs) (93 ∷ [])))

pub opened_later : {A : Type 0} (data_of : A → Data) (xs : List A)
    → with_bracket 91 (after_commas data_of xs) ++ 93 ∷ [] ≡ compact_text (list_data data_of xs)
opened_later data_of [] = refl
opened_later data_of (x ∷ xs) =
    ap (λ s. 91 ∷ s) (append_assoc (compact_text (data_of x)) (after_commas data_of xs) (93 ∷ [])
    ∙ sym (ap (λ s. compact_text (data_of x) ++ s) (later_items data_of xs)))

-- a list of one item, and of those behind it
pub first_and_rest : {A : Type 0} (data_of : A → Data) (x : A) (xs : List A)
    → 91 ∷ (compact_text (data_of x) ++ (after_commas data_of xs ++ 93 ∷ []))
    ≡ compact_text (list_data data_of (x ∷ xs))
first_and_rest data_of x xs =
    ap (λ s. 91 ∷ (compact_text (data_of x) ++ s)) (sym (later_items data_of xs))

-- a list of no items
pub no_items : {A : Type 0} (data_of : A → Data) (xs : List A) → length xs ≡ 0
    → 91 ∷ 93 ∷ [] ≡ compact_text (list_data data_of xs)
no_items data_of [] e = refl
no_items data_of (x ∷ xs) e = absurd (omega (arith, e))

-- what stands between brackets after `old`
pub bracketed : (old later new : List ℕ) (n first last : ℕ) → n ≡ length old → new ≡ old ++ later
    → take n new ++ (with_bracket first (drop n new) ++ last ∷ [])
    ≡ old ++ (with_bracket first later ++ last ∷ [])
bracketed old later new n first last e is =
    rw (e, is) (ap₂ (λ (a b : List ℕ). a ++ (with_bracket first b ++ last ∷ []))
    (take-append_seam old later) (drop-append_seam old later))

-- the list that stands after `old`
pub listed : {A : Type 0} (data_of : A → Data) (xs : List A) (old new : List ℕ) (n : ℕ)
    → n ≡ length old → new ≡ old ++ after_commas data_of xs
    → take n new ++ (with_bracket 91 (drop n new) ++ 93 ∷ [])
    ≡ old ++ compact_text (list_data data_of xs)
listed data_of xs old new n e is =
    bracketed old (after_commas data_of xs) new n 91 93 e is
    ∙ ap (λ s. old ++ s) (opened_later data_of xs)
