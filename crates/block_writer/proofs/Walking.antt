-- What is left of a list, one element after another.
use Rattle.std.proofs.Common.{◌≡◌, ℕ, zero, suc, ◌+◌, ◌<◌, ◌≤◌, List, [], ◌∷◌, ◌++◌, length, get_or}
use Rattle.std.proofs.Common.{drop, Some, refl, sym, ap, subst, ◌∙◌, append_assoc, arith}
use Rattle.std.specs.Prelude.{slice_get}
use Rattle.std.specs.List.{All, flat_map}
use Rattle.std.specs.Borrow.{Bor}
use Rattle.std.proofs.lemmas.List.{append-nil, drop_all}
use Rattle.labels.specs.Labels.{Labels}
use Rattle.labels.specs.Pairs.{texts_of}
use Rattle.index_reader.specs.Seen.{bytes_of}
use Rattle.block_writer.specs.InUse.{label_texts}

at_place : {A : Type 0} (xs : List A) (i : ℕ) (a : A) → slice_get xs i ≡ Some a
    → drop i xs ≡ a ∷ drop (suc i) xs
at_place [] i a e = absurd cc
at_place (x ∷ xs) zero a e = let p : x ≡ a = cc in ap (λ y. y ∷ xs) p
at_place (x ∷ xs) (suc i) a e = at_place xs i a e

-- the element at a place, and those behind it
pub drop_at : {A : Type 0} (xs : List A) (i : ℕ) (a : A) → slice_get xs i ≡ Some a
    → drop i xs ≡ a ∷ drop (i + 1) xs
drop_at xs i a e =
    let next : suc i ≡ i + 1 = omega arith in
    at_place xs i a e ∙ ap (λ n. a ∷ drop n xs) next

pub regrouped : {X : Type 0} (out a b whole : List X) → out ++ (a ++ b) ≡ whole
    → (out ++ a) ++ b ≡ whole
regrouped out a b whole e = simp append_assoc e

pub grouped : {X : Type 0} (a b c : List X) → (a ++ b) ++ c ≡ a ++ (b ++ c)
grouped a b c = simp append_assoc

pub four : {X : Type 0} (a b c d : List X) → ((a ++ b) ++ c) ++ d ≡ a ++ (b ++ (c ++ d))
four a b c d = simp append_assoc

-- what was written, and what is left: one more
pub flat_on : {A X : Type 0} (f : A → List X) (front next : List X) (xs : List A) (i : ℕ) (a : A)
    (whole : List X) → drop i xs ≡ a ∷ drop (i + 1) xs → next ≡ front ++ f a
    → front ++ flat_map f (drop i xs) ≡ whole → next ++ flat_map f (drop (i + 1) xs) ≡ whole
flat_on f front next xs i a whole here step so_far =
    let all : front ++ (f a ++ flat_map f (drop (i + 1) xs)) ≡ whole = rw here at so_far in
    rw step (simp append_assoc all)

-- and nothing is left
pub flat_done : {A X : Type 0} (f : A → List X) (front : List X) (xs : List A) (i : ℕ)
    (whole : List X) → length xs ≤ i → front ++ flat_map f (drop i xs) ≡ whole → front ≡ whole
flat_done f front xs i whole le so_far = sym (append-nil front) ∙ (rw (drop_all i xs le) at so_far)

-- ---- texts in memory

pub texts_push : (front : List (Bor (List ℕ))) (x : Bor (List ℕ))
    → bytes_of (front ++ x ∷ []) ≡ bytes_of front ++ x.now ∷ []
texts_push [] x = refl
texts_push (y ∷ front) x = ap (λ ys. y.now ∷ ys) (texts_push front x)

pub pairs_push : (front : List (Bor (List ℕ) × Bor (List ℕ))) (x : Bor (List ℕ) × Bor (List ℕ))
    → texts_of (front ++ x ∷ []) ≡ texts_of front ++ (x.0.now, x.1.now) ∷ []
pairs_push [] x = refl
pairs_push (y ∷ front) x = ap (λ ys. (y.0.now, y.1.now) ∷ ys) (pairs_push front x)

-- a name and a value behind the texts of the labels before
pub label_on : (front one two : List (Bor (List ℕ))) (name value : Bor (List ℕ)) (labels : Labels)
    (i : ℕ) (whole : List (List ℕ)) → slice_get labels i ≡ Some (name.now, value.now)
    → one ≡ front ++ name ∷ [] → two ≡ one ++ value ∷ []
    → bytes_of front ++ label_texts (drop i labels) ≡ whole
    → bytes_of two ++ label_texts (drop (i + 1) labels) ≡ whole
label_on front one two name value labels i whole here first second so_far =
    let both : bytes_of two ≡ bytes_of front ++ (name.now ∷ value.now ∷ []) =
    ap bytes_of second
    ∙ texts_push one value
    ∙ ap (λ (xs : List (Bor (List ℕ))). bytes_of xs ++ value.now ∷ []) first
    ∙ ap (λ (xs : List (List ℕ)). xs ++ value.now ∷ []) (texts_push front name)
    ∙ simp append_assoc in
    flat_on (λ (p : List ℕ × List ℕ). p.0 ∷ p.1 ∷ []) (bytes_of front) (bytes_of two) labels i
    (name.now, value.now) whole (drop_at labels i (name.now, value.now) here) both so_far

-- a pair behind the labels before
pub pair_on : (front next : List (Bor (List ℕ) × Bor (List ℕ))) (x : Bor (List ℕ) × Bor (List ℕ))
    (labels : Labels) (i : ℕ) (whole : Labels) → slice_get labels i ≡ Some (x.0.now, x.1.now)
    → next ≡ front ++ x ∷ []
    → texts_of front ++ drop i labels ≡ whole → texts_of next ++ drop (i + 1) labels ≡ whole
pair_on front next x labels i whole here step so_far =
    let all : texts_of front ++ ((x.0.now, x.1.now) ∷ drop (i + 1) labels) ≡ whole =
    rw (drop_at labels i (x.0.now, x.1.now) here) at so_far in
    rw (ap texts_of step ∙ pairs_push front x) (simp append_assoc all)

inside_at : {A : Type 0} (xs : List A) (i : ℕ) (a : A) → slice_get xs i ≡ Some a → i < length xs
inside_at [] i a e = absurd cc
inside_at (x ∷ xs) zero a e = omega arith
inside_at (x ∷ xs) (suc i) a e = omega (arith, inside_at xs i a e)

found_at : {A : Type 0} (xs : List A) (i : ℕ) (a : A) → slice_get xs i ≡ Some a → get_or xs i a ≡ a
found_at [] i a e = refl
found_at (x ∷ xs) zero a e = let p : x ≡ a = cc in p
found_at (x ∷ xs) (suc i) a e = found_at xs i a e

-- what holds of all labels holds of the one at a place
pub held_at : {A : Type 0} (P : A → Type 0) (xs : List A) (i : ℕ) (a : A)
    → slice_get xs i ≡ Some a → All P xs → P a
held_at P xs i a here all = subst P (found_at xs i a here) (all i a (inside_at xs i a here))
