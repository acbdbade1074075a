-- What holds of the elements that were walked.
use Rattle.std.proofs.Common.{◌≡◌, ℕ, ◌+◌, ◌<◌, ◌≤◌, List, [], ◌∷◌, ◌++◌, length, get_or, take}
use Rattle.std.proofs.Common.{drop, Some, refl, sym, ap, subst, ◌∙◌, append_assoc, arith}
use Rattle.std.specs.Prelude.{slice_get}
use Rattle.std.specs.List.{All}
use Rattle.std.proofs.lemmas.List.{take_all, take-append-drop}
use Rattle.std.proofs.lemmas.List.Elements.{All-more, All-append}
use Rattle.std.proofs.lemmas.Option.{slice_get_read, slice_get_within, get_or_from_slice_get}
use Rattle.labels.specs.Labels.{Labels}
use Rattle.block_writer.specs.InUse.{label_texts}
use Rattle.block_writer.proofs.Walking.{drop_at, flat_on}

-- the element at a place, and those after it
pub drop_read : {X : Type 0} (xs : List X) (i : ℕ) (x : X) → i < length xs → x ≡ get_or xs i x
    → drop i xs ≡ x ∷ drop (i + 1) xs
drop_read xs i x lt read = drop_at xs i x (slice_get_read xs (length xs) i x refl lt read)

-- one element more
pub all_and : {X : Type 0} (P : X → Type 0) (xs : List X) (i : ℕ) (x : X) → i < length xs
    → x ≡ get_or xs i x → All P (take i xs) → P x → All P (take (i + 1) xs)
all_and P xs i x lt read before here = All-more P xs i x lt before (subst P read here)

-- one element more, as a list lends it
pub all_and_lent : {X : Type 0} (P : X → Type 0) (xs : List X) (i : ℕ) (x : X)
    → slice_get xs i ≡ Some x → All P (take i xs) → P x → All P (take (i + 1) xs)
all_and_lent P xs i x lent before here =
    All-more P xs i x (slice_get_within xs i x lent) before
    (subst P (sym (get_or_from_slice_get xs i x x lent)) here)

-- and all
pub all_of_them : {X : Type 0} (P : X → Type 0) (xs : List X) (i : ℕ) → length xs ≤ i
    → All P (take i xs) → All P xs
all_of_them P xs i le all = subst (All P) (take_all i xs le) all

-- what holds of a piece and of those after it
pub all_joined : {X : Type 0} (P : X → Type 0) (rest piece after : List X) → piece ≡ take 120 rest
    → after ≡ drop 120 rest → All P piece → All P after → All P rest
all_joined P rest piece after front back one two =
    subst (All P) (take-append-drop 120 rest) (All-append P (take 120 rest) (drop 120 rest)
    (subst (All P) front one) (subst (All P) back two))

pub all_none : {X : Type 0} (P : X → Type 0) (xs : List X) → length xs ≡ 0 → All P xs
all_none P xs none = λ k d lt. absurd (omega (arith, lt))

-- a name and a value behind the texts of the labels before
pub texts_on : (front one two : List (List ℕ)) (name value : List ℕ) (labels : Labels) (i : ℕ)
    (whole : List (List ℕ)) → slice_get labels i ≡ Some (name, value) → one ≡ front ++ name ∷ []
    → two ≡ one ++ value ∷ []
    → front ++ label_texts (drop i labels) ≡ whole
    → two ++ label_texts (drop (i + 1) labels) ≡ whole
texts_on front one two name value labels i whole here first second so_far =
    let both : two ≡ front ++ (name ∷ value ∷ []) =
    second ∙ ap (λ (xs : List (List ℕ)). xs ++ value ∷ []) first ∙ simp append_assoc in
    flat_on (λ (p : List ℕ × List ℕ). p.0 ∷ p.1 ∷ []) front two labels i (name, value) whole
    (drop_at labels i (name, value) here) both so_far
