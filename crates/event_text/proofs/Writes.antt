-- Items that are written one after another.
use Rattle.std.proofs.Common.{◌≡◌, ◌+◌, ◌<◌, ◌≤◌, ℕ, ℤ, List, [], ◌∷◌, ◌++◌, Some, option_map}
use Rattle.std.proofs.Common.{length, take, get_or, refl, sym, ap, ◌∙◌, append_assoc, arith}
use Rattle.std.specs.Prelude.{slice_get}
use Rattle.std.specs.List.{flat_map}
use Rattle.std.proofs.lemmas.Grind.{take_at_read, flat_map-append}
use Rattle.std.proofs.lemmas.List.{append-nil, length-map, take_all}
use Rattle.std.proofs.lemmas.List.Concat.{flat_map-cons}
use Rattle.std.proofs.lemmas.Option.{slice_get_within, get_or_from_slice_get}
use Rattle.std.proofs.lemmas.Option.{slice_get_read, slice_get-map}
use Rattle.wire.specs.Spelling.{uvarint}
use Rattle.labels.specs.Labels.{Labels}
use Rattle.head.specs.Worlds.{Batch}
use Rattle.event_text.specs.Runs.{values_in}
use Rattle.event_text.specs.Spelling.{many_text, sample_text}

pub take_next : {X : Type 0} (xs : List X) (i : ℕ) (x : X) → slice_get xs i ≡ Some x
    → take (i + 1) xs ≡ take i xs ++ x ∷ []
take_next xs i x h =
    (take_at_read xs i x (slice_get_within xs i x h)).1
    ∙ ap (λ y. take i xs ++ y ∷ []) (get_or_from_slice_get xs i x x h)

one_item : {X : Type 0} (text : X → List ℕ) (x : X) → flat_map text (x ∷ []) ≡ text x
one_item text x = flat_map-cons text x [] ∙ append-nil (text x)

pub item_more : {X : Type 0} (text : X
    → List ℕ) (old count out new : List ℕ) (xs : List X) (i : ℕ) (x : X)
    → slice_get xs i ≡ Some x → out ≡ old ++ (count ++ flat_map text (take i xs))
    → new ≡ out ++ text x
    → new ≡ old ++ (count ++ flat_map text (take (i + 1) xs))
item_more {X} text old count out new xs i x h so_far wrote =
    let all : flat_map text (take (i + 1) xs) ≡ flat_map text (take i xs) ++ text x =
    ap (flat_map text) (take_next xs i x h)
    ∙ (flat_map-append text (take i xs) (x ∷ [])
    ∙ ap (λ (y : List ℕ). flat_map text (take i xs) ++ y) (one_item text x)) in
    wrote
    ∙ (ap (λ (y : List ℕ). y ++ text x) so_far
    ∙ (append_assoc old (count ++ flat_map text (take i xs)) (text x)
    ∙ ap (λ (y : List ℕ). old ++ y)
    (append_assoc count (flat_map text (take i xs)) (text x)
    ∙ ap (λ (y : List ℕ). count ++ y) (sym all))))

-- the value of the item that a loop read
pub value_at : (xs : Batch) (i : ℕ) (x : Labels × (ℤ × ℤ)) → i < length xs → x ≡ get_or xs i x
    → slice_get (values_in xs) i ≡ Some x.1
value_at xs i x lt read =
    slice_get-map (λ (y : Labels × (ℤ × ℤ)). y.1) xs i
    ∙ ap (option_map (λ (y : Labels × (ℤ
    × ℤ)). y.1)) (slice_get_read xs (length xs) i x refl lt read)

pub samples_begun : (old counted out count first : List ℕ) → counted ≡ old ++ count
    → out ≡ counted ++ first
    → out ≡ old ++ ((count ++ first) ++ [])
samples_begun old counted out count first one two =
    two
    ∙ (ap (λ (y : List ℕ). y ++ first) one
    ∙ (append_assoc old count first
    ∙ ap (λ (y : List ℕ). old ++ y) (sym (append-nil (count ++ first)))))

pub samples_end : (old out : List ℕ) (first : ℤ × ℤ) (xs : Batch) (i : ℕ) → length xs ≤ i
    → out ≡ old ++ ((uvarint (length xs + 1) ++ sample_text first) ++ flat_map sample_text (take i (values_in xs)))
    → out ≡ old ++ many_text sample_text (first ∷ values_in xs)
samples_end old out first xs i past so_far =
    let vs = values_in xs in
    let all : take i vs ≡ vs = take_all i vs (omega (
      arith,
      length-map xs (λ (y : Labels × (ℤ
          × ℤ)). y.1),
    )) in
    let count : length xs + 1 ≡ length (first ∷ vs) =
    omega (arith, length-map xs (λ (y : Labels × (ℤ × ℤ)). y.1)) in
    so_far
    ∙ ap (λ (y : List ℕ). old ++ y)
    (ap (λ (ys : List (ℤ
    × ℤ)). (uvarint (length xs + 1) ++ sample_text first) ++ flat_map sample_text ys) all
    ∙ (append_assoc (uvarint (length xs + 1)) (sample_text first) (flat_map sample_text vs)
    ∙ (ap (λ (y : List ℕ). uvarint (length xs + 1) ++ y) (sym (flat_map-cons sample_text first vs))
    ∙ ap (λ (n : ℕ). uvarint n ++ flat_map sample_text (first ∷ vs)) count)))
