-- A part whose deletions became more.
use Rattle.std.proofs.Common.{◌≡◌, ℕ, Bool, true, false, ◌&&◌, ◌||◌, List, [], ◌∷◌, refl, sym, ap}
use Rattle.std.proofs.Common.{◌∙◌, arith}
use Rattle.std.specs.Prelude.{ℤ, int_lt, int_le, not}
use Rattle.std.specs.Int.Signed.{◌<ℤ◌, ◌≤ℤ◌, lt_z_no}
use Rattle.std.specs.List.{filter}
use Rattle.std.proofs.lemmas.Int.{ints}
use Rattle.std.proofs.lemmas.List.Elements.{filter_agree}
use Rattle.labels.specs.Contents.{in_range}
use Rattle.labels.specs.Parts.{Part}
use Rattle.labels.proofs.Lists.{filter-filter}
use Rattle.labels.proofs.Times.{T_of}
use Rattle.index_reader.specs.Indexes.{Series}
use Rattle.tombstones.specs.declared.deletion.Deletion.{Deletion}
use Rattle.tombstones.specs.Covering.{are_covered, covered}
use Rattle.block.specs.Samples.{Source, samples_in, undeleted}
use Rattle.block.specs.Blocks.{series_row, part_of_series}
use Rattle.block.specs.Fewer.{is_among, row_without, part_without}
use Rattle.block.proofs.Turns.{below, upto, is_upto}

not_true : (b : Bool) → (b ≡ true → ⊥) → b ≡ false
not_true true h = absurd (h refl)
not_true false h = refl

not_below : (a b : ℤ) → b <ℤ a → int_le a b ≡ false
not_below a b lt =
    not_true (int_le a b) (λ h. let le : a ≤ℤ b = upto a b h in absurd (omega (arith, ints)))

-- not above is from the other side not below
le_is : (a b : ℤ) (t : Bool) → int_lt b a ≡ t → int_le a b ≡ not t
le_is a b true e = not_below a b (below b a e)
le_is a b false e = is_upto a b (lt_z_no (T_of _ (ap not e)))

within_is : (from to t : ℤ) → (int_le from t && int_le t to) ≡ in_range from to t
within_is from to t =
    ap (λ b. b && int_le t to) (le_is from t (int_lt t from) refl)
    ∙ ap (λ b. not (int_lt t from) && b) (le_is t to (int_lt to t) refl)

neither : (a b : Bool) → not (a || b) ≡ (not a && not b)
neither true b = refl
neither false b = refl

kept_is : (rs : List ℕ) (from to : ℤ) (ds held : List Deletion)
    → ((r : ℕ) (t : ℤ) → covered held r t ≡ (are_covered rs from to r t || covered ds r t))
    → (r : ℕ) (t : ℤ)
    → not (covered held r t) ≡ (not (is_among rs r && in_range from to t) && not (covered ds r t))
kept_is rs from to ds held h r t =
    ap not (h r t)
    ∙ neither (are_covered rs from to r t) (covered ds r t)
    ∙ ap (λ b. not (is_among rs r && b) && not (covered ds r t)) (within_is from to t)

fewer : (rs : List ℕ) (from to : ℤ) (ds held : List Deletion)
    → ((r : ℕ) (t : ℤ) → covered held r t ≡ (are_covered rs from to r t || covered ds r t))
    → (r : ℕ) (ss : List (ℤ × ℤ))
    → undeleted held r ss
    ≡ filter (λ (s : ℤ × ℤ). not (is_among rs r && in_range from to s.0)) (undeleted ds r ss)
fewer rs from to ds held h r ss =
    filter_agree (λ (s : ℤ × ℤ). not (covered held r s.0))
    (λ (s : ℤ × ℤ). not (is_among rs r && in_range from to s.0) && not (covered ds r s.0))
    (λ s. kept_is rs from to ds held h r s.0) ss
    ∙ sym (filter-filter (λ (s : ℤ × ℤ). not (is_among rs r && in_range from to s.0))
    (λ (s : ℤ × ℤ). not (covered ds r s.0)) ss)

-- the part of more deletions is the part without what they delete
pub part_fewer : (source : Source) (rs : List ℕ) (from to : ℤ) (ds held : List Deletion)
    (ss : List Series)
    → ((r : ℕ) (t : ℤ) → covered held r t ≡ (are_covered rs from to r t || covered ds r t))
    → part_of_series source held ss ≡ part_without rs from to (part_of_series source ds ss)
part_fewer source rs from to ds held [] h = refl
part_fewer source rs from to ds held (s ∷ ss) h =
    ap (λ (xs : List (ℤ × ℤ)). (s.reference, (s.labels, xs)) ∷ part_of_series source held ss)
    (fewer rs from to ds held h s.reference (samples_in source s.chunks))
    ∙ ap (λ (rows : Part). row_without rs from to (series_row source ds s) ∷ rows)
    (part_fewer source rs from to ds held ss h)

-- the same, of times as they were handed over
pub part_removed : (source : Source) (rs : List ℕ) (a b from to : ℤ) (ds held : List Deletion)
    (ss : List Series) → a ≡ from → b ≡ to
    → ((r : ℕ) (t : ℤ) → covered held r t ≡ (are_covered rs a b r t || covered ds r t))
    → part_of_series source held ss ≡ part_without rs from to (part_of_series source ds ss)
part_removed source rs a b from to ds held ss one two h =
    part_fewer source rs from to ds held ss (λ r t. h r t
    ∙ ap (λ (z : ℤ). are_covered rs z b r t || covered ds r t) one
    ∙ ap (λ (z : ℤ). are_covered rs from z r t || covered ds r t) two)
