-- Samples that are taken chunk by chunk, and rows series by series.
use Rattle.std.proofs.Common.{◌≡◌, ℕ, zero, suc, ◌+◌, ◌≤◌, Bool, true, false, cond, List, [], ◌∷◌, ◌++◌, length, drop, Some, Result, Ok, sym, ap, subst, ◌∙◌, append_assoc}
use Rattle.std.specs.Prelude.{ℤ, not, slice_get}
use Rattle.std.specs.List.{AllByRecursion}
use Rattle.std.proofs.lemmas.List.{drop_all, append-nil}
use Rattle.std.proofs.lemmas.List.Elements.{filter-append}
use Rattle.labels.specs.Labels.{Labels}
use Rattle.labels.specs.Parts.{Part}
use Rattle.labels.specs.Rows.{Row}
use Rattle.tombstones.specs.declared.deletion.Deletion.{Deletion}
use Rattle.tombstones.specs.Covering.{covered}
use Rattle.block_walk.specs.declared.chunk.Chunk.{Chunk}
use Rattle.block_walk.specs.declared.error.WalkError.{WalkError}
use Rattle.block_walk.specs.IndexFile.Outcome.{Gives}
use Rattle.block_walk.specs.IndexFile.Series.{Series, references, label_sets, chunk_lists}
use Rattle.block_walk.specs.BlockFiles.Samples.{chunk_samples, samples_in, undeleted, part_of}
use Rattle.block_walk.proofs.BlockFiles.Steps.{from_place}

abbrev pub is_kept : List Deletion → ℕ → ℤ × ℤ → Bool
is_kept ds r s = not (covered ds r s.0)

-- ---- the samples of a chunk

pub kept_on : (ds : List Deletion) (r : ℕ) (xs : List (ℤ × ℤ)) (i : ℕ) (x : ℤ × ℤ)
    (front after all : List (ℤ × ℤ)) → slice_get xs i ≡ Some x → is_kept ds r x ≡ true
    → after ≡ front ++ x ∷ []
    → front ++ undeleted ds r (drop i xs) ≡ all → after ++ undeleted ds r (drop (i + 1) xs) ≡ all
kept_on ds r xs i x front after all g k e h =
    let here : undeleted ds r (drop i xs) ≡ x ∷ undeleted ds r (drop (i + 1) xs) =
    ap (undeleted ds r) (from_place xs i x g)
    ∙ ap (λ (b : Bool). cond b (x ∷ undeleted ds r (drop (i + 1) xs))
    (undeleted ds r (drop (i + 1) xs))) k in
    ap (λ (ys : List (ℤ × ℤ)). ys ++ undeleted ds r (drop (i + 1) xs)) e
    ∙ append_assoc front (x ∷ []) (undeleted ds r (drop (i + 1) xs))
    ∙ ap (λ (ys : List (ℤ × ℤ)). front ++ ys) (sym here)
    ∙ h

pub left_out : (ds : List Deletion) (r : ℕ) (xs : List (ℤ × ℤ)) (i : ℕ) (x : ℤ × ℤ)
    (front all : List (ℤ × ℤ)) → slice_get xs i ≡ Some x → is_kept ds r x ≡ false
    → front ++ undeleted ds r (drop i xs) ≡ all → front ++ undeleted ds r (drop (i + 1) xs) ≡ all
left_out ds r xs i x front all g k h =
    let here : undeleted ds r (drop i xs) ≡ undeleted ds r (drop (i + 1) xs) =
    ap (undeleted ds r) (from_place xs i x g)
    ∙ ap (λ (b : Bool). cond b (x ∷ undeleted ds r (drop (i + 1) xs))
    (undeleted ds r (drop (i + 1) xs))) k in
    ap (λ (ys : List (ℤ × ℤ)). front ++ ys) (sym here) ∙ h

pub all_kept : (ds : List Deletion) (r : ℕ) (xs : List (ℤ × ℤ)) (i : ℕ) (front all : List (ℤ × ℤ))
    → length xs ≤ i → front ++ undeleted ds r (drop i xs) ≡ all → front ≡ all
all_kept ds r xs i front all le h =
    sym (ap (λ (ys : List (ℤ × ℤ)). front ++ undeleted ds r ys) (drop_all i xs le)
    ∙ append-nil front)
    ∙ h

-- ---- the samples of chunks

pub chunk_on : (ds : List Deletion) (r : ℕ) (file : List ℕ) (cs : List Chunk) (i : ℕ) (c : Chunk)
    (front after all : List (ℤ × ℤ)) → slice_get cs i ≡ Some c
    → after ≡ front ++ undeleted ds r (chunk_samples file c)
    → front ++ undeleted ds r (samples_in file (drop i cs)) ≡ all
    → after ++ undeleted ds r (samples_in file (drop (i + 1) cs)) ≡ all
chunk_on ds r file cs i c front after all g e h =
    let more = samples_in file (drop (i + 1) cs) in
    let here : undeleted ds r (samples_in file (drop i cs))
    ≡ undeleted ds r (chunk_samples file c) ++ undeleted ds r more =
    ap (λ (ys : List Chunk). undeleted ds r (samples_in file ys)) (from_place cs i c g)
    ∙ filter-append (is_kept ds r) (chunk_samples file c) more in
    ap (λ (ys : List (ℤ × ℤ)). ys ++ undeleted ds r more) e
    ∙ append_assoc front (undeleted ds r (chunk_samples file c)) (undeleted ds r more)
    ∙ ap (λ (ys : List (ℤ × ℤ)). front ++ ys) (sym here)
    ∙ h

pub chunks_end : (ds : List Deletion) (r : ℕ) (file : List ℕ) (cs : List Chunk) (i : ℕ)
    (front all : List (ℤ × ℤ)) → length cs ≤ i
    → front ++ undeleted ds r (samples_in file (drop i cs)) ≡ all → front ≡ all
chunks_end ds r file cs i front all le h =
    sym (ap (λ (ys : List Chunk). front ++ undeleted ds r (samples_in file ys)) (drop_all i cs le)
    ∙ append-nil front)
    ∙ h

-- ---- a row

pub held_there : {X : Type 0} (P : X → Type 0) (xs : List X) (i : ℕ) (x : X) → AllByRecursion P xs
    → slice_get xs i ≡ Some x → P x
held_there P [] i x a g = absurd cc
held_there P (y ∷ xs) zero x a g = let e : y ≡ x = cc in subst P e a.0
held_there P (y ∷ xs) (suc i) x a g = held_there P xs i x a.1 g

abbrev made : ℕ → Labels → List (ℤ × ℤ) → ℕ × Row
made r l s = (r, (l, s))

same_row : (r r' : ℕ) (l l' : Labels) (s s' : List (ℤ × ℤ)) → r' ≡ r → l' ≡ l → s' ≡ s
    → made r' l' s' ≡ made r l s
same_row r r' l l' s s' e f g =
    ap (λ (x : ℕ). made x l' s') e ∙ ap (λ (x : Labels). made r x s') f ∙ ap (made r l) g

-- the row of the series at a place, by its parts
pub row_there : (file : List ℕ) (ds : List Deletion) (ss : List Series) (i r : ℕ) (l : Labels)
    (cs : List Chunk) (samples : List (ℤ × ℤ)) → slice_get (references ss) i ≡ Some r
    → slice_get (label_sets ss) i ≡ Some l → slice_get (chunk_lists ss) i ≡ Some cs
    → samples ≡ undeleted ds r (samples_in file cs)
    → slice_get (part_of file ds ss) i ≡ Some (r, (l, samples))
row_there file ds [] i r l cs samples a b c e = absurd cc
row_there file ds (s ∷ ss) zero r l cs samples a b c e =
    let er : s.reference ≡ r = cc in
    let el : s.labels ≡ l = cc in
    let ec : s.chunks ≡ cs = cc in
    let es : undeleted ds s.reference (samples_in file s.chunks) ≡ samples =
    ap (λ (x : ℕ). undeleted ds x (samples_in file s.chunks)) er
    ∙ ap (λ (x : List Chunk). undeleted ds r (samples_in file x)) ec
    ∙ sym e in
    ap (λ (row : ℕ × Row). Some row) (same_row r s.reference l s.labels samples
    (undeleted ds s.reference (samples_in file s.chunks)) er el es)
row_there file ds (s ∷ ss) (suc i) r l cs samples a b c e =
    row_there file ds ss i r l cs samples a b c e

-- ---- what is spelled so is given

pub is_only : (part : Part) (read : Result Part WalkError) (r : Result Part WalkError)
    → Gives (λ (t : Part). t) r read → read ≡ Ok part → Gives (λ (t : Part). t) r (Ok part)
is_only part read r exact e = subst (Gives (λ (t : Part). t) r) e exact
