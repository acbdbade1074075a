-- Chunks that are placed stay so when rows are added.
use Rattle.std.proofs.Common.{◌≡◌, ℕ, zero, suc, ◌+◌, ◌*◌, ◌<◌, ◌≤◌, ℤ, List, [], ◌∷◌, ◌++◌, length, drop, get_or, refl, sym, ap, ◌∙◌, append_assoc, arith, subst}
use Rattle.std.specs.Prelude.{slice_get, Some}
use Rattle.std.proofs.lemmas.List.{length-append, length-drop, append-nil}
use Rattle.std.proofs.Math.Seq.{drop-append_seam}
use Rattle.packed_chunks.specs.declared.form.Form.{Form}
use Rattle.packed_chunks.specs.declared.chunks.Placed.{Placed}
use Rattle.packed_chunks.specs.Packed.{samples_in, IsForm, HasRows}
use Rattle.packed_chunks.specs.Chunks.{chunk_in, chunks_in, IsPlaced, ArePlaced}

grown_one : (rows more : List ℕ) (p : Placed) → IsPlaced rows p → IsPlaced (rows ++ more) p
grown_one rows more p h = record {
  form = h.form;
  inside = let i = h.inside in omega (arith, i, length-append rows more);
  stands = λ behind.
      ap (λ (l : List ℕ). chunk_in l p) (append_assoc rows more behind)
      ∙ h.stands (more ++ behind) ∙ sym (h.stands more);
}

pub grown : (rows more all : List ℕ) (places : List Placed) → all ≡ rows ++ more → ArePlaced rows places → ArePlaced all places
grown rows more all [] e h = tt
grown rows more all (p ∷ places) e h =
    (subst (λ (l : List ℕ). IsPlaced l p) (sym e) (grown_one rows more p h.0), grown rows more all places e h.1)

pub same_chunks : (rows more all : List ℕ) (places : List Placed) → all ≡ rows ++ more → ArePlaced rows places
    → chunks_in all places ≡ chunks_in rows places
same_chunks rows more all [] e h = refl
same_chunks rows more all (p ∷ places) e h =
    let one : chunk_in all p ≡ chunk_in rows p = ap (λ (l : List ℕ). chunk_in l p) e ∙ h.0.stands more in
    let rest = same_chunks rows more all places e h.1 in
    rw (one, rest) refl

-- the chunk that is added last
pub added : (rows written all : List ℕ) (f : Form) (start : ℕ) (samples : List (ℤ × ℤ)) → IsForm f
    → start ≡ length rows → all ≡ rows ++ written → length written ≡ f.count * f.width + 8
    → ((more : List ℕ) → samples_in f (written ++ more) ≡ samples)
    → IsPlaced all (record { form = f; start = start }) × (chunk_in all (record { form = f; start = start }) ≡ samples)
added rows written all f start samples sound at e len means =
    let p : Placed = record { form = f; start = start } in
    let behind : (more : List ℕ) → drop start (all ++ more) ≡ written ++ more =
    λ (more : List ℕ).
    ap (λ (l : List ℕ). drop start (l ++ more)) e
    ∙ ap (λ (l : List ℕ). drop start l) (append_assoc rows written more)
    ∙ ap (λ (k : ℕ). drop k (rows ++ (written ++ more))) at
    ∙ drop-append_seam rows (written ++ more) in
    let reads : (more : List ℕ) → chunk_in (all ++ more) p ≡ samples =
    λ (more : List ℕ). ap (λ (l : List ℕ). samples_in f l) (behind more) ∙ means more in
    let now : chunk_in all p ≡ samples =
    ap (λ (l : List ℕ). chunk_in l p) (sym (append-nil all)) ∙ reads [] in (
      record {
        form = sound;
        inside = let l = ap length e in omega (arith, l, at, len, length-append rows written);
        stands = λ more. reads more ∙ sym now;
      },
      now,
    )

pub placed_last : (rows : List ℕ) (places : List Placed) (p : Placed) → ArePlaced rows places → IsPlaced rows p → ArePlaced rows (places ++ p ∷ [])
placed_last rows [] p h one = (one, tt)
placed_last rows (q ∷ places) p h one = (h.0, placed_last rows places p h.1 one)

pub chunks_last : (rows : List ℕ) (places : List Placed) (p : Placed) → chunks_in rows (places ++ p ∷ []) ≡ chunks_in rows places ++ chunk_in rows p ∷ []
chunks_last rows [] p = refl
chunks_last rows (q ∷ places) p = ap (λ (l : List (List (ℤ × ℤ))). chunk_in rows q ∷ l) (chunks_last rows places p)

-- one of them
pub placed_at : (rows : List ℕ) (places : List Placed) (n : ℕ) (p d : Placed) → n < length places → p ≡ get_or places n d
    → ArePlaced rows places → IsPlaced rows p × (slice_get (chunks_in rows places) n ≡ Some (chunk_in rows p))
placed_at rows [] n p d lt e h = absurd (omega arith)
placed_at rows (q ∷ places) zero p d lt e h =
    (subst (λ (x : Placed). IsPlaced rows x) (sym e) h.0, ap (λ (x : Placed). Some (chunk_in rows x)) (sym e))
placed_at rows (q ∷ places) (suc n) p d lt e h = placed_at rows places n p d (omega arith) e h.1

pub rows_behind : (rows : List ℕ) (p : Placed) → IsPlaced rows p → HasRows p.form (drop p.start rows)
rows_behind rows p h = let i = h.inside in omega (arith, i, length-drop p.start rows)

pub starts_within : (rows : List ℕ) (p : Placed) → IsPlaced rows p → p.start ≤ length rows
starts_within rows p h = let i = h.inside in omega (arith, i)
