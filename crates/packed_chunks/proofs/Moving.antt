-- Chunks that are moved after others.
use Rattle.std.proofs.Common.{◌≡◌, ℕ, zero, suc, ◌+◌, ◌<◌, ℤ, List, [], ◌∷◌, ◌++◌, length, drop, take, get_or, refl, sym, ap, ◌∙◌, append_assoc, arith, map, subst}
use Rattle.std.proofs.lemmas.List.{length-append}
use Rattle.std.proofs.Math.Seq.{drop-append-add}
use Rattle.packed_chunks.specs.declared.chunks.Placed.{Placed}
use Rattle.packed_chunks.specs.Packed.{samples_in}
use Rattle.packed_chunks.specs.Chunks.{chunk_in, chunks_in, moved, IsPlaced, ArePlaced}

-- what is read where there is no chunk
abbrev pub nowhere : Placed
nowhere = record {
  form = record { first_time = 0; first_value = 0; value_step = 0; time_step = 0; count = 0; width = 0; time_bits = 0; value_place = 0; skipped = 0; value_bits = 0; scale = 0 };
  start = 0;
}

pub moved_next : (by : ℕ) (ps : List Placed) (i : ℕ) (p d : Placed) → i < length ps → p ≡ get_or ps i d
    → map (moved by) (take (i + 1) ps) ≡ map (moved by) (take i ps) ++ moved by p ∷ []
moved_next by [] i p d lt e = absurd (omega arith)
moved_next by (q ∷ ps) zero p d lt e = ap (λ (x : Placed). moved by x ∷ []) (sym e)
moved_next by (q ∷ ps) (suc i) p d lt e =
    let one : suc i + 1 ≡ suc (i + 1) = omega arith in
    ap (λ (k : ℕ). map (moved by) (take k (q ∷ ps))) one
    ∙ ap (λ (l : List Placed). moved by q ∷ l) (moved_next by ps i p d (omega arith) e)

one_behind : (rows behind more : List ℕ) (by : ℕ) (p : Placed) → by ≡ length rows
    → chunk_in ((rows ++ behind) ++ more) (moved by p) ≡ chunk_in (behind ++ more) p
one_behind rows behind more by p at =
    let e : p.start + by ≡ length rows + p.start = omega (arith, at) in
    ap (λ (l : List ℕ). samples_in p.form l) (
    ap (λ (l : List ℕ). drop (p.start + by) l) (append_assoc rows behind more)
    ∙ ap (λ (k : ℕ). drop k (rows ++ (behind ++ more))) e
    ∙ drop-append-add rows (behind ++ more) p.start)

same_behind : (rows behind : List ℕ) (by : ℕ) (p : Placed) → by ≡ length rows
    → chunk_in (rows ++ behind) (moved by p) ≡ chunk_in behind p
same_behind rows behind by p at =
    let e : p.start + by ≡ length rows + p.start = omega (arith, at) in
    ap (λ (l : List ℕ). samples_in p.form l) (
    ap (λ (k : ℕ). drop k (rows ++ behind)) e ∙ drop-append-add rows behind p.start)

pub moved_placed : (rows behind all : List ℕ) (by : ℕ) (ps : List Placed) → by ≡ length rows → all ≡ rows ++ behind
    → ArePlaced behind ps → ArePlaced all (map (moved by) ps)
moved_placed rows behind all by [] at e h = tt
moved_placed rows behind all by (p ∷ ps) at e h =
    let one : IsPlaced (rows ++ behind) (moved by p) = record {
      form = h.0.form;
      inside = let i = h.0.inside in omega (arith, i, at, length-append rows behind);
      stands = λ more. one_behind rows behind more by p at ∙ h.0.stands more ∙ sym (same_behind rows behind by p at);
    } in
    (subst (λ (l : List ℕ). IsPlaced l (moved by p)) (sym e) one, moved_placed rows behind all by ps at e h.1)

pub moved_chunks : (rows behind all : List ℕ) (by : ℕ) (ps : List Placed) → by ≡ length rows → all ≡ rows ++ behind
    → chunks_in all (map (moved by) ps) ≡ chunks_in behind ps
moved_chunks rows behind all by [] at e = refl
moved_chunks rows behind all by (p ∷ ps) at e =
    let one : chunk_in all (moved by p) ≡ chunk_in behind p = ap (λ (l : List ℕ). chunk_in l (moved by p)) e ∙ same_behind rows behind by p at in
    let rest = moved_chunks rows behind all by ps at e in
    rw (one, rest) refl

pub both_placed : (rows : List ℕ) (ps qs : List Placed) → ArePlaced rows ps → ArePlaced rows qs → ArePlaced rows (ps ++ qs)
both_placed rows [] qs h k = k
both_placed rows (p ∷ ps) qs h k = (h.0, both_placed rows ps qs h.1 k)

pub both_chunks : (rows : List ℕ) (ps qs : List Placed) → chunks_in rows (ps ++ qs) ≡ chunks_in rows ps ++ chunks_in rows qs
both_chunks rows [] qs = refl
both_chunks rows (p ∷ ps) qs = ap (λ (l : List (List (ℤ × ℤ))). chunk_in rows p ∷ l) (both_chunks rows ps qs)
