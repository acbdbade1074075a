-- A body: its labels, and then its chunks.
use Rattle.std.proofs.Common.{◌≡◌, ℕ, Bool, true, false, eqb, List, [], ◌∷◌, ◌++◌, length, Result}
use Rattle.std.proofs.Common.{Ok, Err, refl, sym, ap, ◌∙◌, arith}
use Rattle.std.specs.Prelude.{◌↔◌, IsTrue}
use Rattle.std.proofs.lemmas.Bool.{eqb-true, false_from_ne_true}
use Rattle.index_reader.specs.declared.error.IndexError.{IndexError}
use Rattle.index_reader.specs.declared.error.IndexError.TheVariants.{Memory, Series}
use Rattle.index_reader.specs.Outcome.{Fails}
use Rattle.index_reader.specs.declared.chunk.Chunk.{Chunk}
use Rattle.index_reader.specs.Reading.Steps.{with_front}
use Rattle.index_reader.specs.Layout.{Label}
use Rattle.index_reader.specs.Reading.Bodies.{labels_at, chunks_at, body_at, behind_both}
use Rattle.index_reader.proofs.Stepping.{front_ok, front_fails}

abbrev both : List Label → List Chunk → Result (List Label × List Chunk) IndexError
both xs ys = Ok (xs, ys)

pub empty_is : (xs : List ℕ) (b : Bool) → IsTrue b ↔ (xs ≡ []) → eqb (length xs) 0 ≡ b
empty_is [] b h = sym (h.1 refl)
empty_is (x ∷ xs) true h = let e : x ∷ xs ≡ [] = h.0 refl in absurd cc
empty_is (x ∷ xs) false h =
    false_from_ne_true (eqb (length (x ∷ xs)) 0)
    (λ t. let e = eqb-true (length (x ∷ xs)) 0 t in omega arith)

pub labels_fail : (e : IndexError) (ls : List Label) (cs : List Chunk) (symbols : List (List ℕ))
    (b : List ℕ) → Fails e (with_front ls (labels_at symbols b))
    → Fails e (behind_both ls cs (body_at symbols b))
unfolding body_at
labels_fail Memory ls cs symbols b f = tt
labels_fail e ls cs symbols b f =
    let h : labels_at symbols b ≡ Err e = front_fails e ls (labels_at symbols b) f in rw h refl

pub chunks_fail : (e : IndexError) (ls xs : List Label) (cs : List Chunk) (symbols : List (List ℕ))
    (b : List ℕ) (s : ℕ × List ℕ) → with_front ls (labels_at symbols b) ≡ Ok (xs, s)
    → Fails e (with_front cs (chunks_at s.1)) → Fails e (behind_both ls cs (body_at symbols b))
unfolding body_at
chunks_fail Memory ls xs cs symbols b s l f = tt
chunks_fail e ls xs cs symbols b s l f =
    let p = front_ok ls xs s (labels_at symbols b) l in
    let h : chunks_at s.1 ≡ Err e = front_fails e cs (chunks_at s.1) f in
    rw (p.1, h) refl

pub ends_well : (ls xs : List Label) (cs ys : List Chunk) (symbols : List (List ℕ)) (b : List ℕ)
    (s : ℕ × List ℕ) (t : Chunk × List ℕ) → with_front ls (labels_at symbols b) ≡ Ok (xs, s)
    → with_front cs (chunks_at s.1) ≡ Ok (ys, t) → eqb (length t.1) 0 ≡ true
    → behind_both ls cs (body_at symbols b) ≡ Ok (xs, ys)
unfolding body_at
ends_well ls xs cs ys symbols b s t l c e =
    let p = front_ok ls xs s (labels_at symbols b) l in
    let q = front_ok cs ys t (chunks_at s.1) c in
    rw (p.1, q.1, e) (ap (λ (v : List Label). both v (cs ++ q.0)) (sym p.2)
    ∙ ap (both xs) (sym q.2))

pub ends_late : (ls xs : List Label) (cs ys : List Chunk) (symbols : List (List ℕ)) (b : List ℕ)
    (s : ℕ × List ℕ) (t : Chunk × List ℕ) → with_front ls (labels_at symbols b) ≡ Ok (xs, s)
    → with_front cs (chunks_at s.1) ≡ Ok (ys, t) → eqb (length t.1) 0 ≡ false
    → behind_both ls cs (body_at symbols b) ≡ Err Series
unfolding body_at
ends_late ls xs cs ys symbols b s t l c e =
    let p = front_ok ls xs s (labels_at symbols b) l in
    let q = front_ok cs ys t (chunks_at s.1) c in
    rw (p.1, q.1, e) refl
