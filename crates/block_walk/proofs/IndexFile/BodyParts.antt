-- A body: its labels, and then its chunks.
use Rattle.std.proofs.Common.{◌≡◌, ℕ, true, false, eqb, List, ◌++◌, length, Result, Ok, Err, refl, sym, ap, ◌∙◌}
use Rattle.block_walk.specs.declared.error.WalkError.{WalkError}
use Rattle.block_walk.specs.declared.error.WalkError.TheVariants.{Memory, Series}
use Rattle.block_walk.specs.IndexFile.Outcome.{Fails}
use Rattle.block_walk.specs.declared.chunk.Chunk.{Chunk}
use Rattle.block_walk.specs.IndexFile.Steps.{with_front}
use Rattle.block_walk.specs.IndexFile.Layout.{Label}
use Rattle.block_walk.specs.IndexFile.Bodies.{labels_at, chunks_at, body_at, behind_both}
use Rattle.block_walk.proofs.IndexFile.Stepping.{front_ok, front_fails}

abbrev both : List Label → List Chunk → Result (List Label × List Chunk) WalkError
both xs ys = Ok (xs, ys)

pub labels_fail : (e : WalkError) (ls : List Label) (cs : List Chunk) (symbols : List (List ℕ))
    (b : List ℕ) → Fails e (with_front ls (labels_at symbols b))
    → Fails e (behind_both ls cs (body_at symbols b))
unfolding body_at
labels_fail Memory ls cs symbols b f = tt
labels_fail e ls cs symbols b f =
    let h : labels_at symbols b ≡ Err e = front_fails e ls (labels_at symbols b) f in rw h refl

pub chunks_fail : (e : WalkError) (ls xs : List Label) (cs : List Chunk) (symbols : List (List ℕ))
    (b : List ℕ) (s : ℕ × List ℕ) → with_front ls (labels_at symbols b) ≡ Ok (xs, s)
    → Fails e (with_front cs (chunks_at s.1)) → Fails e (behind_both ls cs (body_at symbols b))
unfolding body_at
chunks_fail Memory ls xs cs symbols b s l f = tt
chunks_fail e ls xs cs symbols b s l f =
    let p = front_ok ls xs s (labels_at symbols b) l in
    let h : chunks_at s.1 ≡ Err e = front_fails e cs (chunks_at s.1) f in
    rw (p.1, h) refl

pub ends_well : (ls xs : List Label) (cs ys : List Chunk) (symbols : List (List ℕ)) (b : List ℕ)
    (s : ℕ × List ℕ) (t : Chunk × List ℕ) → with_front ls (labels_at symbols b) ≡ Ok (xs, s)
    → with_front cs (chunks_at s.1) ≡ Ok (ys, t) → eqb (length t.1) 0 ≡ true
    → behind_both ls cs (body_at symbols b) ≡ Ok (xs, ys)
unfolding body_at
ends_well ls xs cs ys symbols b s t l c e =
    let p = front_ok ls xs s (labels_at symbols b) l in
    let q = front_ok cs ys t (chunks_at s.1) c in
    rw (p.1, q.1, e) (ap (λ (v : List Label). both v (cs ++ q.0)) (sym p.2)
    ∙ ap (both xs) (sym q.2))

pub ends_late : (ls xs : List Label) (cs ys : List Chunk) (symbols : List (List ℕ)) (b : List ℕ)
    (s : ℕ × List ℕ) (t : Chunk × List ℕ) → with_front ls (labels_at symbols b) ≡ Ok (xs, s)
    → with_front cs (chunks_at s.1) ≡ Ok (ys, t) → eqb (length t.1) 0 ≡ false
    → behind_both ls cs (body_at symbols b) ≡ Err Series
unfolding body_at
ends_late ls xs cs ys symbols b s t l c e =
    let p = front_ok ls xs s (labels_at symbols b) l in
    let q = front_ok cs ys t (chunks_at s.1) c in
    rw (p.1, q.1, e) refl
