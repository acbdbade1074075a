-- Flat lists that grow keep their bodies.
use Rattle.std.proofs.Common.{◌≡◌, ℕ, suc, ◌-◌, ◌≤◌, List, [], ◌∷◌, ◌++◌, length, take, drop, Result, Ok, Err, refl, sym, ap, ◌∙◌, inl, inr, arith}
use Rattle.std.specs.Prelude.{slice_range}
use Rattle.std.proofs.lemmas.Bool.{cases_lt}
use Rattle.std.proofs.lemmas.List.{length-append, length-drop, drop-append-le, take-append-le, get_or_append_left, map_push, drop_at, take_all, get_or_at, length_push}
use Rattle.block_walk.specs.declared.error.WalkError.{WalkError}
use Rattle.block_walk.specs.declared.error.WalkError.TheVariants.{Memory}
use Rattle.block_walk.specs.IndexFile.Outcome.{Fails}
use Rattle.block_walk.specs.declared.chunk.Chunk.{Chunk}
use Rattle.block_walk.specs.IndexFile.Layout.{Label, Body}
use Rattle.block_walk.specs.IndexFile.Bodies.{behind_both}
use Rattle.block_walk.specs.declared.bodies.Span.{Span}
use Rattle.block_walk.specs.IndexFile.Flat.{body_in, bodies_in, IsIn, AllIn}

pub range_grown : {X : Type 0} (xs more : List X) (a b : ℕ) → a ≤ b → b ≤ length xs
    → slice_range (xs ++ more) a b ≡ slice_range xs a b
range_grown xs more a b le fits =
    ap (take (b - a)) (drop-append-le a xs more (omega arith))
    ∙ take-append-le (b - a) (drop a xs) more (omega (arith, length-drop a xs))

pub range_end : {X : Type 0} (xs ys : List X)
    → slice_range (xs ++ ys) (length xs) (length (xs ++ ys)) ≡ ys
range_end xs ys =
    ap (take (length (xs ++ ys) - length xs)) (drop_at xs ys (length xs) refl)
    ∙ take_all _ ys (omega (arith, length-append xs ys))

body_grown : (ls ls' : List Label) (cs cs' : List Chunk) (r : Span) → IsIn ls cs r
    → body_in (ls ++ ls') (cs ++ cs') r ≡ body_in ls cs r
body_grown ls ls' cs cs' r h =
    let e = range_grown ls ls' r.labels_start r.labels_end h.labels_ordered h.labels_inside in
    let f = range_grown cs cs' r.chunks_start r.chunks_end h.chunks_ordered h.chunks_inside in
    rw (e, f) refl

bodies_grown : (ls ls' : List Label) (cs cs' : List Chunk) (rs : List Span) → AllIn ls cs rs
    → bodies_in (ls ++ ls') (cs ++ cs') rs ≡ bodies_in ls cs rs
bodies_grown ls ls' cs cs' [] h = refl
bodies_grown ls ls' cs cs' (r ∷ rs) h =
    let one = body_grown ls ls' cs cs' r (h 0 r (omega arith)) in
    let others = bodies_grown ls ls' cs cs' rs (λ k d lt. h (suc k) d (omega arith)) in
    rw (one, others) refl

-- what a body adds
pub both_ok : (ls ls' : List Label) (cs cs' : List Chunk) (read : Result Body WalkError)
    → behind_both ls cs read ≡ Ok (ls', cs')
    → (b : Body) × (read ≡ Ok b) × (ls' ≡ ls ++ b.labels) × (cs' ≡ cs ++ b.chunks)
both_ok ls ls' cs cs' (Ok b) h =
    let made : List Label × List Chunk = (ls ++ b.labels, cs ++ b.chunks) in
    let given : List Label × List Chunk = (ls', cs') in
    let e : made ≡ given = cc in (
      b,
      refl,
      sym (ap (λ (p : List Label × List Chunk). p.0) e),
      sym (ap (λ (p : List Label × List Chunk). p.1) e),
    )
both_ok ls ls' cs cs' (Err e) h = absurd cc

pub both_fails : (e : WalkError) (ls : List Label) (cs : List Chunk) (read : Result Body WalkError)
    → Fails e (behind_both ls cs read) → Fails e read
both_fails Memory ls cs read f = tt
both_fails e ls cs (Ok b) f = absurd cc
both_fails e ls cs (Err g) f = cc

pub bodies_added : (ls : List Label) (cs : List Chunk) (rs : List Span) (b : Body) (r : Span)
    → AllIn ls cs rs → r.labels_start ≡ length ls → r.labels_end ≡ length (ls ++ b.labels)
    → r.chunks_start ≡ length cs → r.chunks_end ≡ length (cs ++ b.chunks)
    → bodies_in (ls ++ b.labels) (cs ++ b.chunks) (rs ++ r ∷ []) ≡ bodies_in ls cs rs ++ b ∷ []
bodies_added ls cs rs b r h s e s' e' =
    let same = bodies_grown ls b.labels cs b.chunks rs h in
    let one : body_in (ls ++ b.labels) (cs ++ b.chunks) r ≡ b =
    rw (s, e, s', e', range_end ls b.labels, range_end cs b.chunks) refl in
    map_push (body_in (ls ++ b.labels) (cs ++ b.chunks)) rs r
    ∙ ap (λ (xs : List Body). xs ++ body_in (ls ++ b.labels) (cs ++ b.chunks) r ∷ []) same
    ∙ ap (λ (x : Body). bodies_in ls cs rs ++ x ∷ []) one

pub all_added : (ls : List Label) (cs : List Chunk) (rs : List Span) (b : Body) (r : Span)
    → AllIn ls cs rs → r.labels_start ≡ length ls → r.labels_end ≡ length (ls ++ b.labels)
    → r.chunks_start ≡ length cs → r.chunks_end ≡ length (cs ++ b.chunks)
    → AllIn (ls ++ b.labels) (cs ++ b.chunks) (rs ++ r ∷ [])
all_added ls cs rs b r h s e s' e' = λ k d lt.
    elim (cases_lt k (length rs)) [
      | inl below ↦ rw (get_or_append_left rs (r ∷ []) d k below) (let o = h k d below in record {
        labels_ordered = o.labels_ordered;
        labels_inside = omega (arith, o.labels_inside, length-append ls b.labels);
        chunks_ordered = o.chunks_ordered;
        chunks_inside = omega (arith, o.chunks_inside, length-append cs b.chunks);
      })
      | inr from ↦
          let n : length rs ≡ k = omega (arith, lt, length_push rs r) in
          rw (get_or_at rs r [] d k n) (record {
            labels_ordered = omega (arith, s, e, length-append ls b.labels);
            labels_inside = omega (arith, e);
            chunks_ordered = omega (arith, s', e', length-append cs b.chunks);
            chunks_inside = omega (arith, e');
          })
    ]
