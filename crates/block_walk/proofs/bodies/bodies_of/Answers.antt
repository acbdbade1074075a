use Rattle.std.proofs.Common.{◌≡◌, ℕ, ◌+◌, List, [], ◌∷◌, ◌++◌, length, drop, Some, Result, Ok, sym, ap, subst, ◌∙◌, arith}
use Rattle.std.specs.Prelude.{slice_get}
use Rattle.std.proofs.lemmas.Result.{err_from_is_err_and}
use Rattle.std.proofs.lemmas.List.{length-map, length_push}
use Rattle.block_walk.specs.declared.error.WalkError.{WalkError}
use Rattle.block_walk.specs.IndexFile.Layout.{SeriesEntry, Label, Body}
use Rattle.block_walk.specs.IndexFile.Seen.{texts, entry_seen, entries_seen}
use Rattle.block_walk.specs.declared.chunk.Chunk.{Chunk}
use Rattle.block_walk.specs.IndexFile.Bodies.{body_at, behind_both}
use Rattle.block_walk.specs.IndexFile.Each.{each, behind_items}
use Rattle.block_walk.proofs.IndexFile.Eaches.{each_on, each_fails, each_done}
use Rattle.block_walk.specs.declared.bodies.Span.{Span}
use Rattle.block_walk.specs.IndexFile.Flat.{bodies_in, AllIn, body_of_entry}
use Rattle.block_walk.proofs.IndexFile.Growth.{both_ok, both_fails, bodies_added, all_added}
use Rattle.block_walk.proofs.bodies.bodies_of.Goals as goal

record IsOn (symbols : List (List ℕ)) (ps : List SeriesEntry) (at : ℕ) (ls : List Label) (cs : List Chunk)
    (rs : List Span) (total : Result (List Body) WalkError) : Type 0 where
  inside : AllIn ls cs rs
  so_far : behind_items (bodies_in ls cs rs) (each (body_of_entry symbols) (drop at ps)) ≡ total

one_longer : (rs rs' : List Span) (r : Span) → rs' ≡ rs ++ r ∷ [] → length rs' ≡ length rs + 1
one_longer rs rs' r pushed = rw pushed (length_push rs r)

with_body : (symbols : List (List ℕ)) (ps : List SeriesEntry) (at : ℕ) (p : SeriesEntry) (ls ls' : List Label)
    (cs cs' : List Chunk) (rs rs' : List Span) (r : Span) (b : Body)
    (total : Result (List Body) WalkError)
    → AllIn ls cs rs
    → behind_items (bodies_in ls cs rs) (each (body_of_entry symbols) (drop at ps)) ≡ total
    → slice_get ps at ≡ Some p → body_at symbols p.body ≡ Ok b → ls' ≡ ls ++ b.labels
    → cs' ≡ cs ++ b.chunks → rs' ≡ rs ++ r ∷ []
    → r.labels_start ≡ length ls → r.labels_end ≡ length ls' → r.chunks_start ≡ length cs
    → r.chunks_end ≡ length cs' → IsOn symbols ps (at + 1) ls' cs' rs' total
with_body symbols ps at p ls ls' cs cs' rs rs' r b total inside so_far g read grown
    grown' pushed s e s' e' =
    let e2 : r.labels_end ≡ length (ls ++ b.labels) = e ∙ ap length grown in
    let e2' : r.chunks_end ≡ length (cs ++ b.chunks) = e' ∙ ap length grown' in
    let whole : AllIn (ls ++ b.labels) (cs ++ b.chunks) (rs ++ r ∷ []) =
    all_added ls cs rs b r inside s e2 s' e2' in
    let same : bodies_in ls' cs' rs' ≡ bodies_in ls cs rs ++ b ∷ [] =
    ap (λ (xs : List Label). bodies_in xs cs' rs') grown
    ∙ ap (λ (xs : List Chunk). bodies_in (ls ++ b.labels) xs rs') grown'
    ∙ ap (bodies_in (ls ++ b.labels) (cs ++ b.chunks)) pushed
    ∙ bodies_added ls cs rs b r inside s e2 s' e2' in
    record {
      inside =
          subst (λ (xs : List Label). AllIn xs cs' rs') (sym grown)
          (subst (λ (xs : List Chunk). AllIn (ls ++ b.labels) xs rs') (sym grown')
          (subst (AllIn (ls ++ b.labels) (cs ++ b.chunks)) (sym pushed) whole));
      so_far =
          ap (λ (front : List Body). behind_items front
          (each (body_of_entry symbols) (drop (at + 1) ps))) same
          ∙ each_on (body_of_entry symbols) ps at p b (bodies_in ls cs rs) total g read so_far;
    }

one_more : (symbols : List (List ℕ)) (ps : List SeriesEntry) (at : ℕ) (p : SeriesEntry) (ls ls' : List Label)
    (cs cs' : List Chunk) (rs rs' : List Span) (r : Span) (total : Result (List Body) WalkError)
    → AllIn ls cs rs
    → behind_items (bodies_in ls cs rs) (each (body_of_entry symbols) (drop at ps)) ≡ total
    → slice_get ps at ≡ Some p → behind_both ls cs (body_at symbols p.body) ≡ Ok (ls', cs')
    → rs' ≡ rs ++ r ∷ []
    → r.labels_start ≡ length ls → r.labels_end ≡ length ls' → r.chunks_start ≡ length cs
    → r.chunks_end ≡ length cs' → IsOn symbols ps (at + 1) ls' cs' rs' total
one_more symbols ps at p ls ls' cs cs' rs rs' r total inside so_far g read =
    let b = both_ok ls ls' cs cs' (body_at symbols p.body) read in
    with_body symbols ps at p ls ls' cs cs' rs rs' r b.0 total inside so_far g b.1 b.2 b.3

pub returns-in_err-body_into-clause-exact : goal.returns-in_err-body_into-clause-exact
returns-in_err-body_into-clause-exact c =
    let p =
    err_from_is_err_and c.from_residual-in_err-body_into.result
    c.from_residual-in_err-body_into.ensures.1 in
    rw (p.1, p.2) (each_fails (body_of_entry (texts c.args.symbols.now))
    c.in_err-body_into.field-0.0 (entries_seen c.args.entries.now) c.loop-at.at _
    (bodies_in c.loop-at.labels.items c.loop-at.chunks.items c.loop-at.rows.items) _
    c.entry_in-entry.ensures.seen (both_fails c.in_err-body_into.field-0.0 _ _ _
    c.in_err-body_into.ensures) c.loop-at.invariant.so_far)

pub loop-at-preserved : goal.loop-at-preserved
loop-at-preserved c =
    let m =
    one_more (texts c.args.symbols.now) (entries_seen c.args.entries.now) c.loop-at.at _ _ _ _ _ _ _ _ _
    c.loop-at.invariant.inside c.loop-at.invariant.so_far c.entry_in-entry.ensures.seen
    c.in_ok-body_into.ensures c.in_ok-push.ensures.items (omega arith) (omega arith) (omega arith)
    (omega arith) in
    record {
      inside = m.inside;
      so_far = m.so_far;
      counted =
          one_longer c.loop-at.rows.items _ _ c.in_ok-push.ensures.items
          ∙ ap (λ (n : ℕ). n + 1) c.loop-at.invariant.counted;
    }

pub returns-clause-exact : goal.returns-clause-exact
returns-clause-exact c =
    each_done (body_of_entry (texts c.args.symbols.now)) (entries_seen c.args.entries.now) c.loop-at.at
    (bodies_in c.loop-at.labels.items c.loop-at.chunks.items c.loop-at.rows.items) _
    (omega (arith, length-map c.args.entries.now entry_seen)) c.loop-at.invariant.so_far
