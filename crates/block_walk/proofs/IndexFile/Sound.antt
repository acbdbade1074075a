-- What the first checks say of numbers, and what later checks need.
use Rattle.std.proofs.Common.{◌≡◌, ℕ, zero, suc, ◌+◌, ◌^◌, ◌<◌, ◌≤◌, Bool, true, ◌&&◌, List, [], ◌∷◌, length, get_or, drop, Some, Result, Ok, Err, refl, sym, ap, ◌∙◌, arith}
use Rattle.std.specs.Prelude.{slice_range, slice_get, IfOk}
use Rattle.std.specs.List.{flat_map, list_all}
use Rattle.std.specs.Borrow.{Bor}
use Rattle.std.proofs.lemmas.List.{length-map, length-append, drop_all}
use Rattle.byteorder.specs.Endian.{big_bytes}
use Rattle.block_walk.specs.declared.error.WalkError.{WalkError}
use Rattle.block_walk.specs.declared.entries.Entry.{Entry}
use Rattle.block_walk.specs.declared.layout.Layout.{Layout}
use Rattle.block_walk.specs.declared.bodies.Span.{Span}
use Rattle.block_walk.specs.declared.chunk.Chunk.{Chunk}
use Rattle.block_walk.specs.IndexFile.Layout.{rounded, series_end, Label}
use Rattle.block_walk.specs.IndexFile.Layout as layout
use Rattle.block_walk.specs.IndexFile.Grammar.{entry, symbol, IsWalk, IsLayout}
use Rattle.block_walk.specs.IndexFile.Seen.{entries_seen, seen}
use Rattle.block_walk.specs.IndexFile.Flat.{body_in, bodies_in, label_sets_in, AllIn, AreSpansIn}
use Rattle.block_walk.specs.IndexFile.Whole.{labels_of_each}
use Rattle.block_walk.specs.IndexFile.Sound.{IsSoundLayout}
use Rattle.block_walk.proofs.IndexFile.Walks.{flat_long}
use Rattle.block_walk.proofs.IndexFile.Whole.{omega_length, end_inside}
use Rattle.block_walk.proofs.IndexFile.Eaches.{drop_at_place}

walk_inside : (es : List Entry) (file : List ℕ) (end at len : ℕ) → IsWalk file end at (entries_seen es)
    → end ≤ len → (k : ℕ) (d : Entry) → k < length es → (get_or es k d).offset ≤ len
walk_inside [] file end at len w le k d lt = absurd (omega arith)
walk_inside (e ∷ es) file end at len w le zero d lt = omega (arith, w.0, w.1)
walk_inside (e ∷ es) file end at len w le (suc k) d lt =
    walk_inside es file end (rounded (at + length (entry e.body.now))) len w.3 le k d (omega arith)

pub few_symbols : (file : List ℕ) (x : layout.Layout) → IsLayout file x → length x.symbols < 2 ^ 32
few_symbols file x p =
    let content = p.symbols.0 in
    let size = omega_length file x.contents content p.symbols.1.0 p.symbols.1.1 p.placed in
    let long =
    ap length p.symbols.2.text
    ∙ length-append (big_bytes 4 (length x.symbols)) (flat_map symbol x.symbols) in
    omega (arith, size, long, flat_long x.symbols)

sound : (file : List ℕ) (o : Layout) → IsLayout file (seen o) → IsSoundLayout file o
sound file o p = record {
  placed = p.placed;
  few = omega (
    arith,
    few_symbols file (seen o) p,
    length-map o.symbols.items (λ (s : Bor (List ℕ)). s.now),
  );
  order = p.symbols.2.order;
  small = λ k d lt. omega (
    arith,
    p.placed.short,
    walk_inside o.entries.items file (series_end o.contents) (rounded o.contents.series)
        (length file) p.entries (end_inside o.contents (length file) p.placed) k d lt,
  );
  offsets =
      λ k d lt. walk_inside o.entries.items file (series_end o.contents) (rounded o.contents.series)
      (length file) p.entries (end_inside o.contents (length file) p.placed) k d lt;
}

pub sound_found : (file : List ℕ) (r : Result Layout WalkError)
    → IfOk r (λ o. IsLayout file (seen o)) → IfOk r (λ o. IsSoundLayout file o)
sound_found file (Ok o) p = sound file o p
sound_found file (Err e) p = tt

-- ---- flat lists

pub sets_are : (labels : List Label) (chunks : List Chunk) (rows : List Span)
    → labels_of_each (bodies_in labels chunks rows) ≡ label_sets_in labels rows
sets_are labels chunks [] = refl
sets_are labels chunks (r ∷ rows) =
    ap (λ (xs : List (List Label)). slice_range labels r.labels_start r.labels_end ∷ xs)
    (sets_are labels chunks rows)

pub count_is : (labels : List Label) (chunks : List Chunk) (rows : List Span)
    → length (bodies_in labels chunks rows) ≡ length rows
count_is labels chunks rows = length-map rows (body_in labels chunks)

pub labels_inside : (labels : List Label) (chunks : List Chunk) (rows : List Span)
    → AllIn labels chunks rows → AreSpansIn labels rows
labels_inside labels chunks rows h =
    λ k d lt. let o = h k d lt in (o.labels_ordered, o.labels_inside)

-- ---- a test of all

pub all_step : {X : Type 0} (f : X → Bool) (xs : List X) (i : ℕ) (a : X) (r whole : Bool)
    → slice_get xs i ≡ Some a → r ≡ f a → list_all f (drop i xs) ≡ whole
    → whole ≡ (r && list_all f (drop (i + 1) xs))
all_step f xs i a r whole g e h =
    let s : i + 1 ≡ suc i = omega arith in
    sym h ∙ rw (drop_at_place xs i a g, s, e) refl

pub all_end : {X : Type 0} (f : X → Bool) (xs : List X) (i : ℕ) (whole : Bool) → length xs ≤ i
    → list_all f (drop i xs) ≡ whole → true ≡ whole
all_end f xs i whole le h = rw (drop_all i xs le) at h
