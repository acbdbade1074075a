-- What the first checks say of numbers, and what later checks need.
use Rattle.std.proofs.Common.{◌≡◌, ℕ, zero, suc, ◌+◌, ◌^◌, ◌<◌, ◌≤◌, Bool, true, ◌&&◌, List, []}
use Rattle.std.proofs.Common.{◌∷◌, ◌++◌, length, get_or, drop, Some, Result, Ok, Err, refl, sym, ap}
use Rattle.std.proofs.Common.{◌∙◌, append_assoc, arith}
use Rattle.std.specs.Prelude.{slice_range, slice_get, IfOk}
use Rattle.std.specs.List.{flat_map, list_all}
use Rattle.std.specs.Borrow.{Bor}
use Rattle.std.proofs.lemmas.List.{length-map, length-append, drop_all, append-nil}
use Rattle.byteorder.specs.Endian.{big_bytes}
use Rattle.index_reader.specs.declared.error.IndexError.{IndexError}
use Rattle.index_reader.specs.declared.series_entries.SeriesEntry.{SeriesEntry}
use Rattle.index_reader.specs.declared.layout.Layout.{Layout}
use Rattle.index_reader.specs.declared.series.Series.{Series}
use Rattle.index_reader.specs.declared.chunk.Chunk.{Chunk}
use Rattle.index_reader.specs.declared.offset_table.TableEntry.{TableEntry}
use Rattle.index_reader.specs.Layout.{rounded, series_end, Label}
use Rattle.index_reader.specs.Layout as layout
use Rattle.index_reader.specs.Grammar.{entry, symbol, IsWalk, IsLayout}
use Rattle.index_reader.specs.Seen.{entries_seen, bytes_of, table_seen, table_entry_seen}
use Rattle.index_reader.specs.Reading.Steps.{each}
use Rattle.index_reader.specs.Reading.Flat.{body_in, bodies_in, label_sets_in}
use Rattle.index_reader.specs.Reading.Postings.{section_at, references_at, lists_at}
use Rattle.index_reader.specs.Reading.Whole.{labels_of_each}
use Rattle.index_reader.specs.Reading.Symbols.{symbol_at, symbols_from}
use Rattle.index_reader.specs.CheckedFile.{IsSoundLayout, layout_seen}
use Rattle.wire.proofs.Steps.{bind_ok}
use Rattle.index_reader.proofs.Walks.{flat_long, ok_is}
use Rattle.index_reader.proofs.Whole.{omega_length, end_inside}
use Rattle.index_reader.proofs.Eaches.{drop_at_place}

walk_inside : (es : List SeriesEntry) (file : List ℕ) (end at len : ℕ)
    → IsWalk file end at (entries_seen es) → end ≤ len → (k : ℕ) (d : SeriesEntry) → k < length es
    → (get_or es k d).offset ≤ len
walk_inside [] file end at len w le k d lt = absurd (omega arith)
walk_inside (e ∷ es) file end at len w le zero d lt = omega (arith, w.0, w.1)
walk_inside (e ∷ es) file end at len w le (suc k) d lt =
    walk_inside es file end (rounded (at + length (entry e.body.now))) len w.3 le k d (omega arith)

pub few_symbols : (file : List ℕ) (x : layout.Layout) → IsLayout file x → length x.symbols < 2 ^ 32
few_symbols file x p =
    let content = p.symbols.0 in
    let size = omega_length file x.contents content p.symbols.1.0 p.symbols.1.1 p.placed in
    let long =
    ap length p.symbols.2.text
    ∙ length-append (big_bytes 4 (length x.symbols)) (flat_map symbol x.symbols) in
    omega (arith, size, long, flat_long x.symbols)

sound : (file : List ℕ) (o : Layout) → IsLayout file (layout_seen o) → IsSoundLayout file o
sound file o p = record {
  placed = p.placed;
  small = λ k d lt. omega (
    arith,
    p.placed.short,
    walk_inside o.entries.items file (series_end o.contents) (rounded o.contents.series)
        (length file) p.entries (end_inside o.contents (length file) p.placed) k d lt,
  );
  offsets =
      λ k d lt. walk_inside o.entries.items file (series_end o.contents) (rounded o.contents.series)
      (length file) p.entries (end_inside o.contents (length file) p.placed) k d lt;
}

pub sound_found : (file : List ℕ) (r : Result Layout IndexError)
    → IfOk r (λ o. IsLayout file (layout_seen o)) → IfOk r (λ o. IsSoundLayout file o)
sound_found file (Ok o) p = sound file o p
sound_found file (Err e) p = tt

-- ---- symbols

count_of : (n : ℕ) (bytes : List ℕ) (x : List (List ℕ) × List ℕ) → symbols_from n bytes ≡ Ok x
    → length x.0 ≡ n
unfolding symbols_from
count_of zero bytes x h =
    ap (λ (y : List (List ℕ) × List ℕ). length y.0) (sym (ok_is ([], bytes) x h))
count_of (suc n) bytes x h =
    let a = bind_ok (symbol_at bytes) _ x h in
    let b = bind_ok (symbols_from n a.0.1) _ x a.2 in
    let made : List (List ℕ) × List ℕ = (a.0.0 ∷ b.0.0, b.0.1) in
    ap (λ (y : List (List ℕ) × List ℕ). length y.0) (sym (ok_is made x b.2))
    ∙ ap suc (count_of n a.0.1 b.0 b.1)

pub symbols_counted : (n : ℕ) (bytes : List ℕ) (symbols : List (Bor (List ℕ))) (rest : List ℕ)
    → symbols_from n bytes ≡ Ok (bytes_of symbols, rest) → length symbols ≡ n
symbols_counted n bytes symbols rest h =
    sym (length-map symbols (λ (s : Bor (List ℕ)). s.now))
    ∙ count_of n bytes (bytes_of symbols, rest) h

-- ---- flat lists

pub sets_are : (labels : List Label) (chunks : List Chunk) (rows : List Series)
    → labels_of_each (bodies_in labels chunks rows) ≡ label_sets_in labels rows
sets_are labels chunks [] = refl
sets_are labels chunks (r ∷ rows) =
    ap (λ (xs : List (List Label)). slice_range labels r.labels_start r.labels_end ∷ xs)
    (sets_are labels chunks rows)

pub count_is : (labels : List Label) (chunks : List Chunk) (rows : List Series)
    → length (bodies_in labels chunks rows) ≡ length rows
count_is labels chunks rows = length-map rows (body_in labels chunks)

-- ---- one after another

pub each_length : {A X : Type 0} (step : A → Result X IndexError) (as' : List A) (xs : List X)
    → each step as' ≡ Ok xs → length xs ≡ length as'
unfolding each
each_length step [] xs h = let e : [] ≡ xs = ok_is [] xs h in rw (← e) refl
each_length step (a ∷ as') xs h =
    let x = bind_ok (step a) _ xs h in
    let ys = bind_ok (each step as') _ xs x.2 in
    let e : x.0 ∷ ys.0 ≡ xs = ok_is (x.0 ∷ ys.0) xs ys.2 in
    rw (← e) (ap suc (each_length step as' ys.0 ys.1))

pub lists_counted : (file : List ℕ) (to : ℕ) (table : List TableEntry) (lists : List (Bor (List ℕ)))
    → lists_at file to (table_seen table) ≡ Ok (bytes_of lists) → length lists ≡ length table
unfolding lists_at
lists_counted file to table lists h =
    let contents = bind_ok (each (section_at file to) (table_seen table)) _ (bytes_of lists) h in
    let a = each_length (section_at file to) (table_seen table) contents.0 contents.1 in
    let b = each_length references_at contents.0 (bytes_of lists) contents.2 in
    omega
    (arith, a, b, length-map lists (λ (x : Bor (List ℕ)). x.now), length-map table table_entry_seen)

pub all_step : {X : Type 0} (f : X → Bool) (xs : List X) (i : ℕ) (a : X) (r whole : Bool)
    → slice_get xs i ≡ Some a → r ≡ f a → list_all f (drop i xs) ≡ whole
    → whole ≡ (r && list_all f (drop (i + 1) xs))
all_step f xs i a r whole g e h =
    let s : i + 1 ≡ suc i = omega arith in
    sym h ∙ rw (drop_at_place xs i a g, s, e) refl

pub all_end : {X : Type 0} (f : X → Bool) (xs : List X) (i : ℕ) (whole : Bool) → length xs ≤ i
    → list_all f (drop i xs) ≡ whole → true ≡ whole
all_end f xs i whole le h = rw (drop_all i xs le) at h

-- ---- a list that is copied

pub moved : (front whole : List (List ℕ)) (i : ℕ) (x y : List ℕ) → slice_get whole i ≡ Some x
    → y ≡ x → front ++ drop i whole ≡ whole → (front ++ y ∷ []) ++ drop (i + 1) whole ≡ whole
moved front whole i x y g e h =
    let s : i + 1 ≡ suc i = omega arith in
    append_assoc front (y ∷ []) (drop (i + 1) whole)
    ∙ rw (e, s) (ap (λ (r : List (List ℕ)). front ++ r) (sym (drop_at_place whole i x g)) ∙ h)

pub ended : (front whole : List (List ℕ)) (i : ℕ) → length whole ≤ i
    → front ++ drop i whole ≡ whole → front ≡ whole
ended front whole i le h =
    sym (append-nil front) ∙ ap (λ (r : List (List ℕ)). front ++ r) (sym (drop_all i whole le)) ∙ h
