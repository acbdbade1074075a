-- An index whose series are spelled so is read, and gives these series.
use Rattle.std.proofs.Common.{◌≡◌, ℕ, zero, suc, ◌+◌, ◌-◌, ◌^◌, ◌<◌, ◌≤◌, true, false, List, [], ◌∷◌, ◌++◌, length, get_or, drop, Ok, refl, sym, ap, subst, ◌∙◌, arith}
use Rattle.std.specs.Prelude.{map, nat_lt}
use Rattle.std.specs.List.{AllByRecursion, list_all}
use Rattle.std.specs.Ordering.{is_lt}
use Rattle.std.specs.declared.cmp.Ordering.TheVariants.{Less}
use Rattle.std.proofs.lemmas.Bool.{le-ltb, le-leb}
use Rattle.std.proofs.lemmas.List.{length-map, length-append, length-take, length-drop}
use Rattle.byteorder.specs.Endian.{big_bytes}
use Rattle.wire.specs.Spelling.{IsBytes, uvarint}
use Rattle.wire.specs.Checksum.{crc32c}
use Rattle.labels.specs.Labels.{labels_cmp}
use Rattle.block_walk.specs.IndexFile.Layout.{SeriesEntry, Layout, ascending, rounded, series_end, Label, Body}
use Rattle.block_walk.specs.IndexFile.Reading.{layout_of}
use Rattle.block_walk.specs.IndexFile.Grammar.{entry, IsWalk, IsLayout}
use Rattle.block_walk.specs.IndexFile.Each.{each, rises}
use Rattle.block_walk.specs.IndexFile.Flat.{body_of_entry, is_before, gaps_zero}
use Rattle.block_walk.specs.IndexFile.Labelled.{AreLabels}
use Rattle.block_walk.specs.IndexFile.Whole.{labels_of_each, bodies_of, is_small, Read, read_of, series_in, indexed_of}
use Rattle.block_walk.specs.IndexFile.Series.{Series, named, series_of}
use Rattle.block_walk.specs.IndexFile.Series as indexes
use Rattle.block_walk.specs.IndexFile.Spelled.{AreBodies, AreInOrder, IsIndex}
use Rattle.block_walk.proofs.IndexFile.Walks.{done}
use Rattle.block_walk.proofs.IndexFile.Whole.{parts_again}
use Rattle.block_walk.proofs.IndexFile.Sound.{few_symbols}
use Rattle.block_walk.proofs.IndexFile.Gaps.{gaps_in}
use Rattle.block_walk.proofs.IndexFile.Orders.{InTable, label_sets_cmp}
use Rattle.block_walk.proofs.IndexFile.Facts.{in_table, set_at, sets_are, series_length}
use Rattle.block_walk.proofs.IndexFile.BodyAgain.{bodies_again}

pub bodies_count : (symbols : List (List ℕ)) (ps : List SeriesEntry) (bs : List Body)
    → AreBodies symbols ps bs → length bs ≡ length ps
bodies_count symbols [] [] h = refl
bodies_count symbols [] (b ∷ bs) h = absurd h
bodies_count symbols (p ∷ ps) [] h = absurd h
bodies_count symbols (p ∷ ps) (b ∷ bs) h = ap suc (bodies_count symbols ps bs h.1)

bodies_labelled : (symbols : List (List ℕ)) (ps : List SeriesEntry) (bs : List Body)
    → AreBodies symbols ps bs → (j : ℕ) (d : Body) → j < length bs
    → AreLabels symbols 0 (get_or bs j d).labels
bodies_labelled symbols [] [] h j d lt = absurd (omega arith)
bodies_labelled symbols [] (b ∷ bs) h j d lt = absurd h
bodies_labelled symbols (p ∷ ps) [] h j d lt = absurd h
bodies_labelled symbols (p ∷ ps) (b ∷ bs) h zero d lt = h.0.labels
bodies_labelled symbols (p ∷ ps) (b ∷ bs) h (suc j) d lt =
    bodies_labelled symbols ps bs h.1 j d (omega arith)

pub walk_sizes : (ps : List SeriesEntry) (file : List ℕ) (end at : ℕ) → length file < 2 ^ 32
    → IsWalk file end at ps → AllByRecursion (λ p. length p.body < 2 ^ 32) ps
walk_sizes [] file end at small w = tt
walk_sizes (p ∷ ps) file end at small w =
    let a = ap (λ (x : List ℕ). length x) w.2.1 in
    let one : length p.body < 2 ^ 32 = omega (
      arith,
      small,
      a,
      length-take (end - at) (drop at file),
      length-drop at file,
      length-append (entry p.body) w.2.0,
      length-append (uvarint (length p.body)) (p.body ++ big_bytes 4 (crc32c p.body)),
      length-append p.body (big_bytes 4 (crc32c p.body)),
    ) in
    (one, walk_sizes ps file end (rounded (at + length (entry p.body))) small w.3)

less_so : (symbols : List (List ℕ)) (a b : List Label) → ascending symbols ≡ true
    → InTable symbols a → InTable symbols b → labels_cmp (named symbols a) (named symbols b) ≡ Less
    → is_before a b ≡ true
unfolding labels_cmp
less_so symbols a b order i j h = ap is_lt (sym (label_sets_cmp symbols a b order i j) ∙ h)

sets_again : (symbols : List (List ℕ)) (ls : List (List Label)) → ascending symbols ≡ true
    → ((k : ℕ) (d : List Label) → k < length ls → InTable symbols (get_or ls k d))
    → ((k : ℕ) → k + 1 < length ls → labels_cmp (get_or (map (named symbols) ls) k [])
    (get_or (map (named symbols) ls) (k + 1) []) ≡ Less) → rises is_before ls ≡ true
unfolding rises
sets_again symbols [] order inside h = refl
sets_again symbols (a ∷ []) order inside h = refl
sets_again symbols (a ∷ b ∷ ls) order inside h =
    let one =
    less_so symbols a b order (inside 0 a (omega arith)) (inside 1 a (omega arith))
    (h 0 (omega arith)) in
    let more = sets_again symbols (b ∷ ls) order (λ k d lt. inside (suc k) d (omega arith)) (λ k lt.
    let e : suc k + 1 ≡ suc (k + 1) = omega arith in
    let o = h (suc k) (omega arith) in
    rw e at o) in
    rw (one, more) refl

small_sets : (bs : List Body)
    → ((k : ℕ) (d : Body) → k < length bs → length (get_or bs k d).labels ≤ 64)
    → list_all is_small (labels_of_each bs) ≡ true
small_sets [] h = refl
small_sets (b ∷ bs) h = rw (
  le-leb (length b.labels) 64 (h 0 b (omega arith)),
  small_sets bs (λ k d lt. h (suc k) d (omega arith)),
) refl

bodies_read : (file : List ℕ) (p : Layout) (bs : List Body)
    → each (body_of_entry p.symbols) p.entries ≡ Ok bs
    → gaps_zero file (series_end p.contents) p.symbols_end p.entries ≡ true
    → rises is_before (labels_of_each bs) ≡ true → bodies_of file p ≡ Ok bs
unfolding bodies_of
bodies_read file p bs a b c = rw (a, b, c) refl

whole_read : (file : List ℕ) (p : Layout) (bs : List Body) → layout_of file ≡ Ok p
    → bodies_of file p ≡ Ok bs → nat_lt 1048576 (length bs) ≡ false
    → list_all is_small (labels_of_each bs) ≡ true
    → read_of file ≡ Ok (record { parts = p; bodies = bs })
unfolding read_of
whole_read file p bs a b c d = rw (a, b, c, d) refl

series_read : (file : List ℕ) (r : Read) (x : List Series) → read_of file ≡ Ok r → series_in r ≡ x
    → indexed_of file ≡ Ok x
unfolding indexed_of
series_read file r x h e = rw h (ap (λ (y : List Series). done y) e)

-- series in order have bodies in order
pub order_again : (file : List ℕ) (p : Layout) (bs : List Body) (ss : List Series) → IsLayout file p
    → AreBodies p.symbols p.entries bs → ss ≡ series_of p.symbols p.entries bs → AreInOrder ss
    → rises is_before (labels_of_each bs) ≡ true
order_again file p bs ss layout spelled series_are in_order =
    let symbols = p.symbols in
    let order : ascending symbols ≡ true = layout.symbols.2.order in
    let count = bodies_count symbols p.entries bs spelled in
    let labelled = bodies_labelled symbols p.entries bs spelled in
    let sets =
    ap (λ (xs : List Series). indexes.label_sets xs) series_are
    ∙ sets_are symbols p.entries bs count in
    let length_is : length ss ≡ length bs =
    ap (λ (xs : List Series). length xs) series_are ∙ series_length symbols p.entries bs count in
    let n = length-map bs (λ (b : Body). b.labels) in
    sets_again symbols (labels_of_each bs) order
    (λ j d lj. let o = set_at bs j d lj in subst (InTable symbols) (sym o.1)
    (in_table symbols 0 (get_or bs j o.0).labels (labelled j o.0 o.2)))
    (λ k lt. subst (λ (xs : List (List (List ℕ × List ℕ))). labels_cmp (get_or xs k [])
    (get_or xs (k + 1) []) ≡ Less) sets (in_order k (omega (arith, lt, n, length_is))))

pub index_again : (file : List ℕ) (x : List Series) → IsBytes file → IsIndex file x
    → indexed_of file ≡ Ok x
index_again file x fits i =
    let p = i.parts in
    let symbols = p.symbols in
    let bs = i.bodies in
    let t = p.contents in
    let small : length file < 2 ^ 32 = omega (arith, i.layout.placed.short) in
    let count = bodies_count symbols p.entries bs i.spelled in
    let a =
    bodies_again symbols p.entries bs (few_symbols file p i.layout) (walk_sizes p.entries file
    (series_end t) (rounded t.series) small i.layout.entries) i.spelled in
    let length_is : length x ≡ length bs =
    ap (λ (ss : List Series). length ss) i.series_are ∙ series_length symbols p.entries bs count in
    let b =
    bodies_read file p bs a (gaps_in file p i.layout i.gaps)
    (order_again file p bs x i.layout i.spelled i.series_are i.in_order) in
    let e = le-ltb 1048576 (length bs) (omega (arith, length_is, i.few)) in
    let r =
    whole_read file p bs (parts_again file p fits i.layout) b e (small_sets bs i.few_labels) in
    series_read file (record { parts = p; bodies = bs }) x r (sym i.series_are)
