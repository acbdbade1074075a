-- An index that is spelled so is read, and gives what is spelled.
use Rattle.std.proofs.Common.{◌≡◌, ℕ, zero, suc, ◌+◌, ◌-◌, ◌^◌, ◌<◌, ◌≤◌, Bool, true, false, cond}
use Rattle.std.proofs.Common.{eqb, List, [], ◌∷◌, ◌++◌, length, get_or, drop, Ok, refl, sym, ap}
use Rattle.std.proofs.Common.{subst, ◌∙◌, inl, inr, arith}
use Rattle.std.specs.Prelude.{map, filter, nat_lt}
use Rattle.std.specs.List.{AllByRecursion, list_all}
use Rattle.std.specs.Ordering.{is_lt}
use Rattle.std.specs.declared.cmp.Ordering.TheVariants.{Less}
use Rattle.std.proofs.lemmas.Bool.{le-ltb, le-leb}
use Rattle.std.proofs.lemmas.List.{length-map, length-append, length-take, length-drop}
use Rattle.byteorder.specs.Endian.{big_bytes}
use Rattle.wire.specs.Spelling.{IsBytes, uvarint}
use Rattle.wire.specs.Checksum.{crc32c}
use Rattle.labels.specs.Labels.{labels_cmp}
use Rattle.labels.specs.Parts.{carries}
use Rattle.index_reader.specs.declared.layout.TableOfContents.{TableOfContents}
use Rattle.index_reader.specs.Layout.{IsPlaced, SeriesEntry, Layout, ascending, rounded, series_end}
use Rattle.index_reader.specs.Layout.{Label, Body, TableEntry, rises, postings_end}
use Rattle.index_reader.specs.Reading.Whole.{layout_of, labels_of_each, bodies_of, postings_of}
use Rattle.index_reader.specs.Reading.Whole.{is_small, Read, read_of, indexed, indexed_of}
use Rattle.index_reader.specs.Grammar.{entry, IsWalk, IsLayout}
use Rattle.index_reader.specs.Reading.Postings.{section_at, references_at, lists_at}
use Rattle.index_reader.specs.Reading.Table.{table_content_at, table_at}
use Rattle.index_reader.specs.Reading.Steps.{each}
use Rattle.index_reader.specs.Reading.Flat.{body_of_entry, labels_before}
use Rattle.index_reader.specs.Reading.Entries.{gaps_zero}
use Rattle.index_reader.specs.Spelled.{AreLabels, table_text, AreBodies, lists_for, IsIndex}
use Rattle.index_reader.specs.Reading.Agreement.{carriers, agreement_of}
use Rattle.index_reader.specs.Reading.Agreement as agreement
use Rattle.index_reader.specs.Indexes.{Series, Indexed, references, references_with, named}
use Rattle.index_reader.specs.Indexes.{series_of, IsConsistent}
use Rattle.index_reader.specs.Indexes as indexes
use Rattle.index_reader.specs.Checks.{AreInOrder, AreSmall}
use Rattle.index_reader.proofs.Walks.{done}
use Rattle.index_reader.proofs.Whole.{parts_again}
use Rattle.index_reader.proofs.Gaps.{gaps_in}
use Rattle.index_reader.proofs.Sound.{few_symbols}
use Rattle.index_reader.proofs.Orders.{InTable, label_sets_cmp}
use Rattle.index_reader.proofs.Facts.{in_table, set_at, sets_are, series_length}
use Rattle.index_reader.proofs.BodyAgain.{bodies_again}
use Rattle.index_reader.proofs.TableAgain.{tabled_again, sections_again}
use Rattle.index_reader.proofs.AgreementAgain.{agreement_again}

bodies_count : (symbols : List (List ℕ)) (ps : List SeriesEntry) (bs : List Body)
    → AreBodies symbols ps bs → length bs ≡ length ps
bodies_count symbols [] [] h = refl
bodies_count symbols [] (b ∷ bs) h = absurd h
bodies_count symbols (p ∷ ps) [] h = absurd h
bodies_count symbols (p ∷ ps) (b ∷ bs) h = ap suc (bodies_count symbols ps bs h.1)

bodies_labelled : (symbols : List (List ℕ)) (ps : List SeriesEntry) (bs : List Body)
    → AreBodies symbols ps bs → (j : ℕ) (d : Body) → j < length bs
    → AreLabels symbols 0 (get_or bs j d).labels
bodies_labelled symbols [] [] h j d lt = absurd (omega arith)
bodies_labelled symbols [] (b ∷ bs) h j d lt = absurd h
bodies_labelled symbols (p ∷ ps) [] h j d lt = absurd h
bodies_labelled symbols (p ∷ ps) (b ∷ bs) h zero d lt = h.0.labels
bodies_labelled symbols (p ∷ ps) (b ∷ bs) h (suc j) d lt =
    bodies_labelled symbols ps bs h.1 j d (omega arith)

pub walk_sizes : (ps : List SeriesEntry) (file : List ℕ) (end at : ℕ) → length file < 2 ^ 32
    → IsWalk file end at ps → AllByRecursion (λ p. length p.body < 2 ^ 32) ps
walk_sizes [] file end at small w = tt
walk_sizes (p ∷ ps) file end at small w =
    let a = ap (λ (x : List ℕ). length x) w.2.1 in
    let one : length p.body < 2 ^ 32 = omega (
      arith,
      small,
      a,
      length-take (end - at) (drop at file),
      length-drop at file,
      length-append (entry p.body) w.2.0,
      length-append (uvarint (length p.body)) (p.body ++ big_bytes 4 (crc32c p.body)),
      length-append p.body (big_bytes 4 (crc32c p.body)),
    ) in
    (one, walk_sizes ps file end (rounded (at + length (entry p.body))) small w.3)

less_so : (symbols : List (List ℕ)) (a b : List Label) → ascending symbols ≡ true
    → InTable symbols a → InTable symbols b → labels_cmp (named symbols a) (named symbols b) ≡ Less
    → labels_before a b ≡ true
unfolding labels_cmp
less_so symbols a b order i j h = ap is_lt (sym (label_sets_cmp symbols a b order i j) ∙ h)

sets_again : (symbols : List (List ℕ)) (ls : List (List Label)) → ascending symbols ≡ true
    → ((k : ℕ) (d : List Label) → k < length ls → InTable symbols (get_or ls k d))
    → ((k : ℕ) → k + 1 < length ls → labels_cmp (get_or (map (named symbols) ls) k [])
    (get_or (map (named symbols) ls) (k + 1) []) ≡ Less) → rises labels_before ls ≡ true
unfolding rises
sets_again symbols [] order inside h = refl
sets_again symbols (a ∷ []) order inside h = refl
sets_again symbols (a ∷ b ∷ ls) order inside h =
    let one =
    less_so symbols a b order (inside 0 a (omega arith)) (inside 1 a (omega arith))
    (h 0 (omega arith)) in
    let more = sets_again symbols (b ∷ ls) order (λ k d lt. inside (suc k) d (omega arith)) (λ k lt.
    let e : suc k + 1 ≡ suc (k + 1) = omega arith in
    let o = h (suc k) (omega arith) in
    rw e at o) in
    rw (one, more) refl

small_sets : (bs : List Body)
    → ((k : ℕ) (d : Body) → k < length bs → length (get_or bs k d).labels ≤ 64)
    → list_all is_small (labels_of_each bs) ≡ true
small_sets [] h = refl
small_sets (b ∷ bs) h = rw (
  le-leb (length b.labels) 64 (h 0 b (omega arith)),
  small_sets bs (λ k d lt. h (suc k) d (omega arith)),
) refl

pub end_small : (t : TableOfContents) (len : ℕ) → IsPlaced t len → postings_end t ≤ len
end_small t len p = go (eqb t.label_offsets 0) refl
  where
    below : t.label_offsets ≤ len
    below =
        elim p.label_offsets [
          | inl e ↦ omega (arith, e)
          | inr o ↦ omega (arith, o.1, p.end)
        ]

    go : (b : Bool) → eqb t.label_offsets 0 ≡ b → postings_end t ≤ len
    go true e = rw e (omega (arith, p.end))
    go false e = rw e below

-- ---- references of 32 bits

pub small_from : (refs : List ℕ)
    → ((k : ℕ) → k < length refs → get_or refs k 0 < 2 ^ 32) → AreSmall refs
small_from [] h = tt
small_from (r ∷ refs) h = (h 0 (omega arith), small_from refs (λ k lt. h (suc k) (omega arith)))

small_kept : (b : Bool) (s : Series) (rest : List Series) → s.reference < 2 ^ 32
    → AreSmall (references rest) → AreSmall (references (cond b (s ∷ rest) rest))
small_kept true s rest one more = (one, more)
small_kept false s rest one more = more

small_with : (name value : List ℕ) (ss : List Series) → AreSmall (references ss)
    → AreSmall (references_with name value ss)
small_with name value [] h = tt
small_with name value (s ∷ ss) h =
    small_kept (carries name value s.labels) s
    (filter (λ (x : Series). carries name value x.labels) ss) h.0 (small_with name value ss h.1)

pub small_lists : (pairs : List (List ℕ × List ℕ)) (ss : List Series) → AreSmall (references ss)
    → AllByRecursion AreSmall (lists_for pairs ss)
small_lists [] ss h = tt
small_lists (p ∷ pairs) ss h = (small_with p.0 p.1 ss h, small_lists pairs ss h)

-- ---- the steps of the whole

bodies_read : (file : List ℕ) (p : Layout) (bs : List Body)
    → each (body_of_entry p.symbols) p.entries ≡ Ok bs
    → gaps_zero file (series_end p.contents) p.symbols_end p.entries ≡ true
    → rises labels_before (labels_of_each bs) ≡ true → bodies_of file p ≡ Ok bs
unfolding bodies_of
bodies_read file p bs a b c = rw (a, b, c) refl

postings_read : (file : List ℕ) (t : TableOfContents) (content : List ℕ) (table : List TableEntry)
    (contents raws : List (List ℕ)) → table_content_at file t ≡ Ok content
    → table_at t.postings (postings_end t) content ≡ Ok table
    → each (section_at file (postings_end t)) table ≡ Ok contents
    → each references_at contents ≡ Ok raws → postings_of file t ≡ Ok (table, raws)
unfolding postings_of lists_at
postings_read file t content table contents raws a b c d = rw (a, b, c, d) refl

whole_read : (file : List ℕ) (p : Layout) (bs : List Body) (table : List TableEntry)
    (raws : List (List ℕ)) (keys : List Label) → layout_of file ≡ Ok p → bodies_of file p ≡ Ok bs
    → postings_of file p.contents ≡ Ok (table, raws)
    → agreement_of p.symbols table raws
    (carriers (agreement.entry_references p.entries) (labels_of_each bs)) ≡ Ok keys
    → nat_lt 1048576 (length bs) ≡ false → list_all is_small (labels_of_each bs) ≡ true
    → read_of file ≡ Ok (record { parts = p; bodies = bs; keys = keys; lists = raws })
unfolding read_of
whole_read file p bs table raws keys a b c d e f = rw (a, b, c, d, e, f) refl

indexed_read : (file : List ℕ) (r : Read) (x : Indexed) → read_of file ≡ Ok r → indexed r ≡ x
    → indexed_of file ≡ Ok x
unfolding indexed_of
indexed_read file r x h e = rw h (ap (λ (y : Indexed). done y) e)

-- series in order have bodies in order
pub order_again : (file : List ℕ) (p : Layout) (bs : List Body) (ss : List Series) → IsLayout file p
    → AreBodies p.symbols p.entries bs → ss ≡ series_of p.symbols p.entries bs → AreInOrder ss
    → rises labels_before (labels_of_each bs) ≡ true
order_again file p bs ss layout spelled series_are in_order =
    let symbols = p.symbols in
    let order : ascending symbols ≡ true = layout.symbols.2.order in
    let count = bodies_count symbols p.entries bs spelled in
    let labelled = bodies_labelled symbols p.entries bs spelled in
    let sets =
    ap (λ (xs : List Series). indexes.label_sets xs) series_are
    ∙ sets_are symbols p.entries bs count in
    let length_is : length ss ≡ length bs =
    ap (λ (xs : List Series). length xs) series_are ∙ series_length symbols p.entries bs count in
    let n = length-map bs (λ (b : Body). b.labels) in
    sets_again symbols (labels_of_each bs) order
    (λ j d lj. let o = set_at bs j d lj in subst (InTable symbols) (sym o.1)
    (in_table symbols 0 (get_or bs j o.0).labels (labelled j o.0 o.2)))
    (λ k lt. subst (λ (xs : List (List (List ℕ × List ℕ))). labels_cmp (get_or xs k [])
    (get_or xs (k + 1) []) ≡ Less) sets (in_order k (omega (arith, lt, n, length_is))))

abbrev of_both : List Series → List (List ℕ × List ℕ) → Indexed
of_both ss ps = record { series = ss; pairs = ps }

pub index_again : (file : List ℕ) (x : Indexed) → IsBytes file → IsIndex file x
    → indexed_of file ≡ Ok x
index_again file x fits i =
    let p = i.parts in
    let symbols = p.symbols in
    let bs = i.bodies in
    let t = p.contents in
    let small : length file < 2 ^ 32 = omega (arith, i.layout.placed.short) in
    let order : ascending symbols ≡ true = i.layout.symbols.2.order in
    let few = few_symbols file p i.layout in
    let count = bodies_count symbols p.entries bs i.spelled in
    let labelled = bodies_labelled symbols p.entries bs i.spelled in
    let a =
    bodies_again symbols p.entries bs few (walk_sizes p.entries file (series_end t)
    (rounded t.series) small i.layout.entries) i.spelled in
    let length_is : length x.series ≡ length bs =
    ap (λ (ss : List Series). length ss) i.series ∙ series_length symbols p.entries bs count in
    let rising =
    order_again file p bs x.series i.layout i.spelled i.series i.consistent.in_order in
    let gaps = gaps_in file p i.layout i.gaps in
    let b = bodies_read file p bs a gaps rising in
    let end_is : postings_end t ≤ 2 ^ 64 =
    omega (arith, end_small t (length file) i.layout.placed, small) in
    let tables = tabled_again file t i.table fits small end_is i.tabled in
    let refs =
    small_from (references x.series) (λ k lt. i.consistent.small k
    (omega (arith, lt, length-map x.series (λ (s : Series). s.reference)))) in
    let s =
    sections_again file (postings_end t) i.table (references x.series ∷ lists_for x.pairs x.series)
    fits small (refs, small_lists x.pairs x.series refs) i.sections in
    let c = postings_read file t (table_text i.table) i.table s.0 s.1 tables.0 tables.1 s.2 s.3 in
    let k =
    agreement_again symbols p.entries bs x i.table s.1 order i.series count labelled (record {
      in_order = i.consistent.pairs_in_order;
      carried = i.consistent.carried;
      listed = i.consistent.listed;
    }) i.listed s.4 in
    let e = le-ltb 1048576 (length bs) (omega (arith, length_is, i.consistent.few)) in
    let f = small_sets bs i.few_labels in
    let r = whole_read file p bs i.table s.1 k.0 (parts_again file p fits i.layout) b c k.1 e f in
    indexed_read file (record { parts = p; bodies = bs; keys = k.0; lists = s.1 }) x r
    (ap (λ (ss : List Series). of_both ss (named symbols k.0)) (sym i.series)
    ∙ ap (of_both x.series) k.2)
