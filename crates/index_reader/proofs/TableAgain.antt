-- A table and its sections that are spelled so are read.
use Rattle.std.proofs.Common.{◌≡◌, ℕ, suc, ◌+◌, ◌-◌, ◌*◌, ◌/◌, ◌^◌, ◌<◌, ◌≤◌, Bool, true, false}
use Rattle.std.proofs.Common.{◌&&◌, eqb, ltb, List, [], ◌∷◌, ◌++◌, length, drop, Result, Ok, Err}
use Rattle.std.proofs.Common.{refl, sym, ap, subst, ◌∙◌, ◌⊎◌, inl, inr, append_assoc, arith}
use Rattle.std.specs.Prelude.{map, slice_range, nat_lt}
use Rattle.std.specs.List.{flat_map, AllByRecursion, list_all}
use Rattle.std.specs.List.Sorted.{IsStrictlyIncreasing}
use Rattle.std.proofs.lemmas.Bool.{lt-ltb, ltb-true}
use Rattle.std.proofs.lemmas.List.{append-nil, length-append, length-take, length-drop}
use Rattle.std.proofs.lemmas.List.Concat.{flat_map-cons}
use Rattle.byteorder.specs.Endian.{big_number, big_bytes}
use Rattle.wire.specs.declared.error.WireError.{WireError}
use Rattle.wire.specs.declared.error.WireError.TheVariants.{Short}
use Rattle.wire.specs.Spelling.{IsBytes, uvarint}
use Rattle.wire.specs.Checksum.{crc32c}
use Rattle.wire.specs.Reading.{number_at}
use Rattle.wire.proofs.Fields.{IsBytes-front, IsBytes-back, IsBytes-take, IsBytes-drop}
use Rattle.wire.proofs.Fields.{number_again_4, bytes_again}
use Rattle.wire.proofs.KnownReads.{chosen}
use Rattle.wire.proofs.Laws.{uvarint_again, uvarint_long}
use Rattle.labels.proofs.Lists.{rising-tail}
use Rattle.index_reader.specs.declared.layout.TableOfContents.{TableOfContents}
use Rattle.index_reader.specs.declared.error.IndexError.{IndexError}
use Rattle.index_reader.specs.declared.error.IndexError.TheVariants.{Offsets, PostingsCrc}
use Rattle.index_reader.specs.Reading.Frames.{frame_at}
use Rattle.index_reader.specs.Grammar.{frame, symbol, StandsAt}
use Rattle.index_reader.specs.Reading.Steps.{steps, each}
use Rattle.index_reader.specs.Layout.{rises, TableEntry, is_before, is_within, postings_end}
use Rattle.index_reader.specs.References.{words, references_in}
use Rattle.index_reader.specs.Reading.Table.{table_entry_at, table_at, label_offsets_at}
use Rattle.index_reader.specs.Reading.Table.{table_content_at}
use Rattle.index_reader.specs.Reading.Postings.{section_at, references_at}
use Rattle.index_reader.specs.Spelled.{listed_text, table_text, IsTable, list_text, AreSections}
use Rattle.index_reader.specs.Checks.{AreSmall, HasFrame}
use Rattle.index_reader.proofs.Fields.{eqb_same, frame_again}

symbol_group : (s rest : List ℕ) → symbol s ++ rest ≡ uvarint (length s) ++ (s ++ rest)
symbol_group s rest = append_assoc (uvarint (length s)) s rest

abbrev pub IsSmall : TableEntry → Type 0
IsSmall l = (length l.name < 2 ^ 64) × (length l.value < 2 ^ 64) × (l.offset < 2 ^ 64)

listed_again : (l : TableEntry) (rest : List ℕ) → IsSmall l
    → table_entry_at (listed_text l ++ rest) ≡ Ok (l, rest)
unfolding table_entry_at
listed_again l rest h =
    let last = uvarint l.offset ++ rest in
    let a : (symbol l.name ++ (symbol l.value ++ uvarint l.offset)) ++ rest
    ≡ symbol l.name ++ (symbol l.value ++ last) =
    append_assoc (symbol l.name) (symbol l.value ++ uvarint l.offset) rest
    ∙ ap (λ (x : List ℕ). symbol l.name ++ x)
    (append_assoc (symbol l.value) (uvarint l.offset) rest) in
    let b : symbol l.name ++ (symbol l.value ++ last)
    ≡ uvarint (length l.name) ++ (l.name ++ (uvarint (length l.value) ++ (l.value ++ last))) =
    symbol_group l.name (symbol l.value ++ last)
    ∙ ap (λ (x : List ℕ). uvarint (length l.name) ++ (l.name ++ x)) (symbol_group l.value last) in
    ap (λ (x : List ℕ). table_entry_at (2 ∷ x)) (a ∙ b)
    ∙ rw (
      uvarint_again (length l.name) (l.name ++ (uvarint (length l.value) ++ (l.value ++ last))) h.0,
      bytes_again l.name (uvarint (length l.value) ++ (l.value ++ last)),
      uvarint_again (length l.value) (l.value ++ last) h.1,
      bytes_again l.value last,
      uvarint_again l.offset rest h.2,
    ) refl

entries_again : (table : List TableEntry) (rest : List ℕ) → AllByRecursion IsSmall table
    → steps table_entry_at (length table) (flat_map listed_text table ++ rest) ≡ Ok (table, rest)
unfolding steps
entries_again [] rest h = refl
entries_again (l ∷ ls) rest h =
    let grouped : flat_map listed_text (l ∷ ls) ++ rest
    ≡ listed_text l ++ (flat_map listed_text ls ++ rest) =
    ap (λ (x : List ℕ). x ++ rest) (flat_map-cons listed_text l ls)
    ∙ append_assoc (listed_text l) (flat_map listed_text ls) rest in
    ap (steps table_entry_at (suc (length ls))) grouped
    ∙ rw (listed_again l (flat_map listed_text ls ++ rest) h.0, entries_again ls rest h.1) refl

both : (p q : Bool) → (p && q) ≡ true → (p ≡ true) × (q ≡ true)
both true q h = (refl, h)
both false q h = absurd cc

listed_size : (l : TableEntry) → length l.name + length l.value < length (listed_text l)
listed_size l =
    let a = length-append (uvarint (length l.name)) l.name in
    let b = length-append (uvarint (length l.value)) l.value in
    let c = length-append (symbol l.value) (uvarint l.offset) in
    let d = length-append (symbol l.name) (symbol l.value ++ uvarint l.offset) in
    omega (arith, a, b, c, d, uvarint_long l.offset)

all_small : (from to : ℕ) (table : List TableEntry) → length (flat_map listed_text table) < 2 ^ 64
    → to ≤ 2 ^ 64 → list_all (is_within from to) table ≡ true → AllByRecursion IsSmall table
all_small from to [] size le h = tt
all_small from to (l ∷ ls) size le h =
    let p = both (is_within from to l) (list_all (is_within from to) ls) h in
    let q = both _ (nat_lt l.offset to) p.0 in
    let lt = ltb-true l.offset to q.1 in
    let s = ap (λ (x : List ℕ). length x) (flat_map-cons listed_text l ls) in
    let n = length-append (listed_text l) (flat_map listed_text ls) in
    let k = listed_size l in (
      (omega (arith, size, s, n, k), omega (arith, size, s, n, k), omega (arith, lt, le)),
      all_small from to ls (omega (arith, size, s, n)) le p.1,
    )

table_long : (table : List TableEntry) → length table ≤ length (flat_map listed_text table)
table_long [] = omega arith
table_long (l ∷ ls) =
    let s = ap (λ (x : List ℕ). length x) (flat_map-cons listed_text l ls) in
    omega (
      arith,
      table_long ls,
      s,
      length-append (listed_text l) (flat_map listed_text ls),
      listed_size l,
    )

table_again : (from to : ℕ) (table : List TableEntry) → length (table_text table) < 2 ^ 32
    → to ≤ 2 ^ 64 → rises is_before table ≡ true → list_all (is_within from to) table ≡ true
    → table_at from to (table_text table) ≡ Ok table
unfolding table_at
table_again from to table size le rising within =
    let n = length-append (big_bytes 4 (length table)) (flat_map listed_text table) in
    let small = all_small from to table (omega (arith, size, n)) le within in
    let nilled : steps table_entry_at (length table) (flat_map listed_text table) ≡ Ok (table, []) =
    ap (steps table_entry_at (length table)) (sym (append-nil (flat_map listed_text table)))
    ∙ entries_again table [] small in
    rw (
      number_again_4 (length table) (flat_map listed_text table)
          (omega (arith, size, n, table_long table)),
      nilled,
      rising,
      within,
    ) refl

-- ---- frames in the file

range_fits : (file : List ℕ) (at end : ℕ) → IsBytes file → IsBytes (slice_range file at end)
range_fits file at end fits = IsBytes-take (end - at) (drop at file) (IsBytes-drop at file fits)

framed_again : (e : IndexError) (file : List ℕ) (at end : ℕ) (content : List ℕ) → IsBytes file
    → length file < 2 ^ 32 → (s : StandsAt file at end (frame content))
    → frame_at e (slice_range file at end) ≡ Ok (content, s.0)
framed_again e file at end content fits small s =
    let inside = subst IsBytes s.1 (range_fits file at end fits) in
    let content_fits =
    IsBytes-front content (big_bytes 4 (crc32c content))
    (IsBytes-back (big_bytes 4 (length content)) (content ++ big_bytes 4 (crc32c content))
    (IsBytes-front (frame content) s.0 inside)) in
    let a = ap (λ (x : List ℕ). length x) s.1 in
    let size : length content < 2 ^ 32 = omega (
      arith,
      small,
      a,
      length-take (end - at) (drop at file),
      length-drop at file,
      length-append (frame content) s.0,
      length-append (big_bytes 4 (length content)) (content ++ big_bytes 4 (crc32c content)),
      length-append content (big_bytes 4 (crc32c content)),
    ) in
    ap (frame_at e) s.1 ∙ frame_again e content s.0 content_fits size

others_again : (file : List ℕ) (t : TableOfContents) → IsBytes file → length file < 2 ^ 32
    → (t.label_offsets ≡ 0)
    ⊎ ((content : List ℕ) × StandsAt file t.label_offsets t.postings_offsets (frame content))
    → (x : List ℕ) × (label_offsets_at file t ≡ Ok x)
others_again file t fits small (inl e) = ([], rw e refl)
others_again file t fits small (inr s) = go (eqb t.label_offsets 0) refl
  where
    read : frame_at Offsets (slice_range file t.label_offsets t.postings_offsets) ≡ Ok (s.0, s.1.0)
    read = framed_again Offsets file t.label_offsets t.postings_offsets s.0 fits small s.1

    go : (b : Bool) → eqb t.label_offsets 0 ≡ b → (x : List ℕ) × (label_offsets_at file t ≡ Ok x)
    go true e = ([], rw e refl)
    go false e = (s.0, rw (e, read) refl)

pub tabled_again : (file : List ℕ) (t : TableOfContents) (table : List TableEntry) → IsBytes file
    → length file < 2 ^ 32 → postings_end t ≤ 2 ^ 64 → IsTable file t table
    → (table_content_at file t ≡ Ok (table_text table))
    × (table_at t.postings (postings_end t) (table_text table) ≡ Ok table)
unfolding table_content_at
tabled_again file t table fits small le h =
    let o = others_again file t fits small h.others in
    let content = table_text table in
    let stands : slice_range file t.postings_offsets (length file - 52) ≡ frame content ++ [] =
    h.stands ∙ sym (append-nil (frame content)) in
    let read =
    framed_again Offsets file t.postings_offsets (length file - 52) content fits
    small ([], stands) in
    let a = ap (λ (x : List ℕ). length x) h.stands in
    let size : length content < 2 ^ 32 = omega (
      arith,
      small,
      a,
      length-take (length file - 52 - t.postings_offsets) (drop t.postings_offsets file),
      length-drop t.postings_offsets file,
      length-append (big_bytes 4 (length content)) (content ++ big_bytes 4 (crc32c content)),
      length-append content (big_bytes 4 (crc32c content)),
    ) in
    (rw (o.1, read) refl, table_again t.postings (postings_end t) table size le h.rising h.within)

-- ---- sections

rise_again : (xs : List ℕ) → IsStrictlyIncreasing xs → rises nat_lt xs ≡ true
unfolding rises
rise_again [] h = refl
rise_again (a ∷ []) h = refl
rise_again (a ∷ b ∷ rest) h =
    rw (lt-ltb a b (h 0 (omega arith)), rise_again (b ∷ rest) (rising-tail a (b ∷ rest) h)) refl

wire_ok : {A : Type 0} (x y : A) (r : Result A WireError) → r ≡ Ok x → r ≡ Ok y → x ≡ y
wire_ok x y (Ok z) g h = let a : z ≡ x = cc in let b : z ≡ y = cc in sym a ∙ b
wire_ok x y (Err e) g h = absurd cc

number_parts : (n : ℕ) (rest : List ℕ) → n < 2 ^ 32
    → (big_number 4 (big_bytes 4 n ++ rest) ≡ n) × (drop 4 (big_bytes 4 n ++ rest) ≡ rest)
number_parts n rest lt =
    let bytes = big_bytes 4 n ++ rest in
    let read : number_at 4 bytes ≡ Ok (n, rest) = number_again_4 n rest lt in
    elim (chosen (ltb (length bytes) 4) (Err Short) (Ok (
      big_number 4 bytes,
      drop 4 bytes,
    )) (Ok (n, rest)) read) [
      | inl t ↦ absurd (let e = t.1 in cc)
      | inr t ↦
          let made : ℕ × List ℕ = (big_number 4 bytes, drop 4 bytes) in
          let given : ℕ × List ℕ = (n, rest) in
          let p : made ≡ given = wire_ok made given (Ok made) refl t.1 in
          (ap (λ (x : ℕ × List ℕ). x.0) p, ap (λ (x : ℕ × List ℕ). x.1) p)
    ]

flat_size : (refs : List ℕ) → length (flat_map (big_bytes 4) refs) ≡ 4 * length refs
flat_size [] = refl
flat_size (r ∷ rs) =
    let s = ap (λ (x : List ℕ). length x) (flat_map-cons (big_bytes 4) r rs) in
    omega (arith, s, length-append (big_bytes 4 r) (flat_map (big_bytes 4) rs), flat_size rs)

words_again : (refs : List ℕ) → AreSmall refs
    → words (length refs) (flat_map (big_bytes 4) refs) ≡ refs
unfolding words
words_again [] h = refl
words_again (r ∷ rs) h =
    let rest = flat_map (big_bytes 4) rs in
    let p = number_parts r rest h.0 in
    ap (words (suc (length rs))) (flat_map-cons (big_bytes 4) r rs)
    ∙ ap (λ (x : ℕ). x ∷ words (length rs) (drop 4 (big_bytes 4 r ++ rest))) p.0
    ∙ ap (λ (x : List ℕ). r ∷ words (length rs) x) p.1
    ∙ ap (λ (x : List ℕ). r ∷ x) (words_again rs h.1)

refs_again : (refs : List ℕ) → AreSmall refs → references_in (flat_map (big_bytes 4) refs) ≡ refs
refs_again refs h =
    let n : length (flat_map (big_bytes 4) refs) / 4 ≡ length refs =
    omega (arith, flat_size refs) in
    ap (λ (k : ℕ). words k (flat_map (big_bytes 4) refs)) n ∙ words_again refs h

list_again : (refs : List ℕ) → AreSmall refs → IsStrictlyIncreasing refs
    → length (list_text refs) < 2 ^ 32
    → references_at (list_text refs) ≡ Ok (flat_map (big_bytes 4) refs)
unfolding references_at
list_again refs small inc size =
    let flat = flat_map (big_bytes 4) refs in
    let n = length-append (big_bytes 4 (length refs)) flat in
    let count : length refs < 2 ^ 32 = omega (arith, size, n, flat_size refs) in
    let sized : eqb (length flat) (4 * length refs) ≡ true =
    ap (λ (k : ℕ). eqb k (4 * length refs)) (flat_size refs) ∙ eqb_same (4 * length refs) in
    let risen : rises nat_lt (references_in flat) ≡ true =
    ap (rises nat_lt) (refs_again refs small) ∙ rise_again refs inc in
    rw (number_again_4 (length refs) flat count, sized, risen) refl

section_again : (file : List ℕ) (to : ℕ) (l : TableEntry) (content : List ℕ) → IsBytes file
    → length file < 2 ^ 32 → StandsAt file l.offset to (frame content)
    → section_at file to l ≡ Ok content
unfolding section_at
section_again file to l content fits small s =
    rw (framed_again PostingsCrc file l.offset to content fits small s) refl

stands_size : (file : List ℕ) (at end : ℕ) (content : List ℕ) → length file < 2 ^ 32
    → StandsAt file at end (frame content) → length content < 2 ^ 32
stands_size file at end content small s =
    let a = ap (λ (x : List ℕ). length x) s.1 in
    omega (
      arith,
      small,
      a,
      length-take (end - at) (drop at file),
      length-drop at file,
      length-append (frame content) s.0,
      length-append (big_bytes 4 (length content)) (content ++ big_bytes 4 (crc32c content)),
      length-append content (big_bytes 4 (crc32c content)),
    )

-- frames that stand where the entries of a table say are read
pub frames_again : (file : List ℕ) (to : ℕ) (table : List TableEntry) → IsBytes file
    → length file < 2 ^ 32 → AllByRecursion (HasFrame file to) table
    → (contents : List (List ℕ)) × (each (section_at file to) table ≡ Ok contents)
unfolding each
frames_again file to [] fits small h = ([], refl)
frames_again file to (l ∷ table) fits small h =
    let more = frames_again file to table fits small h.1 in
    let one = section_again file to l h.0.0 fits small h.0.1 in
    (h.0.0 ∷ more.0, rw (one, more.1) refl)

pub sections_again : (file : List ℕ) (to : ℕ) (table : List TableEntry) (lists : List (List ℕ))
    → IsBytes file → length file < 2 ^ 32 → AllByRecursion AreSmall lists
    → AreSections file to table lists
    → (contents raws : List (List ℕ)) × (each (section_at file to) table ≡ Ok contents)
    × (each references_at contents ≡ Ok raws) × (map references_in raws ≡ lists)
unfolding each
sections_again file to [] [] fits small refs h = ([], [], refl, refl, refl)
sections_again file to [] (r ∷ lists) fits small refs h = absurd h
sections_again file to (l ∷ table) [] fits small refs h = absurd h
sections_again file to (l ∷ table) (r ∷ lists) fits small refs h =
    let more = sections_again file to table lists fits small refs.1 h.2 in
    let one = section_again file to l (list_text r) fits small h.0 in
    let list = list_again r refs.0 h.1 (stands_size file l.offset to (list_text r) small h.0) in
    let flat = flat_map (big_bytes 4) r in (
      list_text r ∷ more.0,
      flat ∷ more.1,
      rw (one, more.2) refl,
      rw (list, more.3) refl,
      ap (λ (x : List ℕ). x ∷ map references_in more.1) (refs_again r refs.0)
          ∙ ap (λ (xs : List (List ℕ)). r ∷ xs) more.4,
    )
