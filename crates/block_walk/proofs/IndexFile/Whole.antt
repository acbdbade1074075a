-- The two laws of the whole: what is read is so laid out, and what is so laid out is read.
use Rattle.std.proofs.Common.{◌≡◌, ℕ, ◌+◌, ◌-◌, ◌^◌, ◌≤◌, ◌<◌, Bool, true, false, ◌&&◌, ◌||◌, cond, ltb, eqb, List, [], ◌∷◌, ◌++◌, length, get_or, take, drop, Result, Ok, Err, refl, sym, ap, subst, ◌∙◌, ◌⊎◌, inl, inr, arith}
use Rattle.std.specs.Prelude.{slice_range, slice_index, nat_le, IfOk}
use Rattle.std.proofs.lemmas.Bool.{lt-ltb, le-ltb, le-leb, ltb-false, eqb-true}
use Rattle.std.proofs.lemmas.List.{length-append, length-drop, length-take, take-append-drop, drop-drop, get_or-take, take_all}
use Rattle.byteorder.specs.Endian.{big_number, big_bytes}
use Rattle.byteorder.specs.Numbers.{big_number-reads_back}
use Rattle.wire.specs.Checksum.{checked, crc32c}
use Rattle.wire.proofs.ChecksumBound.{crc32c_below}
use Rattle.wire.specs.Spelling.{IsBytes}
use Rattle.wire.proofs.Fields.{IsBytes-take, IsBytes-drop, IsBytes-front, IsBytes-back, big_bytes_4, big_bytes_8}
use Rattle.wire.proofs.KnownReads.{chosen}
use Rattle.block_walk.specs.declared.contents.Contents.{Contents}
use Rattle.block_walk.specs.declared.error.WalkError.{WalkError}
use Rattle.block_walk.specs.declared.error.WalkError.TheVariants.{ContentsCrc, ContentsOrder, SymbolsCrc}
use Rattle.block_walk.specs.IndexFile.Layout.{IsPlaced, rounded, series_end, Layout}
use Rattle.block_walk.specs.IndexFile.Reading.{in_order, has_magic, contents_at, table_of, head_of, frame_at, symbols_of, entries_from, layout_of}
use Rattle.block_walk.specs.IndexFile.Grammar.{frame, contents_text, IsLayout}
use Rattle.block_walk.specs.IndexFile.Outcome.{Gives}
use Rattle.block_walk.proofs.IndexFile.WalkLoops.{guard_ended}
use Rattle.wire.proofs.Steps.{bind_ok}
use Rattle.block_walk.proofs.IndexFile.Head.{head_placed}
use Rattle.block_walk.proofs.IndexFile.Fields.{eqb_same, frame_takes, frame_again}
use Rattle.block_walk.proofs.IndexFile.Walks.{done, ok_is, table_takes, table_again, walk_takes, walk_again}

-- ---- the table of contents

cell_8 : (bytes : List ℕ) → IsBytes bytes → 8 ≤ length bytes
    → big_bytes 8 (big_number 8 bytes) ++ drop 8 bytes ≡ bytes
cell_8 bytes fits le =
    ap (λ (x : List ℕ). x ++ drop 8 bytes) (big_bytes_8 bytes fits le) ∙ take-append-drop 8 bytes

cell_at : (k : ℕ) (bytes : List ℕ) → IsBytes bytes → k + 8 ≤ length bytes
    → drop k bytes ≡ big_bytes 8 (big_number 8 (drop k bytes)) ++ drop (k + 8) bytes
cell_at k bytes fits le =
    sym (cell_8 (drop k bytes) (IsBytes-drop k bytes fits) (omega (arith, length-drop k bytes)))
    ∙ ap (λ (r : List ℕ). big_bytes 8 (big_number 8 (drop k bytes)) ++ r) (drop-drop 8 k bytes)

table_text : (table : List ℕ) → IsBytes table → 48 ≤ length table
    → table ≡ contents_text (contents_at table) ++ drop 48 table
table_text table fits le =
    let b = λ (k : ℕ). big_bytes 8 (big_number 8 (drop k table)) in
    let c = λ (k : ℕ). λ (h : k + 8 ≤ length table). cell_at k table fits h in
    c 0 (omega arith)
    ∙ ap (λ (r : List ℕ). b 0 ++ r) (c 8 (omega arith))
    ∙ ap (λ (r : List ℕ). b 0 ++ (b 8 ++ r)) (c 16 (omega arith))
    ∙ ap (λ (r : List ℕ). b 0 ++ (b 8 ++ (b 16 ++ r))) (c 24 (omega arith))
    ∙ ap (λ (r : List ℕ). b 0 ++ (b 8 ++ (b 16 ++ (b 24 ++ r)))) (c 32 (omega arith))
    ∙ ap (λ (r : List ℕ). b 0 ++ (b 8 ++ (b 16 ++ (b 24 ++ (b 32 ++ r))))) (c 40 (omega arith))

-- four bytes and nothing else
cell_4 : (bytes : List ℕ) → IsBytes bytes → length bytes ≡ 4
    → big_bytes 4 (big_number 4 bytes) ≡ bytes
cell_4 bytes fits len = big_bytes_4 bytes fits (omega arith) ∙ take_all 4 bytes (omega arith)

pub contents_takes : (table : List ℕ) (t : Contents) → IsBytes table → length table ≡ 52
    → table_of table ≡ Ok t → table ≡ checked (contents_text t)
unfolding table_of
contents_takes table t fits len e =
    let g =
    guard_ended (eqb (big_number 4 (drop 48 table)) (crc32c (take 48 table))) ContentsCrc
    (contents_at table) t e in
    let text = table_text table fits (omega arith) in
    let front : take 48 table ≡ contents_text (contents_at table) = ap (take 48) text in
    let sum : big_number 4 (drop 48 table) ≡ crc32c (contents_text (contents_at table)) =
    eqb-true _ _ g.0 ∙ ap crc32c front in
    let back : drop 48 table ≡ big_bytes 4 (crc32c (contents_text (contents_at table))) =
    sym (cell_4 (drop 48 table) (IsBytes-drop 48 table fits) (omega (arith, length-drop 48 table)))
    ∙ ap (big_bytes 4) sum in
    subst (λ (u : Contents). table ≡ checked (contents_text u)) g.1 (text
    ∙ ap (λ (r : List ℕ). contents_text (contents_at table) ++ r) back)

same_contents : (t u : Contents) → t.symbols ≡ u.symbols → t.series ≡ u.series
    → t.label_indices ≡ u.label_indices → t.label_offsets ≡ u.label_offsets
    → t.postings ≡ u.postings → t.postings_offsets ≡ u.postings_offsets → t ≡ u
same_contents t u a b c d e f =
    ap (λ (x : ℕ). record t { symbols = x }) a
    ∙ ap (λ (x : ℕ). record t { symbols = u.symbols; series = x }) b
    ∙ ap (λ (x : ℕ). record t { symbols = u.symbols; series = u.series; label_indices = x }) c
    ∙ ap (λ (x : ℕ). record t {
      symbols = u.symbols;
      series = u.series;
      label_indices = u.label_indices;
      label_offsets = x;
    }) d
    ∙ ap (λ (x : ℕ). record u { postings = x; postings_offsets = t.postings_offsets }) e
    ∙ ap (λ (x : ℕ). record u { postings_offsets = x }) f

contents_again : (t : Contents) → IsBytes (contents_text t) → t.symbols < 2 ^ 64 → t.series < 2 ^ 64
    → t.label_indices < 2 ^ 64 → t.label_offsets < 2 ^ 64 → t.postings < 2 ^ 64
    → t.postings_offsets < 2 ^ 64 → table_of (checked (contents_text t)) ≡ Ok t
unfolding table_of
contents_again t fits a b c d e f =
    let sum = crc32c (contents_text t) in
    let back : big_number 4 (big_bytes 4 sum ++ []) ≡ sum =
    big_number-reads_back 4 sum [] (crc32c_below (contents_text t) fits) in
    let tail = big_bytes 4 sum in
    let p = t.postings_offsets in
    let w = λ (x : ℕ) (r : List ℕ). big_bytes 8 x ++ r in
    let r5 = w p tail in
    let r4 = w t.postings r5 in
    let r3 = w t.label_offsets r4 in
    let r2 = w t.label_indices r3 in
    let r1 = w t.series r2 in
    let same : contents_at (checked (contents_text t)) ≡ t = same_contents _ _
    (big_number-reads_back 8 t.symbols r1 a) (big_number-reads_back 8 t.series r2 b)
    (big_number-reads_back 8 t.label_indices r3 c)
    (big_number-reads_back 8 t.label_offsets r4 d) (big_number-reads_back 8 t.postings r5 e)
    (big_number-reads_back 8 p tail f) in
    rw (back, eqb_same sum) (ap done same)

-- ---- the head

five : (xs : List ℕ) → 5 ≤ length xs → take 5 xs ≡ slice_index xs 0 ∷ slice_index xs 1
    ∷ slice_index xs 2 ∷ slice_index xs 3 ∷ slice_index xs 4 ∷ []
five [] le = absurd (omega arith)
five (a ∷ []) le = absurd (omega arith)
five (a ∷ b ∷ []) le = absurd (omega arith)
five (a ∷ b ∷ c ∷ []) le = absurd (omega arith)
five (a ∷ b ∷ c ∷ d ∷ []) le = absurd (omega arith)
five (a ∷ b ∷ c ∷ d ∷ e ∷ xs) le = refl

both : (p q : Bool) → (p && q) ≡ true → (p ≡ true) × (q ≡ true)
both true q h = (refl, h)
both false q h = absurd cc

pub starts : (xs : List ℕ) → 5 ≤ length xs → has_magic xs ≡ true → eqb (slice_index xs 4) 2 ≡ true
    → take 5 xs ≡ 0xBA ∷ 0xAA ∷ 0xD7 ∷ 0 ∷ 2 ∷ []
starts xs le m v =
    let a3 = both _ _ m in
    let a2 = both _ _ a3.0 in
    let a1 = both _ _ a2.0 in
    let e0 : slice_index xs 0 ≡ 0xBA = eqb-true _ _ a1.0 in
    let e1 : slice_index xs 1 ≡ 0xAA = eqb-true _ _ a1.1 in
    let e2 : slice_index xs 2 ≡ 0xD7 = eqb-true _ _ a2.1 in
    let e3 : slice_index xs 3 ≡ 0 = eqb-true _ _ a3.1 in
    let e4 : slice_index xs 4 ≡ 2 = eqb-true _ _ v in
    rw (five xs le, e0, e1, e2, e3, e4) refl

-- what the head says of the file
pub record IsHead (file : List ℕ) (t : Contents) : Type 0 where
  pub start : take 5 file ≡ 0xBA ∷ 0xAA ∷ 0xD7 ∷ 0 ∷ 2 ∷ []
  pub contents : drop (length file - 52) file ≡ checked (contents_text t)

pub head_takes : (file : List ℕ) (t : Contents) → IsBytes file → head_of file ≡ Ok t → IsHead file t
unfolding head_of
head_takes file t fits h =
    let table = drop (length file - 52) file in
    elim (chosen (ltb 0x4000_0000 (length file)) _ _ _ h) [
      | inl a ↦ absurd (let f = a.1 in cc)
      | inr a ↦
          elim (chosen (ltb (length file) 57) _ _ _ a.1) [
            | inl b ↦ absurd (let f = b.1 in cc)
            | inr b ↦
                elim (chosen (has_magic file) _ _ _ b.1) [
                  | inr m ↦ absurd (let f = m.1 in cc)
                  | inl m ↦
                      elim (chosen (eqb (slice_index file 4) 2) _ _ _ m.1) [
                        | inr v ↦ absurd (let f = v.1 in cc)
                        | inl v ↦
                            let long = ltb-false _ _ b.0 in
                            let s =
                            bind_ok (table_of table)
                            (λ t. cond (in_order t (length file - 52)) (Ok t) (Err ContentsOrder)) t
                            v.1 in
                            let g =
                            guard_ended (in_order s.0 (length file - 52)) ContentsOrder s.0 t s.2 in
                            let same : table_of table ≡ done t = s.1 ∙ ap done g.1 in
                            record {
                              start = starts file (omega (arith, long)) m.0 v.0;
                              contents =
                                  contents_takes table t (IsBytes-drop (length file - 52) file fits)
                                  (omega (arith, long, length-drop (length file - 52) file)) same;
                            }
                      ]
                ]
          ]
    ]

or_left : (p q : Bool) → p ≡ true → (p || q) ≡ true
or_left true q h = refl
or_left false q h = absurd cc

or_right : (p q : Bool) → q ≡ true → (p || q) ≡ true
or_right true q h = refl
or_right false q h = h

between_true : (a b c : ℕ) → (b ≡ 0) ⊎ ((a ≤ b) × (b ≤ c))
    → (eqb b 0 || (nat_le a b && nat_le b c)) ≡ true
between_true a b c (inl e) = or_left (eqb b 0) _ (rw e refl)
between_true a b c (inr p) = or_right (eqb b 0) _ (rw (le-leb a b p.0, le-leb b c p.1) refl)

order_again : (t : Contents) (len : ℕ) → IsPlaced t len → in_order t (len - 52) ≡ true
order_again t len p =
    rw (
      p.symbols,
      lt-ltb 5 t.series p.series,
      le-leb t.series t.postings p.postings,
      le-leb t.postings t.postings_offsets p.postings_offsets,
      lt-ltb t.postings_offsets (len - 52) (omega (arith, p.end)),
      between_true t.series t.label_indices t.postings p.label_indices,
      between_true t.postings t.label_offsets t.postings_offsets p.label_offsets,
    ) refl

magic_again : (xs : List ℕ) → take 5 xs ≡ 0xBA ∷ 0xAA ∷ 0xD7 ∷ 0 ∷ 2 ∷ []
    → (has_magic xs ≡ true) × (eqb (slice_index xs 4) 2 ≡ true)
magic_again xs e =
    let at =
    λ (i : ℕ).
    λ (lt : i < 5). sym (get_or-take 5 xs i 0 lt) ∙ ap (λ (ys : List ℕ). get_or ys i 0) e in (
      rw (at 0 (omega arith), at 1 (omega arith), at 2 (omega arith), at 3 (omega arith)) refl,
      rw (at 4 (omega arith)) refl,
    )

index_below : (b a c n : ℕ) → (b ≡ 0) ⊎ ((a ≤ b) × (b ≤ c)) → c < n → b < n
index_below b a c n (inl e) lt = omega arith
index_below b a c n (inr p) lt = omega (arith, p.1)

pub head_again : (file : List ℕ) (t : Contents) → IsBytes file → IsHead file t
    → IsPlaced t (length file) → head_of file ≡ Ok t
unfolding head_of
head_again file t fits h p =
    let table = drop (length file - 52) file in
    let m = magic_again file h.start in
    let text_fits : IsBytes (contents_text t) =
    IsBytes-front (contents_text t) (big_bytes 4 (crc32c (contents_text t)))
    (subst IsBytes h.contents (IsBytes-drop (length file - 52) file fits)) in
    let o : t.postings_offsets < length file = omega (arith, p.end) in
    let q : t.postings < length file = omega (arith, p.postings_offsets, o) in
    let big : length file < 2 ^ 64 = omega (arith, p.short) in
    let read : table_of table ≡ Ok t =
    ap table_of h.contents
    ∙ contents_again t text_fits (omega (arith, p.symbols)) (omega (arith, p.postings, q, big))
    (index_below _ _ _ _ p.label_indices (omega (arith, q, big))) (index_below _ _ _ _
    p.label_offsets (omega (arith, o, big))) (omega (arith, q, big)) (omega (arith, o, big)) in
    rw (
      le-ltb 0x4000_0000 (length file) p.short,
      le-ltb (length file) 57 p.long,
      m.0,
      m.1,
      read,
      order_again t (length file) p,
    ) refl

-- ---- the whole

end_chosen : (b : Bool) (x y len : ℕ) → x ≤ len → y ≤ len → cond b x y ≤ len
end_chosen true x y len p q = p
end_chosen false x y len p q = q

-- the content of a frame that stands in the file is shorter than the file
pub omega_length : (file : List ℕ) (t : Contents) (content rest : List ℕ)
    → slice_range file 5 t.series ≡ frame content ++ rest → IsPlaced t (length file)
    → length content < 2 ^ 31
omega_length file t content rest text p =
    let a = ap length text in
    let b = length-append (frame content) rest in
    let c = length-append (big_bytes 4 (length content)) (checked content) in
    let d = length-append content (big_bytes 4 (crc32c content)) in
    let e = length-take (t.series - 5) (drop 5 file) in
    let f = length-drop 5 file in
    omega (arith, a, b, c, d, e, f, p.short)

pub end_inside : (t : Contents) (len : ℕ) → IsPlaced t len → series_end t ≤ len
end_inside t len p =
    end_chosen (eqb t.label_indices 0) t.postings t.label_indices len
    (omega (arith, p.postings_offsets, p.end)) (omega (
      arith,
      index_below t.label_indices t.series t.postings len p.label_indices
          (omega (arith, p.postings_offsets, p.end)),
    ))

frame_length : (content : List ℕ) → length content + 13 ≡ 5 + length (frame content)
frame_length content = omega (
  arith,
  length-append (big_bytes 4 (length content)) (checked content),
  length-append content (big_bytes 4 (crc32c content)),
)

pub parts_take : (file : List ℕ) (x : Layout) → IsBytes file → layout_of file ≡ Ok x → IsLayout file x
unfolding layout_of
parts_take file x fits h =
    let a = bind_ok (head_of file) _ x h in
    let t = a.0 in
    let b = bind_ok (frame_at SymbolsCrc (slice_range file 5 t.series)) _ x a.2 in
    let c = bind_ok (symbols_of b.0.0) _ x b.2 in
    let d = bind_ok (entries_from (length file) file (series_end t) (rounded t.series)) _ x c.2 in
    let head = head_takes file t fits a.1 in
    let placed = head_placed file t a.1 in
    let range_fits = IsBytes-take (t.series - 5) (drop 5 file) (IsBytes-drop 5 file fits) in
    let fr = frame_takes SymbolsCrc (slice_range file 5 t.series) b.0 range_fits b.1 in
    let content_fits : IsBytes b.0.0 =
    IsBytes-front b.0.0 (big_bytes 4 (crc32c b.0.0)) (IsBytes-back (big_bytes 4 (length b.0.0))
    (checked b.0.0) (IsBytes-front (frame b.0.0) b.0.1 (subst IsBytes fr.parts range_fits))) in
    let table = table_takes b.0.0 c.0 content_fits c.1 in
    let walk =
    walk_takes (length file) file (series_end t) (rounded t.series) d.0 fits
    (end_inside t (length file) placed) (omega (arith, end_inside t (length file) placed)) d.1 in
    let table_end : length b.0.0 + 13 ≡ 5 + length (frame b.0.0) = frame_length b.0.0 in
    let made : Layout =
    record { contents = t; symbols = c.0; symbols_end = length b.0.0 + 13; entries = d.0 } in
    let all : IsLayout file made = record {
      start = head.start;
      contents = head.contents;
      placed = placed;
      symbols = (b.0.0, (b.0.1, fr.parts), table, table_end);
      entries = walk;
    } in
    subst (λ (y : Layout). IsLayout file y) (ok_is made x d.2) all

pub parts_again : (file : List ℕ) (x : Layout) → IsBytes file → IsLayout file x → layout_of file ≡ Ok x
unfolding layout_of
parts_again file x fits p =
    let t = x.contents in
    let head : head_of file ≡ Ok t =
    head_again file t fits (record { start = p.start; contents = p.contents }) p.placed in
    let content = p.symbols.0 in
    let text = p.symbols.1.1 in
    let rest = p.symbols.1.0 in
    let range_fits = IsBytes-take (t.series - 5) (drop 5 file) (IsBytes-drop 5 file fits) in
    let content_fits : IsBytes content =
    IsBytes-front content (big_bytes 4 (crc32c content))
    (IsBytes-back (big_bytes 4 (length content)) (checked content)
    (IsBytes-front (frame content) rest (subst IsBytes text range_fits))) in
    let inside = end_inside t (length file) p.placed in
    let size = omega_length file t content rest text p.placed in
    let fr : frame_at SymbolsCrc (slice_range file 5 t.series) ≡ Ok (content, rest) =
    ap (frame_at SymbolsCrc) text
    ∙ frame_again SymbolsCrc content rest content_fits (omega (arith, size)) in
    let table = table_again content x.symbols (omega (arith, size)) p.symbols.2 in
    let walk =
    walk_again (length file) file (series_end t) (rounded t.series) x.entries fits inside
    (omega (arith, inside, p.placed.short)) (omega (arith, inside)) p.entries in
    let table_end : length content + 13 ≡ x.symbols_end = frame_length content ∙ sym p.symbols.3 in
    rw (head, fr, table, walk) (ap (λ (e : ℕ). done (record x { symbols_end = e })) table_end)

pub is_found : {X : Type 0} (view : X → Layout) (file : List ℕ) (r : Result X WalkError)
    → IsBytes file → Gives view r (layout_of file) → IfOk r (λ x. IsLayout file (view x))
is_found view file (Ok x) fits h = parts_take file (view x) fits h
is_found view file (Err e) fits h = tt
