-- The layout of a written index.
use Rattle.std.proofs.Common.{◌≡◌, ℕ, zero, suc, ◌+◌, ◌-◌, ◌<◌, ◌≤◌, true, eqb, inl, List, [], ◌∷◌}
use Rattle.std.proofs.Common.{◌++◌, length, take, drop, replicate, refl, sym, ap, subst, ◌∙◌}
use Rattle.std.proofs.Common.{append_assoc, length-append, arith}
use Rattle.std.specs.Prelude.{slice_range}
use Rattle.std.specs.List.{list_all, AllByRecursion}
use Rattle.std.specs.List.Sorted.{IsStrictlySortedBy}
use Rattle.std.specs.Str.{IsUtf8}
use Rattle.std.proofs.Math.Seq.{drop-append_seam, take-append_seam}
use Rattle.std.proofs.lemmas.List.{append-nil, length-replicate}
use Rattle.wire.specs.Spelling.{uvarint}
use Rattle.wire.proofs.Laws.{uvarint_long}
use Rattle.index_reader.specs.Layout.{ascending, rounded}
use Rattle.wire.specs.Checksum.{checked}
use Rattle.index_reader.specs.Grammar.{frame, entry, contents_text, IsWalk, IsLayout}
use Rattle.index_reader.specs.Reading.Entries.{zero_between, gaps_zero}
use Rattle.labels.specs.Labels.{text_cmp}
use Rattle.block_writer.specs.IndexText.{padded, symbols_text, start_text, with_entries}
use Rattle.block_writer.specs.IndexText.{contents_of}
use Rattle.block_writer.proofs.WrittenAs.{places_from}
use Rattle.block_writer.proofs.Building.{grows, padded_long}
use Rattle.block_writer.proofs.Lengths.{frame_long}

-- ---- what stands where

-- a text between others
pub middle : {X : Type 0} (a b c : List X) (at end : ℕ) → at ≡ length a → end ≡ length a + length b
    → slice_range (a ++ (b ++ c)) at end ≡ b
middle a b c at end e f =
    let size : end - at ≡ length b = omega (arith, e, f) in
    (λ i. take (size i) (drop (e i) (a ++ (b ++ c))))
    ∙ ap (take (length b)) (drop-append_seam a (b ++ c))
    ∙ take-append_seam b c

-- the last text
pub last_part : {X : Type 0} (a b : List X) (at end : ℕ) → at ≡ length a → end ≡ length a + length b
    → slice_range (a ++ b) at end ≡ b
last_part a b at end e f =
    ap (λ xs. slice_range xs at end) (ap (λ ys. a ++ ys) (sym (append-nil b)))
    ∙ middle a b [] at end e f

-- entries stand behind what was there
pub behind_it : (bodies : List (List ℕ)) (out : List ℕ)
    → (rest : List ℕ) × (with_entries out bodies ≡ out ++ rest)
unfolding with_entries
behind_it [] out = ([], sym (append-nil out))
behind_it (body ∷ bodies) out =
    let r = behind_it bodies (padded out ++ entry body) in (
      replicate (rounded (length out) - length out) 0 ++ (entry body ++ r.0),
      r.1 ∙ simp append_assoc,
    )

zeros : (n : ℕ) → list_all (λ b. eqb b 0) (replicate n 0) ≡ true
zeros zero = refl
zeros (suc n) = zeros n

padding : (a c : List ℕ) (n at end : ℕ) → at ≡ length a → end ≡ length a + n
    → zero_between (a ++ (replicate n 0 ++ c)) at end ≡ true
padding a c n at end e f =
    let size : length {A = ℕ} (replicate n 0) ≡ n = length-replicate {A = ℕ} n 0 in
    ap (list_all (λ b. eqb b 0)) (middle a (replicate n 0) c at end e (omega (arith, f, size)))
    ∙ zeros n

rounded_up : (n : ℕ) → n ≤ rounded n
rounded_up n = omega arith

rounded_again : (n : ℕ) → rounded (rounded n) ≡ rounded n
rounded_again n = omega arith

-- ---- entries

-- an entry has bytes
pub entry_some : (body : List ℕ) → 0 < length (entry body)
entry_some body =
    omega (arith, length-append (uvarint (length body)) (checked body), uvarint_long (length body))

pub walked : (bodies : List (List ℕ)) (front rest : List ℕ)
    → IsWalk (with_entries front bodies ++ rest) (length (with_entries front bodies))
    (rounded (length front)) (places_from (length front) bodies)
unfolding with_entries places_from
walked [] front rest = rounded_up (length front)
walked (body ∷ bodies) front rest =
    let next : List ℕ = padded front ++ entry body in
    let r = behind_it bodies next in
    let at : length (padded front) ≡ rounded (length front) = padded_long front in
    let long : length next ≡ rounded (length front) + length (entry body) =
    omega (arith, at, length-append (padded front) (entry body)) in
    let more : length next ≤ length (with_entries next bodies) = grows bodies next in
    let some : 0 < length (entry body) = entry_some body in
    let text : with_entries next bodies ++ rest ≡ padded front ++ ((entry body ++ r.0) ++ rest) =
    ap (λ xs. xs ++ rest) r.1 ∙ simp append_assoc in
    let end : length (with_entries next bodies)
    ≡ length (padded front) + length (entry body ++ r.0) = omega (
      arith,
      ap length r.1,
      length-append next r.0,
      length-append (padded front) (entry body),
      length-append (entry body) r.0,
    ) in
    let here : slice_range (with_entries next bodies ++ rest) (rounded (length front))
    (length (with_entries next bodies)) ≡ entry body ++ r.0 =
    ap (λ xs. slice_range xs (rounded (length front)) (length (with_entries next bodies))) text
    ∙ middle (padded front) (entry body ++ r.0) rest (rounded (length front))
    (length (with_entries next bodies)) (sym at) end in (
      refl,
      (omega (arith, long, more, some)),
      (r.0, here),
      subst (λ n. IsWalk (with_entries next bodies ++ rest) (length (with_entries next bodies))
          (rounded n) (places_from n bodies)) long (walked bodies next rest),
      refl,
    )

-- ---- nothing but zeros between entries

nothing_between : (file : List ℕ) (from to : ℕ) → to ≤ from → zero_between file from to ≡ true
nothing_between file from to le = let e : to - from ≡ 0 = omega arith in rw e refl

pub filled : (bodies : List (List ℕ)) (front rest : List ℕ)
    → gaps_zero (with_entries front bodies ++ rest) (length (with_entries front bodies))
    (length front) (places_from (length front) bodies) ≡ true
unfolding with_entries places_from gaps_zero
filled [] front rest = nothing_between (front ++ rest) (length front) (length front) (omega arith)
filled (body ∷ bodies) front rest =
    let next : List ℕ = padded front ++ entry body in
    let r = behind_it bodies next in
    let gap : ℕ = rounded (length front) - length front in
    let long : length next ≡ rounded (length front) + length (entry body) =
    omega (arith, padded_long front, length-append (padded front) (entry body)) in
    let text : with_entries next bodies ++ rest
    ≡ front ++ (replicate gap 0 ++ (entry body ++ (r.0 ++ rest))) =
    ap (λ xs. xs ++ rest) r.1 ∙ simp append_assoc in
    let up : length front ≤ rounded (length front) = rounded_up (length front) in
    let here : zero_between (with_entries next bodies ++ rest) (length front)
    (rounded (length front)) ≡ true =
    ap (λ xs. zero_between xs (length front) (rounded (length front))) text
    ∙ padding front (entry body ++ (r.0 ++ rest)) gap (length front) (rounded (length front)) refl
    (omega (arith, up)) in
    let others : gaps_zero (with_entries next bodies ++ rest) (length (with_entries next bodies))
    (rounded (length front) + length (entry body))
    (places_from (rounded (length front) + length (entry body)) bodies) ≡ true =
    subst (λ n. gaps_zero (with_entries next bodies ++ rest) (length (with_entries next bodies)) n
    (places_from n bodies) ≡ true) long (filled bodies next rest) in
    rw (here, others) refl

-- what stands before the padding of the first entry is as well told from its end
pub filled_so : (bodies : List (List ℕ)) (front rest : List ℕ)
    → gaps_zero (with_entries (padded front) bodies ++ rest) (length (with_entries (padded front)
    bodies)) (length front) (places_from (length (padded front)) bodies) ≡ true
unfolding with_entries places_from gaps_zero
filled_so [] front rest =
    let gap : ℕ = rounded (length front) - length front in
    let up : length front ≤ rounded (length front) = rounded_up (length front) in
    let text : padded front ++ rest ≡ front ++ (replicate gap 0 ++ rest) = simp append_assoc in
    ap (λ xs. zero_between xs (length front) (length (padded front))) text
    ∙ padding front rest gap (length front) (length (padded front)) refl
    (omega (arith, up, padded_long front))
filled_so (body ∷ bodies) front rest =
    let at : length (padded front) ≡ rounded (length front) = padded_long front in
    let again : rounded (length (padded front)) ≡ rounded (length front) =
    ap rounded at ∙ rounded_again (length front) in
    let none : rounded (length (padded front)) - length (padded front) ≡ 0 =
    omega (arith, at, again) in
    let same : padded (padded front) ≡ padded front =
    ap (λ n. padded front ++ replicate n 0) none ∙ append-nil (padded front) in
    let alike : gaps_zero (with_entries (padded (padded front) ++ entry body) bodies ++ rest)
    (length (with_entries (padded (padded front) ++ entry body) bodies)) (length front)
    (places_from (length (padded front)) (body ∷ bodies))
    ≡ gaps_zero (with_entries (padded front ++ entry body) bodies ++ rest)
    (length (with_entries (padded front ++ entry body) bodies)) (length front)
    (places_from (length front) (body ∷ bodies)) =
    λ i. gaps_zero (with_entries (same i ++ entry body) bodies ++ rest)
    (length (with_entries (same i ++ entry body) bodies)) (length front) (record {
      offset = again i;
      body = body;
      end = again i + length (entry body);
    } ∷ places_from (again i + length (entry body)) bodies) in
    alike ∙ filled (body ∷ bodies) front rest

-- ---- the parts

rising_texts : (ss : List (List ℕ)) → IsStrictlySortedBy text_cmp ss → ascending ss ≡ true
unfolding IsStrictlySortedBy ascending
rising_texts [] h = refl
rising_texts (a ∷ []) h = refl
rising_texts (a ∷ b ∷ rest) h = rw (h.0.0, rising_texts (b ∷ rest) h.1) refl

-- magic and version, and the symbol table
abbrev pub head_text : List (List ℕ) → List ℕ
head_text symbols = (0xBA ∷ 0xAA ∷ 0xD7 ∷ 0 ∷ 2 ∷ []) ++ frame (symbols_text symbols)

pub parts_are : (symbols bodies : List (List ℕ)) (sections table file : List ℕ)
    → file ≡ with_entries (start_text symbols) bodies
    ++ (sections ++ (frame table ++ checked (contents_text
    (contents_of (length (start_text symbols)) (length (with_entries (start_text symbols) bodies))
    (length (with_entries (start_text symbols) bodies) + length sections)))))
    → length file ≤ 0x4000_0000 → IsStrictlySortedBy text_cmp symbols
    → AllByRecursion IsUtf8 symbols
    → IsLayout file (record {
      contents =
          contents_of (length (start_text symbols)) (length (with_entries (start_text symbols)
          bodies)) (length (with_entries (start_text symbols) bodies) + length sections);
      symbols = symbols;
      symbols_end = 5 + length (frame (symbols_text symbols));
      entries = places_from (length (start_text symbols)) bodies;
    })
parts_are symbols bodies sections table file is short up texts =
    let start : List ℕ = start_text symbols in
    let front : List ℕ = with_entries start bodies in
    let ends : List ℕ =
    checked
    (contents_text (contents_of (length start) (length front) (length front + length sections))) in
    let rest : List ℕ = sections ++ (frame table ++ ends) in
    let r = behind_it bodies start in
    let gap : List ℕ =
    replicate (rounded (length (head_text symbols)) - length (head_text symbols)) 0 in
    let text : file ≡ start ++ (r.0 ++ rest) =
    is ∙ ap (λ xs. xs ++ rest) r.1 ∙ append_assoc start r.0 rest in
    let magic : List ℕ = 0xBA ∷ 0xAA ∷ 0xD7 ∷ 0 ∷ 2 ∷ [] in
    let headed : file ≡ magic ++ ((frame (symbols_text symbols) ++ gap) ++ (r.0 ++ rest)) = text in
    let fifty : length ends ≡ 52 = omega arith in
    let before : List ℕ = front ++ (sections ++ frame table) in
    let ended : file ≡ before ++ ends =
    is
    ∙ sym (append_assoc front (sections ++ frame table) ends
    ∙ ap (λ xs. front ++ xs) (append_assoc sections (frame table) ends)) in
    let many : length file ≡ length before + 52 =
    omega (arith, ap length ended, length-append before ends, fifty) in
    let table_size : length (frame table) ≡ length table + 8 = frame_long table in
    let before_size : length before ≡ length front + (length sections + length (frame table)) =
    omega
    (arith, length-append front (sections ++ frame table), length-append sections (frame table)) in
    let grown : length start ≤ length front = grows bodies start in
    let start_size : length start ≡ 5 + length (frame (symbols_text symbols) ++ gap) =
    omega arith in
    let frame_size : length (frame (symbols_text symbols) ++ gap)
    ≡ length (symbols_text symbols) + 8 + length gap =
    omega
    (arith, length-append (frame (symbols_text symbols)) gap, frame_long (symbols_text symbols)) in
    let at_end : length file - 52 ≡ length before = omega (arith, many) in
    record {
      start = ap (take 5) headed;
      contents = (λ i. drop (at_end i) (ended i)) ∙ drop-append_seam before ends;
      placed = record {
        long = omega (arith, many, before_size, table_size, grown, start_size, frame_size);
        short = short;
        symbols = refl;
        series = omega (arith, start_size, frame_size);
        postings = grown;
        postings_offsets = omega arith;
        end = omega (arith, many, before_size, table_size);
        label_indices = inl refl;
        label_offsets = inl refl;
      };
      symbols = (
        symbols_text symbols,
        (
          gap,
          ap (λ xs. slice_range xs 5 (length start)) headed
              ∙ middle magic (frame (symbols_text symbols) ++ gap) (r.0 ++ rest) 5 (length start)
              refl start_size,
        ),
        record { text = refl; order = rising_texts symbols up; texts = texts },
        refl,
      );
      entries =
          subst (λ xs. IsWalk xs (length front) (rounded (length start))
          (places_from (length start) bodies)) (sym is) (walked bodies start rest);
    }

-- between the symbols and the postings, what lies in no entry is 0
pub gaps_are : (symbols bodies : List (List ℕ)) (rest file : List ℕ)
    → file ≡ with_entries (start_text symbols) bodies ++ rest
    → gaps_zero file (length (with_entries (start_text symbols) bodies))
    (5 + length (frame (symbols_text symbols))) (places_from (length (start_text symbols)) bodies)
    ≡ true
gaps_are symbols bodies rest file is =
    let behind : length (head_text symbols) ≡ 5 + length (frame (symbols_text symbols)) =
    omega (arith, length-append (0xBA ∷ 0xAA ∷ 0xD7 ∷ 0 ∷ 2 ∷ []) (frame (symbols_text symbols))) in
    let front : List ℕ = with_entries (start_text symbols) bodies in
    let whole : gaps_zero (front ++ rest) (length front) (length (head_text symbols))
    (places_from (length (start_text symbols)) bodies) ≡ true =
    filled_so bodies (head_text symbols) rest in
    subst (λ xs. gaps_zero xs (length front) (5 + length (frame (symbols_text symbols)))
    (places_from (length (start_text symbols)) bodies) ≡ true) (sym is)
    (subst (λ n. gaps_zero (front ++ rest) (length front) n
    (places_from (length (start_text symbols)) bodies) ≡ true) behind whole)
