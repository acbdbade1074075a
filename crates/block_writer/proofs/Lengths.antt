-- How long the parts of a file are, and why one is too long.
use Rattle.std.proofs.Common.{◌≡◌, ℕ, ◌+◌, ◌*◌, ◌/◌, ◌<◌, ◌≤◌, ℤ, List, [], ◌∷◌, ◌++◌, length, drop}
use Rattle.std.proofs.Common.{refl, ap, ◌∙◌, append_assoc, length-append, arith}
use Rattle.std.specs.List.{flat_map}
use Rattle.std.proofs.Math.Seq.{drop-append_seam}
use Rattle.std.proofs.lemmas.Bool.{lt-ltb, le-ltb}
use Rattle.byteorder.specs.Endian.{big_bytes}
use Rattle.wire.specs.Spelling.{groups, uvarint}
use Rattle.wire.specs.Checksum.{checked, crc32c}
use Rattle.wire.proofs.Laws.{uvarint_long}
use Rattle.chunk_reader.specs.Grammar.{sample_text, batch_text, plain}
use Rattle.index_reader.specs.Grammar.{frame, contents_text, symbol}
use Rattle.index_reader.specs.Spelled.{list_text}
use Rattle.block_writer.specs.declared.error.WriteError.{WriteError}
use Rattle.block_writer.specs.declared.error.WriteError.TheVariants.{Memory, Limit}
use Rattle.block_writer.specs.Writing.{piece_text}
use Rattle.block_writer.specs.IndexText.{contents_of, section_text}
use Rattle.block_writer.specs.Written.{limit, IsReason}

-- what is too long is so within what is longer
pub longer : (e : WriteError) (a b : List ℕ) → length a ≤ length b → IsReason a e → IsReason b e
longer Limit a b le h = omega (arith, le, h)
longer Memory a b le h = tt

-- what has too many parts is too long
pub too_many : (e : WriteError) (n : ℕ) (b : List ℕ) → n ≤ length b → limit < n → IsReason b e
too_many Limit n b le h = omega (arith, le, h)
too_many Memory n b le h = tt

pub front_long : {X : Type 0} (a b : List X) → length a ≤ length (a ++ b)
front_long a b = omega (arith, length-append a b)

pub back_long : {X : Type 0} (a b : List X) → length b ≤ length (a ++ b)
back_long a b = omega (arith, length-append a b)

-- ---- chunks

uvarint_one : (n : ℕ) → n < 128 → length (uvarint n) ≡ 1
unfolding uvarint groups
uvarint_one n lt = rw (lt-ltb n 128 lt) refl

uvarint_two : (n : ℕ) → 128 ≤ n → n < 16384 → length (uvarint n) ≡ 2
unfolding uvarint groups
uvarint_two n le lt = rw (le-ltb n 128 le, lt-ltb (n / 128) 128 (omega arith)) refl

samples_long : (ss : List (ℤ × ℤ)) → length (flat_map sample_text ss) ≡ 16 * length ss
samples_long [] = refl
samples_long (s ∷ ss) = omega (arith, samples_long ss)

body_long : (ss : List (ℤ × ℤ)) → length (batch_text ss) ≡ 2 + 16 * length ss
body_long ss = omega (arith, samples_long ss)

piece_long : (ss : List (ℤ × ℤ))
    → length (piece_text ss) ≡ length (uvarint (2 + 16 * length ss)) + (7 + 16 * length ss)
unfolding piece_text
piece_long ss =
    let e : length (piece_text ss)
    ≡ length (uvarint (length (batch_text ss))) + (5 + length (batch_text ss)) = omega (
      arith,
      length-append (uvarint (length (batch_text ss)))
          ((0xE0 ∷ batch_text ss) ++ big_bytes 4 (crc32c (0xE0 ∷ batch_text ss))),
      length-append (0xE0 ∷ batch_text ss) (big_bytes 4 (crc32c (0xE0 ∷ batch_text ss))),
    ) in
    let f : length (uvarint (length (batch_text ss))) ≡ length (uvarint (2 + 16 * length ss)) =
    ap (λ n. length (uvarint n)) (body_long ss) in
    omega (arith, e, f, body_long ss)

pub short_piece : (ss : List (ℤ × ℤ)) → 2 + 16 * length ss < 128
    → 1 + 1 + (2 + 16 * length ss) + 4 ≡ length (piece_text ss)
short_piece ss lt = omega (arith, piece_long ss, uvarint_one (2 + 16 * length ss) lt)

pub long_piece : (ss : List (ℤ × ℤ)) → 128 ≤ 2 + 16 * length ss → length ss ≤ 120
    → 2 + 1 + (2 + 16 * length ss) + 4 ≡ length (piece_text ss)
long_piece ss le few =
    omega (arith, piece_long ss, uvarint_two (2 + 16 * length ss) le (omega (arith, few)))

-- ---- sections

words_long : (refs : List ℕ) → length (flat_map (big_bytes 4) refs) ≡ 4 * length refs
words_long [] = refl
words_long (r ∷ refs) = omega (arith, words_long refs)

pub list_long : (refs : List ℕ) → length (list_text refs) ≡ 4 * length refs + 4
list_long refs = omega (arith, words_long refs)

pub frame_long : (content : List ℕ) → length (frame content) ≡ length content + 8
frame_long content = omega (arith, length-append content (big_bytes 4 (crc32c content)))

pub section_long : (refs : List ℕ) → length (section_text refs) ≡ 4 * length refs + 12
section_long refs = omega (arith, frame_long (list_text refs), list_long refs)

pub sections_long : (lists : List (List ℕ)) → length lists ≤ length (flat_map section_text lists)
sections_long [] = omega arith
sections_long (refs ∷ lists) = omega (
  arith,
  sections_long lists,
  length-append (section_text refs) (flat_map section_text lists),
  section_long refs,
)

pub symbols_long : (symbols : List (List ℕ)) → length symbols ≤ length (flat_map symbol symbols)
symbols_long [] = omega arith
symbols_long (s ∷ ss) = omega (
  arith,
  symbols_long ss,
  length-append (symbol s) (flat_map symbol ss),
  length-append (uvarint (length s)) s,
  uvarint_long (length s),
)

-- ---- texts step by step

-- the section of references, field by field
pub section_is : (out a b d e : List ℕ) (len count : ℕ) (refs : List ℕ) → count ≡ length refs
    → len ≡ 4 * length refs + 4 → a ≡ out ++ big_bytes 4 len → b ≡ a ++ big_bytes 4 count
    → d ≡ b ++ flat_map (big_bytes 4) refs
    → e ≡ d ++ big_bytes 4 (crc32c (drop (length a) d)) → e ≡ out ++ section_text refs
section_is out a b d e len count refs counted long first second third fourth =
    let text : d ≡ a ++ list_text refs =
    third
    ∙ ap (λ xs. xs ++ flat_map (big_bytes 4) refs) (second ∙ ap (λ n. a ++ big_bytes 4 n) counted)
    ∙ simp append_assoc in
    let content : drop (length a) d ≡ list_text refs =
    ap (drop (length a)) text ∙ drop-append_seam a (list_text refs) in
    let size : len ≡ length (list_text refs) = omega (arith, long, list_long refs) in
    let sealed : e ≡ (a ++ list_text refs) ++ big_bytes 4 (crc32c (list_text refs)) =
    fourth ∙ (λ i. text i ++ big_bytes 4 (crc32c (content i))) in
    let begun : a ≡ out ++ big_bytes 4 (length (list_text refs)) =
    first ∙ ap (λ n. out ++ big_bytes 4 n) size in
    sealed
    ∙ ap (λ xs. (xs ++ list_text refs) ++ big_bytes 4 (crc32c (list_text refs))) begun
    ∙ simp append_assoc

-- a chunk, field by field
pub chunk_is : (out a b c : List ℕ) (start : ℕ) (ss : List (ℤ × ℤ)) → start ≡ length a
    → a ≡ out ++ uvarint (2 + 16 * length ss) → b ≡ a ++ plain ∷ batch_text ss
    → c ≡ b ++ big_bytes 4 (crc32c (drop start b)) → c ≡ out ++ piece_text ss
unfolding piece_text
chunk_is out a b c start ss at first second third =
    let text = plain ∷ batch_text ss in
    let content : drop start b ≡ text = (λ i. drop (at i) (second i)) ∙ drop-append_seam a text in
    let size : 2 + 16 * length ss ≡ length (batch_text ss) = omega (arith, body_long ss) in
    let begun : a ≡ out ++ uvarint (length (batch_text ss)) =
    first ∙ ap (λ n. out ++ uvarint n) size in
    third
    ∙ (λ i. second i ++ big_bytes 4 (crc32c (content i)))
    ∙ ap (λ xs. (xs ++ text) ++ big_bytes 4 (crc32c text)) begun
    ∙ simp append_assoc

-- the table of contents, field by field
pub contents_is : (out a b c d e f g : List ℕ) (series postings offsets : ℕ)
    → a ≡ out ++ big_bytes 8 5 → b ≡ a ++ big_bytes 8 series → c ≡ b ++ big_bytes 8 0
    → d ≡ c ++ big_bytes 8 0 → e ≡ d ++ big_bytes 8 postings → f ≡ e ++ big_bytes 8 offsets
    → g ≡ f ++ big_bytes 4 (crc32c (drop (length out) f))
    → g ≡ out ++ checked (contents_text (contents_of series postings offsets))
contents_is out a b c d e f g series postings offsets h1 h2 h3 h4 h5 h6 h7 =
    let text : f ≡ out ++ contents_text (contents_of series postings offsets) =
    h6
    ∙ ap (λ xs. xs ++ big_bytes 8 offsets) (h5
    ∙ ap (λ xs. xs ++ big_bytes 8 postings) (h4
    ∙ ap (λ xs. xs ++ big_bytes 8 0) (h3
    ∙ ap (λ xs. xs ++ big_bytes 8 0) (h2 ∙ ap (λ xs. xs ++ big_bytes 8 series) h1))))
    ∙ simp append_assoc in
    let content : drop (length out) f ≡ contents_text (contents_of series postings offsets) =
    ap (drop (length out)) text
    ∙ drop-append_seam out (contents_text (contents_of series postings offsets)) in
    h7 ∙ (λ i. text i ++ big_bytes 4 (crc32c (content i))) ∙ simp append_assoc
