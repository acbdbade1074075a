-- What stands behind the length, the encoding's byte and the count of a chunk is its samples.
use Rattle.std.proofs.Common.{◌≡◌, ℕ, ◌-◌, ◌%◌, ◌^◌, ◌<◌, List, ◌∷◌, ◌++◌, length, drop, Result, Ok}
use Rattle.std.proofs.Common.{Err, sym, ap, subst, ◌∙◌, arith}
use Rattle.std.specs.Prelude.{ℤ}
use Rattle.std.specs.List.{flat_map}
use Rattle.byteorder.specs.Endian.{big_bytes}
use Rattle.wire.specs.declared.error.WireError.{WireError}
use Rattle.wire.specs.Outcome.{Reads}
use Rattle.wire.specs.Reading.{bytes_at, uvarint_at}
use Rattle.wire.specs.Spelling.{uvarint}
use Rattle.wire.specs.Checksum.{crc32c}
use Rattle.wire.proofs.Fields.{bytes_again}
use Rattle.wire.proofs.KnownReads.{same_read}
use Rattle.wire.proofs.Laws.{uvarint_again}
use Rattle.chunk_reader.specs.Grammar.{batch_text, sample_text, plain, IsChunk}
use Rattle.chunk_reader.specs.Reading.{samples_in}
use Rattle.chunk_reader.proofs.Batches.{length-batch_text, texts_again}
use Rattle.chunk_reader.proofs.SampleTexts.{length-texts}
use Rattle.chunk_reader.proofs.Whole.{chunk_text_apart}

-- what a read that did not fail took
pub taken : {X Y : Type 0} (view : X → Y) (read : Result (Y × List ℕ) WireError)
    (r : Result X WireError) (x : X) (old new : List ℕ) → r ≡ Ok x → Reads view read r old new
    → read ≡ Ok (view x, new)
taken view read (Ok y) x old new e h = cc
taken view read (Err f) x old new e h = absurd cc

-- the reads of a chunk that is known to stand there, one behind the other
pub samples_behind : (file : List ℕ) (reference : ℕ) (mint maxt : ℤ) (samples : List (ℤ × ℤ))
    (len : ℕ) (after front behind found last : List ℕ) → IsChunk file reference mint maxt samples
    → uvarint_at (drop reference file) ≡ Ok (len, after) → bytes_at 3 after ≡ Ok (front, behind)
    → bytes_at (len - 2) behind ≡ Ok (found, last) → found ≡ flat_map sample_text samples
samples_behind file reference mint maxt samples len after front behind found last x one two three =
    let body = batch_text samples in
    let texts = flat_map sample_text samples in
    let head = plain ∷ big_bytes 2 (length samples) in
    let rest = big_bytes 4 (crc32c (plain ∷ body)) ++ x.stands.0 in
    let small : length body < 2 ^ 64 = omega (arith, length-batch_text samples, x.batch.few) in
    let apart : drop reference file ≡ uvarint (length body) ++ (head ++ (texts ++ rest)) =
    x.stands.1 ∙ chunk_text_apart plain body x.stands.0 in
    let first =
    same_read (length body) len (head ++ (texts ++ rest)) after
    (sym (uvarint_again (length body) (head ++ (texts ++ rest)) small)
    ∙ sym (ap uvarint_at apart)
    ∙ one) in
    let second =
    same_read head front (texts ++ rest) behind
    (sym (bytes_again head (texts ++ rest)) ∙ ap (bytes_at 3) first.1 ∙ two) in
    let size : length texts ≡ len - 2 =
    omega (arith, first.0, length-batch_text samples, length-texts samples) in
    let third =
    same_read texts found rest last (sym (bytes_again texts rest)
    ∙ ap (bytes_at (length texts)) second.1
    ∙ ap (λ (n : ℕ). bytes_at n behind) size
    ∙ three) in
    sym third.0

pub in_slice : (slice file : List ℕ) (reference : ℕ) (mint maxt : ℤ) (samples : List (ℤ × ℤ))
    → slice ≡ file → IsChunk file reference mint maxt samples
    → IsChunk slice reference mint maxt samples
in_slice slice file reference mint maxt samples same x =
    subst (λ (bytes : List ℕ). IsChunk bytes reference mint maxt samples) (sym same) x

-- bytes that are the text of a chunk's samples
pub whole_samples : (bytes : List ℕ) (samples : List (ℤ × ℤ)) → bytes ≡ flat_map sample_text samples
    → length bytes % 16 ≡ 0
whole_samples bytes samples e = omega (arith, ap length e, length-texts samples)

pub is_stored : (file : List ℕ) (reference : ℕ) (mint maxt : ℤ) (samples found : List (ℤ × ℤ))
    (bytes : List ℕ) → IsChunk file reference mint maxt samples
    → bytes ≡ flat_map sample_text samples → found ≡ samples_in bytes
    → IsChunk file reference mint maxt found
is_stored file reference mint maxt samples found bytes x e f =
    subst (IsChunk file reference mint maxt)
    (sym (f ∙ ap samples_in e ∙ texts_again samples x.batch)) x
