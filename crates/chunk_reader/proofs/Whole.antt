-- What is read of a file is what stands there, and what stands there is read.
use Rattle.std.proofs.Common.{◌≡◌, ℕ, zero, suc, ◌+◌, ◌-◌, ◌/◌, ◌^◌, ◌<◌, Bool, true, false, ◌||◌}
use Rattle.std.proofs.Common.{not, eqb, ltb, List, [], ◌∷◌, ◌++◌, length, drop, Result, Ok, Err}
use Rattle.std.proofs.Common.{refl, sym, ap, subst, ◌∙◌, append_assoc, arith}
use Rattle.std.specs.Prelude.{ℤ, ◌==◌, slice_index, IfOk, OnOk, IsOk, nat_le}
use Rattle.std.specs.Ordering.{int_eq}
use Rattle.std.proofs.lemmas.Bool.{ltb-false, lt-leb, le-ltb, eqb-true}
use Rattle.std.specs.List.{flat_map}
use Rattle.std.specs.Int.{w64, byte_at, cast_unsigned}
use Rattle.std.proofs.Math.Nat.{mod-lt}
use Rattle.std.proofs.lemmas.List.{length-drop, length-append}
use Rattle.std.proofs.lemmas.List.Concat.{flat_map-cons}
use Rattle.byteorder.specs.Endian.{big_bytes}
use Rattle.wire.specs.Spelling.{uvarint, IsBytes}
use Rattle.wire.specs.Reading.{number_at, bytes_at, uvarint_at}
use Rattle.wire.specs.Checksum.{checked, crc32c}
use Rattle.wire.proofs.ChecksumBound.{crc32c_below}
use Rattle.wire.proofs.Fields.{IsBytes-drop, IsBytes-front, IsBytes-back, number_takes_4}
use Rattle.wire.proofs.Fields.{number_again_4, bytes_takes, bytes_again}
use Rattle.wire.proofs.Laws.{uvarint_takes, uvarint_again, uvarint_long}
use Rattle.chunk_reader.specs.declared.error.ChunkError.{ChunkError}
use Rattle.chunk_reader.specs.declared.error.ChunkError.TheVariants.{Magic, Version, Reference, Crc}
use Rattle.chunk_reader.specs.declared.error.ChunkError.TheVariants.{XorEncoding, OtherEncoding}
use Rattle.chunk_reader.specs.declared.error.ChunkError.TheVariants.{Shape, TimesDisagree}
use Rattle.chunk_reader.specs.Grammar.{chunk_text, batch_text, sample_text, signed_text, plain}
use Rattle.chunk_reader.specs.Grammar.{segment_of, time_at, IsChunk, IsSegment}
use Rattle.wire.specs.Outcome.{Answers, or_refused}
use Rattle.chunk_reader.specs.Reading.{opened, content_at, decode, batch_in, is_outside, spans}
use Rattle.chunk_reader.specs.Reading.{samples_of}
use Rattle.chunk_reader.proofs.Batches.{IsBody, batch_takes, batch_again, length-batch_text}
use Rattle.chunk_reader.proofs.Batches.{eqb_same}
use Rattle.chunk_reader.proofs.Rising.{and_true}
use Rattle.chunk_reader.proofs.Spans.{int_eq-true, int_eq_same}
use Rattle.wire.proofs.Steps.{bind_ok, refused_ok, not_failed, passed, same_value, rest_fits}

-- the head of the file

pub segment_takes : (file x : List ℕ) → IsBytes file → opened file ≡ Ok x → IsSegment file
unfolding opened
segment_takes file x fits h =
    let a = not_failed (ltb 0x4000_0000 (length file)) Shape _ x h in
    let m = bind_ok (or_refused Magic (number_at 4 file)) _ x a.1 in
    let mt = passed (eqb m.0.0 0x85BD_40DD) Magic _ x m.2 in
    let v = bind_ok (or_refused Version (number_at 4 m.0.1)) _ x mt.1 in
    let vt = passed (eqb v.0.0 0x0100_0000) Version _ x v.2 in
    let one =
    (number_takes_4 file m.0.0 m.0.1 fits (refused_ok Magic (number_at 4 file) m.0 m.1)).0 in
    let two =
    (number_takes_4 m.0.1 v.0.0 v.0.1 (rest_fits file (big_bytes 4 m.0.0) m.0.1 fits one)
    (refused_ok Version (number_at 4 m.0.1) v.0 v.1)).0 in
    let first : file ≡ big_bytes 4 0x85BD_40DD ++ m.0.1 =
    one ∙ ap (λ (n : ℕ). big_bytes 4 n ++ m.0.1) (eqb-true _ _ mt.0) in
    let second : m.0.1 ≡ big_bytes 4 0x0100_0000 ++ v.0.1 =
    two ∙ ap (λ (n : ℕ). big_bytes 4 n ++ v.0.1) (eqb-true _ _ vt.0) in
    record {
      short = ltb-false _ _ a.0;
      head = (v.0.1, first ∙ ap (λ (t : List ℕ). big_bytes 4 0x85BD_40DD ++ t) second);
    }

pub segment_again : (file : List ℕ) → IsSegment file → opened file ≡ Ok file
unfolding opened
segment_again file s =
    let rest = s.head.0 in
    let one : number_at 4 file ≡ Ok (0x85BD_40DD, big_bytes 4 0x0100_0000 ++ rest) =
    ap (number_at 4) s.head.1
    ∙ number_again_4 0x85BD_40DD (big_bytes 4 0x0100_0000 ++ rest) (omega arith) in
    let two : number_at 4 (big_bytes 4 0x0100_0000 ++ rest) ≡ Ok (0x0100_0000, rest) =
    number_again_4 0x0100_0000 rest (omega arith) in
    let short : ltb 0x4000_0000 (length file) ≡ false = le-ltb _ _ s.short in
    rw (short, one, two) refl

-- the chunk in front

first_apart : (content : List ℕ) → 0 < length content
    → content ≡ slice_index content 0 ∷ drop 1 content
first_apart [] lt = absurd (omega arith)
first_apart (x ∷ content) lt = refl

pub record Fronts (bytes : List ℕ) (x : ℕ × List ℕ) : Type 0 where
  pub rest : List ℕ
  pub text : bytes ≡ chunk_text x.0 x.1 ++ rest

pub content_takes : (bytes : List ℕ) (x : ℕ × List ℕ) → IsBytes bytes
    → content_at bytes ≡ Ok x → Fronts bytes x
unfolding content_at
content_takes bytes x fits h =
    let l = bind_ok (or_refused Crc (uvarint_at bytes)) _ x h in
    let k = bind_ok (or_refused Crc (bytes_at (l.0.0 + 1) l.0.1)) _ x l.2 in
    let s = bind_ok (or_refused Crc (number_at 4 k.0.1)) _ x k.2 in
    let t = passed (eqb s.0.0 (crc32c k.0.0)) Crc _ x s.2 in
    let content = k.0.0 in
    let one =
    (uvarint_takes bytes l.0.0 l.0.1 fits (refused_ok Crc (uvarint_at bytes) l.0 l.1)).0 in
    let l_fits = rest_fits bytes _ l.0.1 fits one in
    let two =
    bytes_takes (l.0.0 + 1) l.0.1 content k.0.1
    (refused_ok Crc (bytes_at (l.0.0 + 1) l.0.1) k.0 k.1) in
    let k_fits = rest_fits l.0.1 content k.0.1 l_fits two.0 in
    let three =
    (number_takes_4 k.0.1 s.0.0 s.0.1 k_fits (refused_ok Crc (number_at 4 k.0.1) s.0 s.1)).0 in
    let sum : k.0.1 ≡ big_bytes 4 (crc32c content) ++ s.0.1 =
    three ∙ ap (λ (n : ℕ). big_bytes 4 n ++ s.0.1) (eqb-true _ _ t.0) in
    let made : ℕ × List ℕ = (slice_index content 0, drop 1 content) in
    let apart : content ≡ made.0 ∷ made.1 = first_apart content (omega (arith, two.1)) in
    let size : l.0.0 ≡ length made.1 = omega (arith, length-drop 1 content, two.1) in
    let front : bytes ≡ uvarint (length made.1) ++ l.0.1 =
    one ∙ ap (λ (n : ℕ). uvarint n ++ l.0.1) size in
    let joined : content ++ k.0.1 ≡ checked content ++ s.0.1 =
    ap (λ (r : List ℕ). content ++ r) sum
    ∙ sym (append_assoc content (big_bytes 4 (crc32c content)) s.0.1) in
    let behind : l.0.1 ≡ checked (made.0 ∷ made.1) ++ s.0.1 =
    two.0 ∙ (joined ∙ ap (λ (y : List ℕ). checked y ++ s.0.1) apart) in
    let text : bytes ≡ chunk_text made.0 made.1 ++ s.0.1 =
    front
    ∙ (ap (λ (r : List ℕ). uvarint (length made.1) ++ r) behind
    ∙ sym (append_assoc (uvarint (length made.1)) (checked (made.0 ∷ made.1)) s.0.1)) in
    subst (Fronts bytes) (same_value made x t.1) (record { rest = s.0.1; text = text })

-- a chunk's text, part by part
pub chunk_text_apart : (encoding : ℕ) (body rest : List ℕ)
    → chunk_text encoding body ++ rest ≡ uvarint (length body)
    ++ ((encoding ∷ body) ++ (big_bytes 4 (crc32c (encoding ∷ body)) ++ rest))
chunk_text_apart encoding body rest =
    let content = encoding ∷ body in
    append_assoc (uvarint (length body)) (checked content) rest
    ∙ ap (λ (t : List ℕ). uvarint (length body) ++ t)
    (append_assoc content (big_bytes 4 (crc32c content)) rest)

pub content_again : (encoding : ℕ) (body rest : List ℕ) → IsBytes (encoding ∷ body)
    → length body < 2 ^ 64 → content_at (chunk_text encoding body ++ rest) ≡ Ok (encoding, body)
unfolding content_at
content_again encoding body rest fits lt =
    let content = encoding ∷ body in
    let sum = big_bytes 4 (crc32c content) in
    let grouped = chunk_text_apart encoding body rest in
    let size : length body + 1 ≡ length content = omega arith in
    let one = uvarint_again (length body) (content ++ (sum ++ rest)) lt in
    let two : bytes_at (length body + 1) (content ++ (sum ++ rest)) ≡ Ok (content, sum ++ rest) =
    ap (λ (n : ℕ). bytes_at n (content ++ (sum ++ rest))) size
    ∙ bytes_again content (sum ++ rest) in
    let three = number_again_4 (crc32c content) rest (crc32c_below content fits) in
    ap content_at grouped
    ∙ rw (one, two, three, eqb_same (crc32c content) (crc32c content) refl) refl

-- what the encoding says

pub decoded_takes : (encoding : ℕ) (body : List ℕ) (samples : List (ℤ × ℤ)) → IsBytes body
    → decode encoding body ≡ Ok samples → (encoding ≡ plain) × IsBody body samples
unfolding decode
decoded_takes encoding body samples fits h =
    let a = not_failed (eqb encoding 1) XorEncoding _ samples h in
    let b = passed (eqb encoding plain) OtherEncoding _ samples a.1 in
    (eqb-true _ _ b.0, batch_takes body samples fits b.1)

pub decoded_again : (samples : List (ℤ × ℤ)) (body : List ℕ) → batch_in body ≡ Ok samples
    → decode plain body ≡ Ok samples
unfolding decode
decoded_again samples body h = h

-- a chunk by its place

pub neither : (a b : Bool) → (a || b) ≡ false → (a ≡ false) × (b ≡ false)
neither true b h = absurd cc
neither false b h = (refl, h)

pub un_not : (b : Bool) → not b ≡ false → b ≡ true
un_not true h = refl
un_not false h = absurd cc

pub chunk_takes : (file : List ℕ) (reference : ℕ) (mint maxt : ℤ) (samples : List (ℤ × ℤ))
    → IsBytes file → samples_of file reference mint maxt ≡ Ok samples
    → IsChunk file reference mint maxt samples
unfolding samples_of
chunk_takes file reference mint maxt samples fits h =
    let a = not_failed (is_outside file reference) Reference _ samples h in
    let inside =
    neither (not (segment_of reference == 0) || ltb reference 8)
    (nat_le (length file) reference) a.0 in
    let behind = neither (not (segment_of reference == 0)) (ltb reference 8) inside.0 in
    let bytes = drop reference file in
    let bytes_fits = IsBytes-drop reference file fits in
    let k = bind_ok (content_at bytes) _ samples a.1 in
    let d = bind_ok (decode k.0.0 k.0.1) _ samples k.2 in
    let s = passed (spans mint maxt d.0) TimesDisagree _ samples d.2 in
    let front = content_takes bytes k.0 bytes_fits k.1 in
    let content_fits =
    IsBytes-front (k.0.0 ∷ k.0.1) _ (IsBytes-back (uvarint (length k.0.1)) _
    (IsBytes-front (chunk_text k.0.0 k.0.1) front.rest (subst IsBytes front.text bytes_fits))) in
    let t = decoded_takes k.0.0 k.0.1 d.0 (λ i. content_fits (suc i)) d.1 in
    let ends =
    and_true (int_eq (time_at d.0 0) mint) (int_eq (time_at d.0 (length d.0 - 1)) maxt) s.0 in
    let text : bytes ≡ chunk_text plain (batch_text d.0) ++ front.rest =
    front.text
    ∙ ap (λ (e : ℕ). chunk_text e k.0.1 ++ front.rest) t.0
    ∙ ap (λ (b : List ℕ). chunk_text plain b ++ front.rest) t.1.text in
    subst (IsChunk file reference mint maxt) (same_value d.0 samples s.1) (record {
      segment = eqb-true _ _ (un_not (segment_of reference == 0) behind.0);
      behind_head = ltb-false _ _ behind.1;
      stands = (front.rest, text);
      batch = t.1.batch;
      first = int_eq-true _ _ ends.0;
      last = int_eq-true _ _ ends.1;
    })

pub not_le : (m n : ℕ) → n < m → nat_le m n ≡ false
not_le m n lt = lt-leb m n lt

pub inside : (file : List ℕ) (reference : ℕ) (text rest : List ℕ) → drop reference file ≡ text ++ rest
    → 0 < length text → reference < length file
inside file reference text rest e some =
    omega (arith, length-drop reference file, ap length e, length-append text rest, some)

-- what is spelled is bytes

byte_below : (k n : ℕ) → byte_at k n < 256
byte_below zero n = mod-lt n (omega arith)
byte_below (suc k) n = mod-lt (n / 256 ^ suc k) (omega arith)

none_fit : IsBytes []
none_fit i = omega arith

one_more_fits : (x : ℕ) (bytes : List ℕ) → x < 256 → IsBytes bytes → IsBytes (x ∷ bytes)
one_more_fits x bytes lt fits zero = lt
one_more_fits x bytes lt fits (suc i) = fits i

both_fit : (a b : List ℕ) → IsBytes a → IsBytes b → IsBytes (a ++ b)
both_fit [] b p q = q
both_fit (x ∷ a) b p q = one_more_fits x (a ++ b) (p 0) (both_fit a b (λ i. p (suc i)) q)

number_fits : (k n : ℕ) → IsBytes (big_bytes k n)
number_fits zero n = none_fit
number_fits (suc k) n =
    one_more_fits (byte_at k n) (big_bytes k n) (byte_below k n) (number_fits k n)

samples_bytes : (samples : List (ℤ × ℤ)) → IsBytes (flat_map sample_text samples)
samples_bytes [] = none_fit
samples_bytes (s ∷ samples) =
    let first : IsBytes (sample_text s) =
    both_fit (signed_text s.0) (signed_text s.1) (number_fits 8 (cast_unsigned w64 s.0))
    (number_fits 8 (cast_unsigned w64 s.1)) in
    subst IsBytes (sym (flat_map-cons sample_text s samples))
    (both_fit (sample_text s) (flat_map sample_text samples) first (samples_bytes samples))

content_bytes : (samples : List (ℤ × ℤ)) → IsBytes (plain ∷ batch_text samples)
content_bytes samples =
    one_more_fits plain (batch_text samples) (omega arith) (both_fit (big_bytes 2 (length samples))
    (flat_map sample_text samples) (number_fits 2 (length samples)) (samples_bytes samples))

pub chunk_again : (file : List ℕ) (reference : ℕ) (mint maxt : ℤ) (samples : List (ℤ × ℤ))
    → IsChunk file reference mint maxt samples → samples_of file reference mint maxt ≡ Ok samples
unfolding samples_of
chunk_again file reference mint maxt samples x =
    let body = batch_text samples in
    let rest = x.stands.0 in
    let content_fits = content_bytes samples in
    let small : length body < 2 ^ 64 = omega (arith, length-batch_text samples, x.batch.few) in
    let long : 0 < length (chunk_text plain body) = omega (
      arith,
      length-append (uvarint (length body)) (checked (plain ∷ body)),
      uvarint_long (length body),
    ) in
    let here : eqb (segment_of reference) 0 ≡ true = eqb_same _ _ x.segment in
    let low : ltb reference 8 ≡ false = le-ltb _ _ x.behind_head in
    let high : nat_le (length file) reference ≡ false =
    not_le (length file) reference
    (inside file reference (chunk_text plain body) rest x.stands.1 long) in
    let content : content_at (drop reference file) ≡ Ok (plain, body) =
    ap content_at x.stands.1 ∙ content_again plain body rest content_fits small in
    let found : decode plain body ≡ Ok samples =
    decoded_again samples body (batch_again samples x.batch) in
    let first : int_eq (time_at samples 0) mint ≡ true = int_eq_same _ _ x.first in
    let last : int_eq (time_at samples (length samples - 1)) maxt ≡ true = int_eq_same _ _ x.last in
    rw (here, low, high, content, found, first, last) refl

-- a call's result by what reading gives

answered : {A : Type 0} (r : Result A ChunkError) (read : Result A ChunkError) (x : A)
    → Answers (λ a. a) r read → read ≡ Ok x → r ≡ Ok x
answered (Ok a) read x h e = sym h ∙ e
answered (Err f) read x h e = absurd cc

found_in : (file : List ℕ) (reference : ℕ) (mint maxt : ℤ) (r : Result (List (ℤ × ℤ)) ChunkError)
    → IsBytes file → Answers (λ s. s) r (samples_of file reference mint maxt)
    → IfOk r (IsChunk file reference mint maxt)
found_in file reference mint maxt (Ok samples) fits h =
    chunk_takes file reference mint maxt samples fits h
found_in file reference mint maxt (Err e) fits h = tt

-- the times as they were handed over, and as they were asked for
pub is_found : (file : List ℕ) (reference : ℕ) (m n mint maxt : ℤ)
    (r : Result (List (ℤ × ℤ)) ChunkError) → m ≡ mint → n ≡ maxt → IsBytes file
    → Answers (λ s. s) r (samples_of file reference m n) → IfOk r (IsChunk file reference mint maxt)
is_found file reference m n mint maxt r e f fits h =
    found_in file reference mint maxt r fits
    (subst (λ (z : ℤ). Answers (λ s. s) r (samples_of file reference mint z)) f
    (subst (λ (z : ℤ). Answers (λ s. s) r (samples_of file reference z n)) e h))

pub is_only : (file : List ℕ) (reference : ℕ) (m n mint maxt : ℤ)
    (r : Result (List (ℤ × ℤ)) ChunkError) (samples : List (ℤ × ℤ)) → m ≡ mint → n ≡ maxt
    → Answers (λ s. s) r (samples_of file reference m n) → IsChunk file reference mint maxt samples
    → r ≡ Ok samples
is_only file reference m n mint maxt r samples e f h x =
    answered r (samples_of file reference m n) samples h
    (ap (λ (z : ℤ). samples_of file reference z n) e
    ∙ ap (samples_of file reference mint) f
    ∙ chunk_again file reference mint maxt samples x)

pub head_found : {X : Type 0} (file : List ℕ) (r : Result X ChunkError) → IsBytes file
    → Answers (λ _. file) r (opened file) → OnOk r (IsSegment file)
head_found file (Ok x) fits h = segment_takes file file fits h
head_found file (Err e) fits h = tt

pub head_only : {X : Type 0} (file : List ℕ) (r : Result X ChunkError)
    → Answers (λ _. file) r (opened file) → IsSegment file → IsOk r
head_only file (Ok x) h s = refl
head_only file (Err e) h s = let p = segment_again file s in absurd cc
