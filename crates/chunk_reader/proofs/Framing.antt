-- A frame that is read is the one that stands there, and one that stands there is read.
use Rattle.std.proofs.Common.{◌≡◌, ℕ, suc, ◌+◌, ◌<◌, ◌≤◌, ◌^◌, Bool, true, false, ◌||◌, not, ltb}
use Rattle.std.proofs.Common.{eqb, List, ◌∷◌, ◌++◌, length, drop, Result, Ok, Err, refl, sym, ap}
use Rattle.std.proofs.Common.{subst, ◌∙◌, arith}
use Rattle.std.specs.Prelude.{◌==◌, nat_le, IfOk}
use Rattle.wire.specs.Outcome.{Answers}
use Rattle.std.proofs.lemmas.Bool.{ltb-false, le-ltb, eqb-true}
use Rattle.std.proofs.lemmas.List.{length-drop, length-append}
use Rattle.wire.specs.Spelling.{uvarint, IsBytes}
use Rattle.byteorder.specs.Endian.{big_bytes}
use Rattle.wire.specs.Checksum.{checked, crc32c}
use Rattle.wire.proofs.Fields.{IsBytes-drop, IsBytes-front, IsBytes-back}
use Rattle.wire.proofs.Laws.{uvarint_long}
use Rattle.wire.proofs.Steps.{not_failed}
use Rattle.chunk_reader.specs.declared.error.ChunkError.{ChunkError}
use Rattle.chunk_reader.specs.declared.error.ChunkError.TheVariants.{Reference}
use Rattle.chunk_reader.specs.Grammar.{chunk_text, segment_of}
use Rattle.chunk_reader.specs.Reading.{content_at, is_outside}
use Rattle.chunk_reader.specs.Frames.{framed_at, AnswersFrame, IsFramed}
use Rattle.chunk_reader.proofs.Batches.{eqb_same}
use Rattle.chunk_reader.proofs.Whole.{content_takes, content_again, neither, un_not, not_le, inside}

pub framed_takes : (file : List ℕ) (reference : ℕ) (x : ℕ × List ℕ) → IsBytes file
    → framed_at file reference ≡ Ok x → IsFramed file reference x.0 x.1
unfolding framed_at
framed_takes file reference x fits h =
    let a = not_failed (is_outside file reference) Reference _ x h in
    let inside =
    neither (not (segment_of reference == 0) || ltb reference 8)
    (nat_le (length file) reference) a.0 in
    let behind = neither (not (segment_of reference == 0)) (ltb reference 8) inside.0 in
    let front = content_takes (drop reference file) x (IsBytes-drop reference file fits) a.1 in
    record {
      segment = eqb-true _ _ (un_not (segment_of reference == 0) behind.0);
      behind_head = ltb-false _ _ behind.1;
      stands = (front.rest, front.text);
    }

pub framed_again : (file : List ℕ) (reference encoding : ℕ) (body : List ℕ) → IsBytes file
    → length file < 2 ^ 64 → IsFramed file reference encoding body
    → framed_at file reference ≡ Ok (encoding, body)
unfolding framed_at
framed_again file reference encoding body fits few x =
    let text = chunk_text encoding body in
    let rest = x.stands.0 in
    let bytes_fit : IsBytes (text ++ rest) =
    subst IsBytes x.stands.1 (IsBytes-drop reference file fits) in
    let content_fits : IsBytes (encoding ∷ body) =
    IsBytes-front (encoding ∷ body) _ (IsBytes-back (uvarint (length body)) _
    (IsBytes-front text rest bytes_fit)) in
    let counted : length text
    ≡ length (uvarint (length body)) + length (checked (encoding ∷ body)) =
    length-append (uvarint (length body)) (checked (encoding ∷ body)) in
    let more : suc (length body) ≤ length (checked (encoding ∷ body)) = omega (
      arith,
      length-append (encoding ∷ body) (big_bytes 4 (crc32c (encoding ∷ body))),
    ) in
    let small : length body < 2 ^ 64 = omega (
      arith,
      few,
      counted,
      more,
      length-append text rest,
      ap length x.stands.1,
      length-drop reference file,
    ) in
    let long : 0 < length text = omega (arith, counted, uvarint_long (length body)) in
    let here : eqb (segment_of reference) 0 ≡ true = eqb_same _ _ x.segment in
    let low : ltb reference 8 ≡ false = le-ltb _ _ x.behind_head in
    let high : nat_le (length file) reference ≡ false =
    not_le (length file) reference (inside file reference text rest x.stands.1 long) in
    let content : content_at (drop reference file) ≡ Ok (encoding, body) =
    ap content_at x.stands.1 ∙ content_again encoding body rest content_fits small in
    rw (here, low, high, content) refl

pub frame_found : {F : Type 0} (encoding : F → ℕ) (body : F → List ℕ) (file : List ℕ)
    (reference : ℕ) (r : Result F ChunkError) → IsBytes file
    → Answers (λ f. (encoding f, body f)) r (framed_at file reference)
    → IfOk r (λ f. IsFramed file reference (encoding f) (body f))
frame_found encoding body file reference (Ok f) fits h =
    framed_takes file reference (encoding f, body f) fits h
frame_found encoding body file reference (Err e) fits h = tt

pub frame_only : {F : Type 0} (view : F → ℕ × List ℕ) (file : List ℕ)
    (reference encoding : ℕ) (body : List ℕ) (r : Result F ChunkError) → IsBytes file
    → length file < 2 ^ 64 → IsFramed file reference encoding body
    → Answers view r (framed_at file reference) → AnswersFrame view r encoding body
frame_only view file reference encoding body r fits few x h =
    subst (λ (read : Result (ℕ × List ℕ) ChunkError). Answers view r read)
    (framed_again file reference encoding body fits few x) h
