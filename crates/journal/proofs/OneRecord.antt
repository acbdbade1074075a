-- The record that is read is the one spelled, and a spelled record is read.
use Rattle.std.proofs.Common.{◌≡◌, ℕ, true, cond, eqb, List, ◌++◌, length, Result}
use Rattle.std.proofs.Common.{Ok, Err, refl, sym, ap, subst, ◌∙◌, append_assoc}
use Rattle.std.proofs.lemmas.Bool.{eqb-true}
use Rattle.byteorder.specs.Endian.{big_bytes}
use Rattle.wire.specs.Spelling.{IsBytes}
use Rattle.wire.specs.Reading.{bytes_at, number_at}
use Rattle.wire.specs.Checksum.{crc32c}
use Rattle.wire.specs.Outcome.{◌>>=◌, or_refused}
use Rattle.wire.proofs.ChecksumBound.{crc32c_below}
use Rattle.wire.proofs.Fields.{IsBytes-front, number_takes_4, number_again_4, bytes_takes}
use Rattle.wire.proofs.Fields.{bytes_again}
use Rattle.wire.proofs.Steps.{bind_ok, refused_ok, passed, same_value, rest_fits}
use Rattle.journal.specs.declared.record.Stop.{Stop}
use Rattle.journal.specs.declared.record.Stop.TheVariants.{Torn, Length}
use Rattle.journal.specs.Records.{is_length, length_text, record_of, IsContent}
use Rattle.journal.specs.Reading.{length_at, sum_stop, record_at}
use Rattle.journal.proofs.Lengths.{LengthFront, stands, none, wrong, length_front, length_again}
use Rattle.journal.proofs.Lengths.{equal}

pub record Fronts (bytes : List ℕ) (x : List ℕ × List ℕ) : Type 0 where
  pub text : bytes ≡ record_of x.0 ++ x.1
  pub content : IsContent x.0
  pub fits : IsBytes x.1

-- a record's parts, one after another
pub parts : (content rest : List ℕ) → record_of content ++ rest
    ≡ length_text (length content) ++ (content ++ (big_bytes 4 (crc32c content) ++ rest))
unfolding record_of
parts content rest = simp append_assoc

abbrev pub after_sum : List ℕ → ℕ × List ℕ → Result (List ℕ × List ℕ) Stop
after_sum content s = cond (eqb s.0 (crc32c content)) (Ok (content, s.1)) (Err (sum_stop s.1))

abbrev pub after_content : List ℕ × List ℕ → Result (List ℕ × List ℕ) Stop
after_content c = or_refused Torn (number_at 4 c.1) >>= after_sum c.0

abbrev pub after_length : ℕ × List ℕ → Result (List ℕ × List ℕ) Stop
after_length n = or_refused Torn (bytes_at n.0 n.1) >>= after_content

-- the length that was read
record Takes (bytes : List ℕ) (n : ℕ × List ℕ) : Type 0 where
  text : bytes ≡ length_text n.0 ++ n.1
  sized : is_length n.0 ≡ true
  fits : IsBytes n.1

abbrev at : ℕ → List ℕ → Result (ℕ × List ℕ) Stop
at n behind = Ok (n, behind)

length_takes : (bytes : List ℕ) (n : ℕ) (rest : List ℕ) → IsBytes bytes
    → length_at bytes ≡ Ok (n, rest)
    → Takes bytes (n, rest)
length_takes bytes n rest fits h = by_front (length_front bytes fits)
  where
    by_front : LengthFront bytes → Takes bytes (n, rest)
    by_front (stands m behind sized text behind_fits read) =
        let a : ℕ × List ℕ = (m, behind) in
        let b : ℕ × List ℕ = (n, rest) in
        let same : a ≡ b = same_value a b (sym read ∙ h) in
        subst (Takes bytes) same (record { text = text; sized = sized; fits = behind_fits })
    by_front (none t e) = absurd (let a : at n rest ≡ Err Torn = sym h ∙ e in cc)
    by_front (wrong b e) = absurd (let a : at n rest ≡ Err Length = sym h ∙ e in cc)

pub record_takes : (bytes : List ℕ) (x : List ℕ × List ℕ) → IsBytes bytes
    → record_at bytes ≡ Ok x → Fronts bytes x
unfolding record_at
record_takes bytes x fits h =
    let n = bind_ok (length_at bytes) after_length x h in
    let c = bind_ok (or_refused Torn (bytes_at n.0.0 n.0.1)) after_content x n.2 in
    let s = bind_ok (or_refused Torn (number_at 4 c.0.1)) (after_sum c.0.0) x c.2 in
    let t = passed (eqb s.0.0 (crc32c c.0.0)) (sum_stop s.0.1) _ x s.2 in
    let one = length_takes bytes n.0.0 n.0.1 fits n.1 in
    let two =
    bytes_takes n.0.0 n.0.1 c.0.0 c.0.1 (refused_ok Torn (bytes_at n.0.0 n.0.1) c.0 c.1) in
    let c_fits = rest_fits n.0.1 c.0.0 c.0.1 one.fits two.0 in
    let content_fits : IsBytes c.0.0 =
    IsBytes-front c.0.0 c.0.1 (subst IsBytes two.0 one.fits) in
    let three =
    number_takes_4 c.0.1 s.0.0 s.0.1 c_fits (refused_ok Torn (number_at 4 c.0.1) s.0 s.1) in
    let s_fits = rest_fits c.0.1 (big_bytes 4 s.0.0) s.0.1 c_fits three.0 in
    let sum : c.0.1 ≡ big_bytes 4 (crc32c c.0.0) ++ s.0.1 =
    three.0 ∙ ap (λ (m : ℕ). big_bytes 4 m ++ s.0.1) (eqb-true _ _ t.0) in
    let text : bytes ≡ record_of c.0.0 ++ s.0.1 =
    one.text
    ∙ (ap (λ (m : ℕ). length_text m ++ n.0.1) (sym two.1)
    ∙ (ap (λ (y : List ℕ). length_text (length c.0.0) ++ y)
    (two.0 ∙ ap (λ (y : List ℕ). c.0.0 ++ y) sum)
    ∙ sym (parts c.0.0 s.0.1))) in
    let sized : is_length (length c.0.0) ≡ true = ap is_length two.1 ∙ one.sized in
    let made : List ℕ × List ℕ = (c.0.0, s.0.1) in
    subst (Fronts bytes) (same_value made x t.1) (record {
      text = text;
      content = record { bytes = content_fits; sized = sized };
      fits = s_fits;
    })

pub record_again : (content rest : List ℕ) → IsContent content
    → record_at (record_of content ++ rest) ≡ Ok (content, rest)
unfolding record_at
record_again content rest h =
    let sum = big_bytes 4 (crc32c content) in
    let one = length_again (length content) (content ++ (sum ++ rest)) h.sized in
    let two = bytes_again content (sum ++ rest) in
    let three = number_again_4 (crc32c content) rest (crc32c_below content h.bytes) in
    ap record_at (parts content rest)
    ∙ rw (one, two, three, equal (crc32c content) (crc32c content) refl) refl
