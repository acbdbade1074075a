-- What is read of a part is what stands there, and what stands there is read.
use Rattle.std.proofs.Common.{◌≡◌, ℕ, ◌^◌, ◌<◌, true, eqb, List, ◌++◌, length, Ok, refl, sym, ap, subst, ◌∙◌, append_assoc}
use Rattle.std.proofs.lemmas.Bool.{eqb-true, eqb-false, true_from_ne_false}
use Rattle.byteorder.specs.Endian.{big_bytes}
use Rattle.wire.specs.Checksum.{checked, crc32c}
use Rattle.wire.proofs.ChecksumBound.{crc32c_below}
use Rattle.wire.specs.Spelling.{uvarint}
use Rattle.wire.specs.Reading.{number_at, bytes_at, uvarint_at}
use Rattle.wire.specs.Spelling.{IsBytes}
use Rattle.wire.proofs.Fields.{IsBytes-back, number_takes_4, number_again_4, bytes_takes, bytes_again}
use Rattle.wire.proofs.Laws.{uvarint_takes, uvarint_again}
use Rattle.block_walk.specs.declared.error.WalkError.{WalkError}
use Rattle.block_walk.specs.declared.error.WalkError.TheVariants.{SeriesCrc}
use Rattle.block_walk.specs.IndexFile.Reading.{checked_at, frame_at, entry_at}
use Rattle.wire.specs.Outcome.{or_refused}
use Rattle.block_walk.specs.IndexFile.Grammar.{frame, entry}
use Rattle.block_walk.proofs.IndexFile.WalkLoops.{guard_ended}
use Rattle.wire.proofs.Steps.{bind_ok, refused_ok}

-- what a reader took from the front
pub record Takes (bytes text rest : List ℕ) : Type 0 where
  pub parts : bytes ≡ text ++ rest
  pub rest_fits : IsBytes rest

pub takes : (bytes text rest : List ℕ) → IsBytes bytes → bytes ≡ text ++ rest
    → Takes bytes text rest
takes bytes text rest fits e =
    record { parts = e; rest_fits = IsBytes-back text rest (subst IsBytes e fits) }

pub Takes-then : (a x b y c : List ℕ) → Takes a x b → Takes b y c → Takes a (x ++ y) c
Takes-then a x b y c p q = record {
  parts = p.parts ∙ ap (λ (t : List ℕ). x ++ t) q.parts ∙ sym (append_assoc x y c);
  rest_fits = q.rest_fits;
}

number_read : (e : WalkError) (bytes : List ℕ) (x : ℕ × List ℕ) → IsBytes bytes
    → or_refused e (number_at 4 bytes) ≡ Ok x → Takes bytes (big_bytes 4 x.0) x.1 × (x.0 < 2 ^ 32)
number_read e bytes x fits h =
    let t = number_takes_4 bytes x.0 x.1 fits (refused_ok e (number_at 4 bytes) x h) in
    (takes bytes (big_bytes 4 x.0) x.1 fits t.0, t.1)

bytes_read : (e : WalkError) (n : ℕ) (bytes : List ℕ) (x : List ℕ × List ℕ) → IsBytes bytes
    → or_refused e (bytes_at n bytes) ≡ Ok x → Takes bytes x.0 x.1 × (length x.0 ≡ n)
bytes_read e n bytes x fits h =
    let t = bytes_takes n bytes x.0 x.1 (refused_ok e (bytes_at n bytes) x h) in
    (takes bytes x.0 x.1 fits t.0, t.1)

pub checked_takes : (e : WalkError) (n : ℕ) (bytes : List ℕ) (x : List ℕ × List ℕ) → IsBytes bytes
    → checked_at e (n, bytes) ≡ Ok x → Takes bytes (checked x.0) x.1 × (length x.0 ≡ n)
checked_takes e n bytes x fits h =
    let a = bind_ok (or_refused e (bytes_at n bytes)) _ x h in
    let b = bind_ok (or_refused e (number_at 4 a.0.1)) _ x a.2 in
    let ta = bytes_read e n bytes a.0 fits a.1 in
    let tb = number_read e a.0.1 b.0 ta.0.rest_fits b.1 in
    let made : List ℕ × List ℕ = (a.0.0, b.0.1) in
    let g = guard_ended (eqb b.0.0 (crc32c a.0.0)) e made x b.2 in
    let sum : b.0.0 ≡ crc32c a.0.0 = eqb-true _ _ g.0 in
    let whole : Takes bytes (checked a.0.0) b.0.1 =
    subst (λ (s : ℕ). Takes bytes (a.0.0 ++ big_bytes 4 s) b.0.1) sum
    (Takes-then bytes a.0.0 a.0.1 (big_bytes 4 b.0.0) b.0.1 ta.0 tb.0) in
    subst (λ (y : List ℕ × List ℕ). Takes bytes (checked y.0) y.1
    × (length y.0 ≡ n)) g.1 (whole, ta.1)

pub eqb_same : (n : ℕ) → eqb n n ≡ true
eqb_same n = true_from_ne_false (eqb n n) (λ h. eqb-false n n h refl)

pub checked_again : (e : WalkError) (content rest : List ℕ) → IsBytes content
    → checked_at e (length content, checked content ++ rest) ≡ Ok (content, rest)
checked_again e content rest fits =
    let grouped : checked content ++ rest ≡ content ++ (big_bytes 4 (crc32c content) ++ rest) =
    append_assoc content (big_bytes 4 (crc32c content)) rest in
    let same : eqb (crc32c content) (crc32c content) ≡ true = eqb_same (crc32c content) in
    ap (λ (b : List ℕ). checked_at e (length content, b)) grouped
    ∙ rw (
      bytes_again content (big_bytes 4 (crc32c content) ++ rest),
      number_again_4 (crc32c content) rest (crc32c_below content fits),
      same,
    ) refl

pub frame_takes : (e : WalkError) (bytes : List ℕ) (x : List ℕ × List ℕ) → IsBytes bytes
    → frame_at e bytes ≡ Ok x → Takes bytes (frame x.0) x.1
unfolding frame_at
frame_takes e bytes x fits h =
    let a = bind_ok (or_refused e (number_at 4 bytes)) _ x h in
    let ta = number_read e bytes a.0 fits a.1 in
    let c = checked_takes e a.0.0 a.0.1 x ta.0.rest_fits a.2 in
    subst (λ (n : ℕ). Takes bytes (big_bytes 4 n ++ checked x.0) x.1) (sym c.1)
    (Takes-then bytes (big_bytes 4 a.0.0) a.0.1 (checked x.0) x.1 ta.0 c.0)

pub frame_again : (e : WalkError) (content rest : List ℕ) → IsBytes content
    → length content < 2 ^ 32 → frame_at e (frame content ++ rest) ≡ Ok (content, rest)
unfolding frame_at
frame_again e content rest fits lt =
    let grouped : frame content ++ rest
    ≡ big_bytes 4 (length content) ++ (checked content ++ rest) =
    append_assoc (big_bytes 4 (length content)) (checked content) rest in
    ap (frame_at e) grouped
    ∙ rw (number_again_4 (length content) (checked content ++ rest) lt)
    (checked_again e content rest fits)

pub entry_takes : (bytes : List ℕ) (x : List ℕ × List ℕ) → IsBytes bytes → entry_at bytes ≡ Ok x
    → Takes bytes (entry x.0) x.1
unfolding entry_at
entry_takes bytes x fits h =
    let a = bind_ok (or_refused SeriesCrc (uvarint_at bytes)) _ x h in
    let ta =
    uvarint_takes bytes a.0.0 a.0.1 fits (refused_ok SeriesCrc (uvarint_at bytes) a.0 a.1) in
    let t0 = takes bytes (uvarint a.0.0) a.0.1 fits ta.0 in
    let c = checked_takes SeriesCrc a.0.0 a.0.1 x t0.rest_fits a.2 in
    subst (λ (n : ℕ). Takes bytes (uvarint n ++ checked x.0) x.1) (sym c.1)
    (Takes-then bytes (uvarint a.0.0) a.0.1 (checked x.0) x.1 t0 c.0)

pub entry_again : (body rest : List ℕ) → IsBytes body → length body < 2 ^ 64
    → entry_at (entry body ++ rest) ≡ Ok (body, rest)
unfolding entry_at
entry_again body rest fits lt =
    let grouped : entry body ++ rest ≡ uvarint (length body) ++ (checked body ++ rest) =
    append_assoc (uvarint (length body)) (checked body) rest in
    ap entry_at grouped
    ∙ rw (uvarint_again (length body) (checked body ++ rest) lt)
    (checked_again SeriesCrc body rest fits)
