-- Samples that are read are the ones spelled, and spelled samples are read.
use Rattle.std.proofs.Common.{◌≡◌, ℕ, zero, suc, ◌*◌, ◌^◌, ◌<◌, ◌≤◌, List, [], ◌∷◌, ◌++◌, length}
use Rattle.std.proofs.Common.{take, drop, refl, sym, ap, ◌∙◌, arith, append_assoc}
use Rattle.std.specs.Prelude.{ℤ}
use Rattle.std.specs.Int.{w16, w64, cast_signed, cast_unsigned, from_be_bytes}
use Rattle.std.specs.Int.RustNames.{FitsSigned}
use Rattle.std.specs.List.{flat_map, AllByRecursion}
use Rattle.std.proofs.lemmas.Int.{of_z-to_z, to_z-of_z}
use Rattle.std.proofs.Math.Facts.{Fits-of_z, sfits_to_z}
use Rattle.std.proofs.lemmas.List.{get_or-take, length-take, length-drop, length-append}
use Rattle.std.proofs.lemmas.List.{take-append-drop, drop-drop, nil_from_length}
use Rattle.std.proofs.lemmas.List.Concat.{flat_map-cons}
use Rattle.std.proofs.lemmas.Nat.{be_bytes_2}
use Rattle.byteorder.specs.Endian.{big_number, big_bytes}
use Rattle.byteorder.specs.Numbers.{big_from-lt, big_number-reads_back}
use Rattle.wire.specs.Spelling.{IsBytes}
use Rattle.wire.proofs.Fields.{IsBytes-take, IsBytes-drop, big_bytes_8}
use Rattle.chunk_reader.specs.Grammar.{signed_text, sample_text}
use Rattle.chunk_reader.specs.Reading.{samples_from, signed_at}

signed_takes : (bytes : List ℕ) → IsBytes bytes → 8 ≤ length bytes
    → signed_text (signed_at bytes) ≡ take 8 bytes
signed_takes bytes fits le =
    let below : big_number 8 bytes < 2 ^ 64 = big_from-lt 0 8 bytes fits in
    ap (λ (n : ℕ). big_bytes 8 n) (of_z-to_z w64 (big_number 8 bytes) below)
    ∙ big_bytes_8 bytes fits le

signed_again : (z : ℤ) (rest : List ℕ) → FitsSigned w64 z → signed_at (signed_text z ++ rest) ≡ z
signed_again z rest fits =
    let lt : cast_unsigned w64 z < 2 ^ 64 = (Fits-of_z fits).fits in
    ap (λ (n : ℕ). cast_signed w64 n) (big_number-reads_back 8 (cast_unsigned w64 z) rest lt)
    ∙ to_z-of_z w64 z fits

-- the first sixteen bytes are a sample's
first_takes : (bytes : List ℕ) → IsBytes bytes → 16 ≤ length bytes
    → sample_text (signed_at bytes, signed_at (drop 8 bytes)) ++ drop 16 bytes ≡ bytes
first_takes bytes fits le =
    let one = signed_takes bytes fits (omega arith) in
    let two =
    signed_takes (drop 8 bytes) (IsBytes-drop 8 bytes fits) (omega (arith, length-drop 8 bytes)) in
    let last : take 8 (drop 8 bytes) ++ drop 16 bytes ≡ drop 8 bytes =
    ap (λ (t : List ℕ). take 8 (drop 8 bytes) ++ t) (sym (drop-drop 8 8 bytes))
    ∙ take-append-drop 8 (drop 8 bytes) in
    append_assoc (signed_text (signed_at bytes))
    (signed_text (signed_at (drop 8 bytes))) (drop 16 bytes)
    ∙ ap (λ (t : List ℕ). t ++ (signed_text (signed_at (drop 8 bytes)) ++ drop 16 bytes)) one
    ∙ ap (λ (t : List ℕ). take 8 bytes ++ (t ++ drop 16 bytes)) two
    ∙ ap (λ (t : List ℕ). take 8 bytes ++ t) last
    ∙ take-append-drop 8 bytes

pub samples_take : (n : ℕ) (bytes : List ℕ) → IsBytes bytes → length bytes ≡ 16 * n
    → flat_map sample_text (samples_from n bytes) ≡ bytes
unfolding samples_from
samples_take zero bytes fits len = sym (nil_from_length bytes (omega (arith, len)))
samples_take (suc n) bytes fits len =
    let others =
    samples_take n (drop 16 bytes) (IsBytes-drop 16 bytes fits)
    (omega (arith, len, length-drop 16 bytes)) in
    let s : ℤ × ℤ = (signed_at bytes, signed_at (drop 8 bytes)) in
    flat_map-cons sample_text s (samples_from n (drop 16 bytes))
    ∙ ap (λ (t : List ℕ). sample_text s ++ t) others
    ∙ first_takes bytes fits (omega (arith, len))

-- samples of numbers of 64 bits
abbrev pub Fit : ℤ × ℤ → Type 0
Fit s = FitsSigned w64 s.0 × FitsSigned w64 s.1

pub samples_fit : (n : ℕ) (bytes : List ℕ) → IsBytes bytes
    → AllByRecursion Fit (samples_from n bytes)
unfolding samples_from
samples_fit zero bytes fits = tt
samples_fit (suc n) bytes fits = (
  (
    sfits_to_z (record { fits = big_from-lt 0 8 bytes fits }),
    sfits_to_z (record { fits = big_from-lt 0 8 (drop 8 bytes) (IsBytes-drop 8 bytes fits) }),
  ),
  samples_fit n (drop 16 bytes) (IsBytes-drop 16 bytes fits),
)

length-signed_text : (z : ℤ) → length (signed_text z) ≡ 8
length-signed_text z = refl

length-sample_text : (s : ℤ × ℤ) → length (sample_text s) ≡ 16
length-sample_text s = refl

pub samples_again : (samples : List (ℤ × ℤ)) → AllByRecursion Fit samples
    → samples_from (length samples) (flat_map sample_text samples) ≡ samples
unfolding samples_from
samples_again [] fits = refl
samples_again (s ∷ samples) fits =
    let tail = flat_map sample_text samples in
    let whole : flat_map sample_text (s ∷ samples) ≡ signed_text s.0 ++ (signed_text s.1 ++ tail) =
    flat_map-cons sample_text s samples ∙ append_assoc (signed_text s.0) (signed_text s.1) tail in
    let time : signed_at (signed_text s.0 ++ (signed_text s.1 ++ tail)) ≡ s.0 =
    signed_again s.0 (signed_text s.1 ++ tail) fits.0.0 in
    let value : signed_at (signed_text s.1 ++ tail) ≡ s.1 = signed_again s.1 tail fits.0.1 in
    ap (samples_from (suc (length samples))) whole
    ∙ ap (λ (t : ℤ). (t, signed_at (signed_text s.1 ++ tail)) ∷ samples_from (length samples) tail)
    time
    ∙ ap (λ (v : ℤ). (s.0, v) ∷ samples_from (length samples) tail) value
    ∙ ap (λ (ss : List (ℤ × ℤ)). s ∷ ss) (samples_again samples fits.1)

pub length-texts : (samples : List (ℤ × ℤ))
    → length (flat_map sample_text samples) ≡ 16 * length samples
length-texts [] = refl
length-texts (s ∷ samples) =
    ap length (flat_map-cons sample_text s samples)
    ∙ omega
    (arith, length-append (sample_text s) (flat_map sample_text samples), length-texts samples)

-- two bytes, as the number that they spell
pub big_bytes_2 : (bytes : List ℕ) → IsBytes bytes → 2 ≤ length bytes
    → big_bytes 2 (big_number 2 bytes) ≡ take 2 bytes
big_bytes_2 bytes fits le =
    let t = λ (i : ℕ). λ (lt : i < 2). get_or-take 2 bytes i 0 lt in
    let same : big_number 2 bytes ≡ from_be_bytes w16 (take 2 bytes) =
    omega (arith, t 0 (omega arith), t 1 (omega arith)) in
    be_bytes_2 (take 2 bytes) _ (omega (arith, length-take 2 bytes))
    (IsBytes-take 2 bytes fits) same
