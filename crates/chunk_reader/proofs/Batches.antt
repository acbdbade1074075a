-- A body that is read is the one spelled, and a spelled body is read.
use Rattle.std.proofs.Common.{◌≡◌, ℕ, ◌+◌, ◌*◌, ◌/◌, ◌^◌, ◌<◌, Bool, true, false, ◌&&◌, not, eqb}
use Rattle.std.proofs.Common.{ltb, List, [], ◌∷◌, ◌++◌, length, take, drop, Ok, pos, negsuc, ◌-ℤ◌}
use Rattle.std.proofs.Common.{refl, sym, ap, subst, ◌∙◌, arith}
use Rattle.std.specs.Prelude.{ℤ, T, int_lt}
use Rattle.std.specs.List.{flat_map, list_all, AllByRecursion}
use Rattle.std.specs.Int.{w64}
use Rattle.std.specs.Int.RustNames.{FitsSigned}
use Rattle.std.specs.Int.Signed.{◌≤ℤ◌, lt_z_no}
use Rattle.std.proofs.lemmas.Bool.{ltb-true, lt-ltb, le-ltb, eqb-true, eqb-false}
use Rattle.std.proofs.lemmas.Bool.{true_from_ne_false}
use Rattle.std.proofs.lemmas.Int.{ints}
use Rattle.std.proofs.lemmas.List.{length-drop, length-append, take-append-drop, drop_at}
use Rattle.byteorder.specs.Endian.{big_number, big_bytes}
use Rattle.byteorder.specs.Numbers.{big_from-lt, big_number-reads_back}
use Rattle.labels.specs.Contents.{is_time}
use Rattle.labels.specs.declared.sample.TheConstants.{MIN_TIME, MAX_TIME}
use Rattle.labels.proofs.Times.{first_T, second_T}
use Rattle.wire.specs.Spelling.{IsBytes}
use Rattle.wire.proofs.Fields.{IsBytes-drop}
use Rattle.chunk_reader.specs.declared.error.ChunkError.TheVariants.{Shape}
use Rattle.chunk_reader.specs.Grammar.{sample_text, batch_text, IsBatch}
use Rattle.chunk_reader.specs.Reading.{samples_from, samples_in, rises, batch_in}
use Rattle.chunk_reader.proofs.Places.{length-samples_in}
use Rattle.chunk_reader.proofs.Rising.{and_true, rises-is_sorted, rises-times, rises_from_times}
use Rattle.chunk_reader.proofs.SampleTexts.{Fit, samples_take, samples_fit, samples_again}
use Rattle.chunk_reader.proofs.SampleTexts.{length-texts, big_bytes_2}
use Rattle.wire.proofs.Steps.{not_failed, passed, value, same_value}

values_of : (samples : List (ℤ × ℤ)) → AllByRecursion Fit samples
    → AllByRecursion (λ (s : ℤ × ℤ). FitsSigned w64 s.1) samples
values_of [] fits = tt
values_of (s ∷ samples) fits = (fits.0.1, values_of samples fits.1)

time_fits : (z : ℤ) → T (is_time z) → FitsSigned w64 z
time_fits (pos n) h =
    let le : pos n ≤ℤ MAX_TIME =
    lt_z_no (second_T (not (int_lt (pos n) MIN_TIME)) (not (int_lt MAX_TIME (pos n))) h) in
    record { sfits = omega (arith, ints) }
time_fits (negsuc n) h =
    let le : MIN_TIME ≤ℤ negsuc n =
    lt_z_no (first_T (not (int_lt (negsuc n) MIN_TIME)) (not (int_lt MAX_TIME (negsuc n))) h) in
    record { sfits = omega (arith, ints) }

fits_of : (samples : List (ℤ × ℤ))
    → T (list_all (λ (s : ℤ × ℤ). is_time s.0) samples)
    → AllByRecursion (λ (s : ℤ × ℤ). FitsSigned w64 s.1) samples → AllByRecursion Fit samples
fits_of [] times values = tt
fits_of (s ∷ samples) times values =
    let time =
    first_T (is_time s.0)
    (list_all (λ (s : ℤ × ℤ). is_time s.0) samples) times in
    let others =
    second_T (is_time s.0)
    (list_all (λ (s : ℤ × ℤ). is_time s.0) samples) times in
    ((time_fits s.0 time, values.0), fits_of samples others values.1)

pub record IsBody (body : List ℕ) (samples : List (ℤ × ℤ)) : Type 0 where
  pub text : body ≡ batch_text samples
  pub batch : IsBatch samples

counted : (body : List ℕ) → IsBytes body → 0 < big_number 2 body
    → length body ≡ 2 + 16 * big_number 2 body
    → rises (MIN_TIME -ℤ pos 1) (samples_in (drop 2 body)) ≡ true
    → IsBody body (samples_in (drop 2 body))
counted body fits some len rising =
    let n = big_number 2 body in
    let tail = drop 2 body in
    let tail_fits = IsBytes-drop 2 body fits in
    let samples = samples_in tail in
    let tail_len : length tail ≡ 16 * n = omega (arith, length-drop 2 body, len) in
    let whole : length tail ≡ 16 * (length tail / 16) = omega (arith, tail_len) in
    let count : length samples ≡ n = length-samples_in tail ∙ omega (arith, tail_len) in
    let texts : flat_map sample_text samples ≡ tail =
    samples_take (length tail / 16) tail tail_fits whole in
    let front : big_bytes 2 n ≡ take 2 body = big_bytes_2 body fits (omega (arith, len)) in
    let few : n < 2 ^ 16 = big_from-lt 0 2 body fits in
    let text : batch_text samples ≡ body =
    ap (λ (k : ℕ). big_bytes 2 k ++ flat_map sample_text samples) count
    ∙ ap (λ (t : List ℕ). big_bytes 2 n ++ t) texts
    ∙ ap (λ (t : List ℕ). t ++ tail) front
    ∙ take-append-drop 2 body in
    record {
      text = sym text;
      batch = record {
        some = omega (arith, count, some);
        few = omega (arith, count, few);
        ascending = rises-is_sorted _ samples rising;
        times = rises-times _ samples (omega (arith, ints)) rising;
        values = values_of samples (samples_fit (length tail / 16) tail tail_fits);
      };
    }

pub batch_takes : (body : List ℕ) (samples : List (ℤ × ℤ)) → IsBytes body
    → batch_in body ≡ Ok samples → IsBody body samples
unfolding batch_in
batch_takes body samples fits h =
    let n = big_number 2 body in
    let a = not_failed (ltb (length body) 2) Shape _ samples h in
    let b =
    passed ((ltb 0 n && eqb (length body) (2 + 16 * n))
    && rises (MIN_TIME -ℤ pos 1) (samples_in (drop 2 body))) Shape _ samples a.1 in
    let tests = and_true _ (rises (MIN_TIME -ℤ pos 1) (samples_in (drop 2 body))) b.0 in
    let counts = and_true (ltb 0 n) (eqb (length body) (2 + 16 * n)) tests.0 in
    subst (IsBody body) (same_value _ samples b.1)
    (counted body fits (ltb-true _ _ counts.0) (eqb-true _ _ counts.1) tests.1)

pub eqb_same : (n m : ℕ) → n ≡ m → eqb n m ≡ true
eqb_same n m e = true_from_ne_false (eqb n m) (λ h. eqb-false n m h e)

both : (a b : Bool) → a ≡ true → b ≡ true → (a && b) ≡ true
both a b p q = rw (p, q) refl

batch_from : (body : List ℕ) (n : ℕ) (samples : List (ℤ × ℤ)) → big_number 2 body ≡ n → 0 < n
    → length body ≡ 2 + 16 * n → samples_in (drop 2 body) ≡ samples
    → rises (MIN_TIME -ℤ pos 1) samples ≡ true → batch_in body ≡ Ok samples
unfolding batch_in
batch_from body n samples count some len found rising =
    let long : ltb (length body) 2 ≡ false = le-ltb _ _ (omega (arith, len)) in
    let counts : ltb 0 (big_number 2 body) ≡ true =
    lt-ltb 0 (big_number 2 body) (omega (arith, count, some)) in
    let size : length body ≡ 2 + 16 * big_number 2 body = omega (arith, count, len) in
    let sizes : eqb (length body) (2 + 16 * big_number 2 body) ≡ true = eqb_same _ _ size in
    let tests : ((ltb 0 (big_number 2 body) && eqb (length body) (2 + 16 * big_number 2 body))
    && rises (MIN_TIME -ℤ pos 1) (samples_in (drop 2 body))) ≡ true =
    both _ _ (both _ _ counts sizes) (ap (rises (MIN_TIME -ℤ pos 1)) found ∙ rising) in
    rw (long, tests) (ap value found)

pub length-batch_text : (samples : List (ℤ × ℤ))
    → length (batch_text samples) ≡ 2 + 16 * length samples
length-batch_text samples = omega (
  arith,
  length-append (big_bytes 2 (length samples)) (flat_map sample_text samples),
  length-texts samples,
)

pub texts_again : (samples : List (ℤ × ℤ)) → IsBatch samples
    → samples_in (flat_map sample_text samples) ≡ samples
texts_again samples b =
    let texts = flat_map sample_text samples in
    let count : length texts / 16 ≡ length samples = omega (arith, length-texts samples) in
    ap (λ (k : ℕ). samples_from k texts) count
    ∙ samples_again samples (fits_of samples b.times b.values)

pub batch_again : (samples : List (ℤ × ℤ)) → IsBatch samples
    → batch_in (batch_text samples) ≡ Ok samples
batch_again samples b =
    let n = length samples in
    let texts = flat_map sample_text samples in
    let tail : drop 2 (batch_text samples) ≡ texts = drop_at (big_bytes 2 n) texts 2 refl in
    let few : n < 2 ^ 16 = omega (arith, b.few) in
    let found : samples_in (drop 2 (batch_text samples)) ≡ samples =
    ap samples_in tail ∙ texts_again samples b in
    batch_from (batch_text samples) n samples (big_number-reads_back 2 n texts few) b.some
    (length-batch_text samples) found (rises_from_times samples b.ascending b.times)
