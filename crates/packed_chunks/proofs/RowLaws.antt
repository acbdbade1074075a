-- A row is read as it was written, whatever stands around it.
use Rattle.std.proofs.Common.{◌≡◌, ℕ, zero, suc, ◌+◌, ◌-◌, ◌*◌, ◌/◌, ◌%◌, ◌^◌, ◌<◌, ◌≤◌, ℤ, List, [], ◌∷◌, ◌++◌, length, drop, take, get_or, refl, sym, ap, ◌∙◌, arith, append_assoc, inl, inr}
use Rattle.std.specs.Prelude.{pos}
use Rattle.std.proofs.Math.Seq.{drop-append_seam, drop-append-add}
use Rattle.std.proofs.lemmas.List.{length-append}
use Rattle.byteorder.specs.Endian.{little_from, little_bytes}
use Rattle.byteorder.specs.Numbers.{length-bytes_low_first}
use Rattle.packed_chunks.specs.declared.form.Form.{Form}
use Rattle.packed_chunks.specs.Packed.{bits_of, above, on_line, sample_of, sample_in, samples_from, IsForm, word_at, row_text, ReadsAs, IsPlain, HasRows, Means, samples_in}
use Rattle.std.specs.Int.{w64, cast_unsigned, cast_signed}
use mir.Val.{SFits}
use Rattle.std.specs.Prelude.{Bool, true, false, not, ◌&&◌}
use Rattle.std.specs.Ordering.{int_eq}
use Rattle.std.proofs.Math.Facts.{Fits-lt-pow, Fits-of_z}
use Rattle.std.proofs.lemmas.Int.{to_z-of_z}
use Rattle.std.proofs.Math.Nat.{div-one, mod-eq_of_lt}
use Rattle.std.proofs.lemmas.Bool.Decides.{Decides-int_eq}
use Rattle.std.specs.Prelude.{slice_get, Some}
use Rattle.std.proofs.lemmas.Nat.{row_fits, mul-le}
use Rattle.std.proofs.lemmas.Bool.{cases_lt}
use Rattle.packed_chunks.proofs.Bits.{low_word, same_bits}

-- samples with the same bits are the same
same_sample : (f : Form) (i x y v w : ℕ) → bits_of 0 f.time_bits x ≡ bits_of 0 f.time_bits v
    → bits_of f.skipped f.value_bits y ≡ bits_of f.skipped f.value_bits w
    → sample_of f i x y ≡ sample_of f i v w
same_sample f i x y v w p q =
    ap (λ (b : ℕ). (above f.first_time f.time_step i b, above f.first_value f.value_step i (bits_of f.skipped f.value_bits y * 2 ^ f.scale))) p
    ∙ ap (λ (b : ℕ). (above f.first_time f.time_step i (bits_of 0 f.time_bits v), above f.first_value f.value_step i (b * 2 ^ f.scale))) q

pub length-row : (f : Form) (low high : ℕ) → IsForm f → length (row_text f low high) ≡ f.width
length-row f low high sound =
    let a = length-bytes_low_first 0 f.value_place low in
    let b = length-bytes_low_first 0 (f.width - f.value_place) high in
    omega (arith, a, b, sound.width, length-append (little_bytes f.value_place low) (little_bytes (f.width - f.value_place) high))

time_bits : (f : Form) (low high : ℕ) (more : List ℕ) → IsForm f → (f.value_place ≡ 0 → low ≡ high)
    → bits_of 0 f.time_bits (little_from 0 8 (row_text f low high ++ more)) ≡ bits_of 0 f.time_bits low
time_bits f low high more sound one =
    let a = little_bytes f.value_place low in
    let b = little_bytes (f.width - f.value_place) high in
    elim sound.time_bits [
      | inl le ↦
          ap (λ (l : List ℕ). bits_of 0 f.time_bits (little_from 0 8 l)) (append_assoc a b more)
          ∙ same_bits 0 f.time_bits (8 * f.value_place) _ low (omega arith) (low_word f.value_place low (b ++ more) sound.value_place)
      | inr le ↦
          let none : a ≡ [] = ap (λ (k : ℕ). little_bytes k low) le.0 in
          let all : 8 * (f.width - f.value_place) ≡ 8 * f.width = omega (arith, le.0) in
          ap (λ (l : List ℕ). bits_of 0 f.time_bits (little_from 0 8 ((l ++ b) ++ more))) none
          ∙ same_bits 0 f.time_bits (8 * (f.width - f.value_place)) _ high (omega (arith, all, le.1)) (low_word (f.width - f.value_place) high more (omega (arith, sound.word)))
          ∙ ap (λ (n : ℕ). bits_of 0 f.time_bits n) (sym (one le.0))
    ]

value_bits : (f : Form) (high : ℕ) (more : List ℕ) → IsForm f
    → bits_of f.skipped f.value_bits (little_from 0 8 (little_bytes (f.width - f.value_place) high ++ more))
    ≡ bits_of f.skipped f.value_bits high
value_bits f high more sound =
    same_bits f.skipped f.value_bits (8 * (f.width - f.value_place)) _ high (omega (arith, sound.value_bits, sound.width))
    (low_word (f.width - f.value_place) high more (omega (arith, sound.word)))

-- the row after so many others is read as the sample that its two numbers are
pub row_reads : (f : Form) (i low high : ℕ) (done more : List ℕ) → IsForm f → length done ≡ i * f.width
    → (f.value_place ≡ 0 → low ≡ high)
    → sample_in f (done ++ (row_text f low high ++ more)) i ≡ sample_of f i low high
row_reads f i low high done more sound len one =
    let a = little_bytes f.value_place low in
    let b = little_bytes (f.width - f.value_place) high in
    let row = (a ++ b) ++ more in
    let at_row : drop (i * f.width) (done ++ row) ≡ row =
    ap (λ (k : ℕ). drop k (done ++ row)) (sym len) ∙ drop-append_seam done row in
    let behind : drop f.value_place row ≡ b ++ more =
    ap (λ (l : List ℕ). drop f.value_place l) (append_assoc a b more)
    ∙ ap (λ (k : ℕ). drop k (a ++ (b ++ more))) (sym (length-bytes_low_first 0 f.value_place low))
    ∙ drop-append_seam a (b ++ more) in
    let at_value : drop (i * f.width + f.value_place) (done ++ row) ≡ b ++ more =
    ap (λ (k : ℕ). drop (k + f.value_place) (done ++ row)) (sym len)
    ∙ drop-append-add done row f.value_place ∙ behind in
    same_sample f i (word_at (done ++ row) (i * f.width)) (word_at (done ++ row) (i * f.width + f.value_place)) low high
    (ap (λ (l : List ℕ). bits_of 0 f.time_bits (little_from 0 8 l)) at_row ∙ time_bits f low high more sound one)
    (ap (λ (l : List ℕ). bits_of f.skipped f.value_bits (little_from 0 8 l)) at_value ∙ value_bits f high more sound)

-- samples by place are the samples
pub same_from : (f : Form) (rows : List ℕ) (i : ℕ) (xs : List (ℤ × ℤ))
    → ((k : ℕ) → k < length xs → sample_in f rows (i + k) ≡ get_or xs k (pos 0, pos 0))
    → samples_from f rows i (length xs) ≡ xs
unfolding samples_from
same_from f rows i [] h = refl
same_from f rows i (x ∷ xs) h =
    let first : sample_in f rows i ≡ x = let e : i + 0 ≡ i = omega arith in rw e at (h 0 (omega arith)) in
    let rest = same_from f rows (suc i) xs (λ k lt. let e : suc i + k ≡ i + suc k = omega arith in rw e (h (suc k) (omega arith))) in
    rw (first, rest) refl

mul_next : (i w : ℕ) → (i + 1) * w ≡ i * w + w
mul_next i w = grind arith

-- so many rows stand, and are read as the samples
pub record Written (f : Form) (rows : List ℕ) (n : ℕ) (samples : List (ℤ × ℤ)) : Type 0 where
  pub length : length rows ≡ n * f.width
  pub reads : ReadsAs f rows n samples

pub none_written : (f : Form) (rows : List ℕ) (samples : List (ℤ × ℤ)) → rows ≡ [] → Written f rows 0 samples
none_written f rows samples e = record {
  length = ap length e ∙ (let z : 0 ≡ 0 * f.width = omega arith in z);
  reads = λ more k lt. absurd (omega arith);
}

-- one row more
pub one_written : (f : Form) (i low high : ℕ) (done rows : List ℕ) (samples : List (ℤ × ℤ)) → IsForm f
    → Written f done i samples → (f.value_place ≡ 0 → low ≡ high)
    → sample_of f i low high ≡ get_or samples i (pos 0, pos 0) → rows ≡ done ++ row_text f low high
    → Written f rows (i + 1) samples
one_written f i low high done rows samples sound w one same e = record {
  length = ap length e ∙ (let a = length-row f low high sound in let b = w.length in
      omega (arith, a, b, length-append done (row_text f low high), mul_next i f.width));
  reads = λ more k lt.
      ap (λ (l : List ℕ). sample_in f (l ++ more) k) e
      ∙ ap (λ (l : List ℕ). sample_in f l k) (append_assoc done (row_text f low high) more)
      ∙ elim (cases_lt k i) [
        | inl before ↦ w.reads (row_text f low high ++ more) k before
        | inr not ↦
            let here : k ≡ i = omega arith in
            ap (λ (j : ℕ). sample_in f (done ++ (row_text f low high ++ more)) j) here
            ∙ row_reads f i low high done more sound w.length one ∙ same
            ∙ ap (λ (j : ℕ). get_or samples j (pos 0, pos 0)) (sym here)
      ];
}

-- a number on a line at 0 is itself
plain_number : (i n : ℕ) (z : ℤ) → SFits w64 z → n ≡ cast_unsigned w64 z → above 0 0 i (bits_of 0 64 n) ≡ z
plain_number i n z fits e =
    let small : cast_unsigned w64 z < 2 ^ 64 = Fits-lt-pow (Fits-of_z {w = w64} fits) in
    let one : n / 2 ^ 0 ≡ n = div-one n in
    let same : (0 + 0 * i + bits_of 0 64 n) % 2 ^ 64 ≡ n = omega (arith, small, e, one) in
    ap (cast_signed w64) (same ∙ e) ∙ to_z-of_z w64 z fits

-- the same seven numbers make the same sample
one_sample : (f : Form) (i low high : ℕ) → IsPlain f
    → sample_of f i low high ≡ (above 0 0 i (bits_of 0 64 low), above 0 0 i (bits_of 0 64 high * 2 ^ 0))
one_sample f i low high p =
    rw (p.first_time, p.time_step, p.first_value, p.value_step, p.time_bits, p.skipped, p.value_bits, p.scale) refl

-- a plain row's numbers are the sample's
pub plain_sample : (f : Form) (i low high : ℕ) (s : ℤ × ℤ) → IsPlain f → SFits w64 s.0 → SFits w64 s.1
    → low ≡ cast_unsigned w64 s.0 → high ≡ cast_unsigned w64 s.1 → sample_of f i low high ≡ s
plain_sample f i low high s p t v e g =
    let unscaled : bits_of 0 64 high * 2 ^ 0 ≡ bits_of 0 64 high = omega arith in
    let a = plain_number i low s.0 t e in
    let b : above 0 0 i (bits_of 0 64 high * 2 ^ 0) ≡ s.1 = ap (λ (n : ℕ). above 0 0 i n) unscaled ∙ plain_number i high s.1 v g in
    one_sample f i low high p
    ∙ ap (λ (x : ℤ). (x, above 0 0 i (bits_of 0 64 high * 2 ^ 0))) a
    ∙ ap (λ (x : ℤ). (s.0, x)) b

both_true : (p q : Bool) → false ≡ not (p && q) → (p ≡ true) × (q ≡ true)
both_true true true e = (refl, refl)
both_true true false e = cc
both_true false q e = cc

-- samples that compare as equal are one
pub same_by_test : (a b : ℤ × ℤ) → false ≡ not (int_eq a.0 b.0 && int_eq a.1 b.1) → a ≡ b
same_by_test a b e =
    let both = both_true (int_eq a.0 b.0) (int_eq a.1 b.1) e in
    let p : a.0 ≡ b.0 = (Decides-int_eq a.0 b.0).0 both.0 in
    let q : a.1 ≡ b.1 = (Decides-int_eq a.1 b.1).0 both.1 in
    ap (λ (x : ℤ). (x, a.1)) p ∙ ap (λ (x : ℤ). (b.0, x)) q

pub length-samples_from : (f : Form) (rows : List ℕ) (i n : ℕ) → length (samples_from f rows i n) ≡ n
unfolding samples_from
length-samples_from f rows i zero = refl
length-samples_from f rows i (suc n) = ap suc (length-samples_from f rows (suc i) n)

-- the sample at a place
pub get_from : (f : Form) (rows : List ℕ) (i n k : ℕ) → k < n
    → slice_get (samples_from f rows i n) k ≡ Some (sample_in f rows (i + k))
unfolding samples_from
get_from f rows i zero k lt = absurd (omega arith)
get_from f rows i (suc n) zero lt = let e : i + 0 ≡ i = omega arith in rw e refl
get_from f rows i (suc n) (suc k) lt =
    let e : suc i + k ≡ i + suc k = omega arith in
    get_from f rows (suc i) n k (omega arith) ∙ ap (λ (j : ℕ). Some (sample_in f rows j)) e

pub length_samples : (f : Form) (rows : List ℕ) → length (samples_in f rows) ≡ f.count
length_samples f rows = length-samples_from f rows 0 f.count

pub get_sample : (f : Form) (rows : List ℕ) (k : ℕ) → k < f.count
    → slice_get (samples_in f rows) k ≡ Some (sample_in f rows k)
get_sample f rows k lt =
    let e : 0 + k ≡ k = omega arith in
    get_from f rows 0 f.count k lt ∙ ap (λ (j : ℕ). Some (sample_in f rows j)) e

-- how many samples there are, and which stands at a place
pub ruleset of_samples = (length_samples, get_sample)

-- a row lies before the end of the rows
pub row_ends : (f : Form) (rows : List ℕ) (i : ℕ) → HasRows f rows → i < f.count
    → i * f.width + f.width + 8 ≤ length rows
row_ends f rows i has lt = let e = row_fits i f.width f.count f.width lt (omega arith) in omega (arith, e, has)

-- eight bytes more than the rows
pub has_rows : (f : Form) (rows all : List ℕ) (n : ℕ) → f.count ≡ n → length rows ≡ n * f.width
    → length all ≡ length rows + 8 → HasRows f all
has_rows f rows all n c e g = let h : f.count * f.width ≡ n * f.width = ap (λ (k : ℕ). k * f.width) c in omega (arith, e, g, h)

-- rows that are read as the samples mean them, whatever comes after
pub means : (f : Form) (rows : List ℕ) (samples : List (ℤ × ℤ)) → f.count ≡ length samples
    → ReadsAs f rows (length samples) samples → Means f rows samples
means f rows samples c reads = λ more.
    ap (λ (n : ℕ). samples_from f (rows ++ more) 0 n) c
    ∙ same_from f (rows ++ more) 0 samples (λ k lt.
    let e : 0 + k ≡ k = omega arith in
    ap (λ (j : ℕ). sample_in f (rows ++ more) j) e ∙ reads more k lt)

-- one more of them
pub take_next : (xs : List (ℤ × ℤ)) (i : ℕ) (x : ℤ × ℤ) → slice_get xs i ≡ Some x → take (i + 1) xs ≡ take i xs ++ x ∷ []
take_next [] i x e = cc
take_next (y ∷ ys) zero x e = let h : y ≡ x = cc in ap (λ (z : ℤ × ℤ). z ∷ []) h
take_next (y ∷ ys) (suc i) x e =
    let one : suc i + 1 ≡ suc (i + 1) = omega arith in
    ap (λ (k : ℕ). take k (y ∷ ys)) one ∙ ap (λ (zs : List (ℤ × ℤ)). y ∷ zs) (take_next ys i x e)

-- rows and eight bytes
pub rows_stand : (f : Form) (rows : List ℕ) → length rows ≡ f.count * f.width + 8 → HasRows f rows
rows_stand f rows e = omega (arith, e)

-- no row is longer than 16 bytes
pub rows_short : (f : Form) (rows : List ℕ) → IsForm f → length rows ≡ f.count * f.width + 8
    → length rows ≤ 16 * length (samples_in f rows) + 8
rows_short f rows sound e =
    let narrow : f.width ≤ 16 = omega (arith, sound.word, sound.value_place) in
    let most = mul-le f.count f.width f.count 16 (omega arith) narrow in
    let n = length_samples f rows in
    omega (arith, e, most, n)

mod_first : (a b : ℕ) → (a % 2 ^ 64 + b) % 2 ^ 64 ≡ (a + b) % 2 ^ 64
mod_first a b = omega arith

-- where a line is after so many steps, in 64 bits
abbrev pub line_at : ℕ → ℕ → ℕ → ℕ
line_at start step i = (start + step * i) % 2 ^ 64

pub line_begins : (start step : ℕ) → start < 2 ^ 64 → start ≡ line_at start step 0
line_begins start step lt =
    let z : start + step * 0 ≡ start = omega arith in
    sym (ap (λ (n : ℕ). n % 2 ^ 64) z ∙ mod-eq_of_lt lt)

pub line_goes_on : (start step i line next : ℕ) → line ≡ line_at start step i → next ≡ (line + step) % 2 ^ 64
    → next ≡ line_at start step (i + 1)
line_goes_on start step i line next e f =
    let one : start + step * i + step ≡ start + step * (i + 1) = grind arith in
    f ∙ ap (λ (n : ℕ). (n + step) % 2 ^ 64) e ∙ mod_first (start + step * i) step ∙ ap (λ (n : ℕ). n % 2 ^ 64) one

-- the sample on two lines is the one in its row
pub on_lines : (f : Form) (i times values x y : ℕ) → times ≡ line_at f.first_time f.time_step i
    → values ≡ line_at f.first_value f.value_step i
    → (on_line times (bits_of 0 f.time_bits x), on_line values (bits_of f.skipped f.value_bits y * 2 ^ f.scale)) ≡ sample_of f i x y
on_lines f i times values x y e g =
    let one : (line n rest : ℕ) → line ≡ n % 2 ^ 64 → on_line line rest ≡ on_line n rest =
    λ (line n rest : ℕ) (h : line ≡ n % 2 ^ 64). ap (cast_signed w64) (ap (λ (k : ℕ). (k + rest) % 2 ^ 64) h ∙ mod_first n rest) in
    let p = one times (f.first_time + f.time_step * i) (bits_of 0 f.time_bits x) e in
    let q = one values (f.first_value + f.value_step * i) (bits_of f.skipped f.value_bits y * 2 ^ f.scale) g in
    ap (λ (t : ℤ). (t, on_line values (bits_of f.skipped f.value_bits y * 2 ^ f.scale))) p
    ∙ ap (λ (v : ℤ). (above f.first_time f.time_step i (bits_of 0 f.time_bits x), v)) q
