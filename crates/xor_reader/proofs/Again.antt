-- What is spelled is read.
use Rattle.std.proofs.Common.{◌≡◌, ℕ, zero, suc, ◌+◌, ◌-◌, ◌*◌, ◌/◌, ◌%◌, ◌^◌, ◌<◌, ◌≤◌, Bool, true}
use Rattle.std.proofs.Common.{false, eqb, ltb, cond, List, [], ◌∷◌, ◌++◌, length, replicate, Option}
use Rattle.std.proofs.Common.{Some, Result, Ok, refl, ap, ◌∙◌, inl, inr, arith, append_assoc}
use Rattle.std.specs.Prelude.{ℤ, pos, negsuc, ◌+ℤ◌}
use Rattle.std.proofs.lemmas.Bool.{le-ltb, le-leb, ne_eqb, cases_lt}
use Rattle.std.proofs.lemmas.List.{length-replicate}
use Rattle.std.proofs.lemmas.Int.{ints}
use Rattle.labels.specs.Contents.{is_time}
use Rattle.byteorder.specs.Endian.{big_bytes}
use Rattle.wire.specs.Reading.{uvarint_at}
use Rattle.wire.specs.Spelling.{varint, zigzag}
use Rattle.wire.proofs.Laws.{uvarint_again}
use Rattle.wire.proofs.Signed.{varint_again}
use Rattle.wire.proofs.Fields.{number_again_8}
use Rattle.wire.specs.Outcome.{◌>>=◌}
use Rattle.xor_reader.specs.declared.error.XorError.{XorError}
use Rattle.xor_reader.specs.declared.step.Form.{Form}
use Rattle.xor_reader.specs.declared.step.Form.TheVariants.{Bits14, Bits17, Bits20, Bits64}
use Rattle.xor_reader.specs.declared.step.Window.{Window}
use Rattle.xor_reader.specs.declared.step.State.{State}
use Rattle.xor_reader.specs.Bits.{field, bits_of, number, is_padding}
use Rattle.xor_reader.specs.Grammar.{Sample, width, prefix, signed, Change, Stays, Changes}
use Rattle.xor_reader.specs.Grammar.{change_text, change_of, FitsChange, Difference, Repeats}
use Rattle.xor_reader.specs.Grammar.{Within, Anew, difference_text, window_after, value_after}
use Rattle.xor_reader.specs.Grammar.{IsWindow, FitsDifference, IsNext, IsTime, next_state}
use Rattle.xor_reader.specs.Grammar.{sample_of, Steps, after, steps_text, samples_after, FitSteps}
use Rattle.xor_reader.specs.Grammar.{Later, Alone, Followed, later_count, later_samples, FitsLater}
use Rattle.xor_reader.specs.Grammar.{SpellsLater, IsPadding, first_state, IsXorChunk}
use Rattle.xor_reader.specs.Reading.{form_at, change_at, change_in_form_at, window_at, scope_at}
use Rattle.xor_reader.specs.Reading.{difference_at, next_time, value_at, step_at, steps_at}
use Rattle.xor_reader.specs.Reading.{with_front, later_at, head_at, samples_at}
use Rattle.xor_reader.proofs.Fields.{bits_of_field}

form_again : (form : Form) (rest : List Bool) → form_at (prefix form ++ rest) ≡ Ok (Some form, rest)
unfolding form_at
form_again Bits14 rest = refl
form_again Bits17 rest = refl
form_again Bits20 rest = refl
form_again Bits64 rest = refl

told_again : (form : Form) (raw : ℕ) (rest : List Bool) → raw < 2 ^ width form
    → change_in_form_at (Some form) (field (width form) raw ++ rest) ≡ Ok (signed form raw, rest)
told_again form raw rest lt =
    ap (λ (r : Result (ℕ × List Bool) XorError). r >>= λ x. let y : Result (ℤ × List Bool) XorError = Ok (signed form x.0, x.1) in y)
    (bits_of_field (width form) raw rest lt)

pub change_again : (c : Change) (rest : List Bool) → FitsChange c
    → change_at (change_text c ++ rest) ≡ Ok (change_of c, rest)
unfolding change_at form_at
change_again Stays rest fits = refl
change_again (Changes form raw) rest fits =
    ap change_at (append_assoc (prefix form) (field (width form) raw) rest)
    ∙ ap (λ (r : Result (Option Form × List Bool) XorError). r >>= λ x. change_in_form_at x.0 x.1)
    (form_again form (field (width form) raw ++ rest))
    ∙ told_again form raw rest fits

-- the length of a window, as it is told
told_len : (len : ℕ) → 0 < len → len ≤ 64 → cond (eqb (len % 64) 0) 64 (len % 64) ≡ len
told_len len some few =
    elim (cases_lt len 64) [
      | inl lt ↦
          let e : len % 64 ≡ len = omega arith in
          let no : eqb len 0 ≡ false = ne_eqb len 0 (λ h. omega arith) in
          rw (e, no) refl
      | inr le ↦
          let e : len ≡ 64 = omega arith in
          rw e refl
    ]

window_again : (v : Window) (rest : List Bool) → v.leading < 32 → IsWindow v
    → window_at (field 5 v.leading ++ (field 6 (v.significant % 64) ++ rest)) ≡ Ok (v, rest)
unfolding window_at
window_again v rest leading is =
    let told = v.significant % 64 in
    let one = bits_of_field 5 v.leading (field 6 told ++ rest) (omega arith) in
    let two = bits_of_field 6 told rest (omega arith) in
    let len = told_len v.significant is.0 (omega (arith, is.1)) in
    let few : ltb 64 (v.leading + v.significant) ≡ false = le-ltb 64 (v.leading + v.significant) is.1 in
    rw (one, two, len, few) refl

pub difference_again : (value : ℕ) (w : Window) (d : Difference) (rest : List Bool)
    → FitsDifference w d
    → difference_at value w (difference_text w d ++ rest)
    ≡ Ok ((value_after w value d, window_after w d), rest)
unfolding difference_at scope_at
difference_again value w Repeats rest fits = refl
difference_again value w (Within bits) rest fits =
    rw (bits_of_field w.significant bits rest fits) refl
difference_again value w (Anew v bits) rest fits =
    let told = field 6 (v.significant % 64) in
    let parts : (field 5 v.leading ++ (told ++ field v.significant bits)) ++ rest
    ≡ field 5 v.leading ++ (told ++ (field v.significant bits ++ rest)) =
    append_assoc (field 5 v.leading) (told ++ field v.significant bits) rest
    ∙ ap (λ (t : List Bool). field 5 v.leading ++ t) (append_assoc told (field v.significant bits) rest) in
    rw (parts, window_again v (field v.significant bits ++ rest) fits.0 fits.1, bits_of_field v.significant bits rest fits.2) refl

pub next_again : (time step : ℤ) → IsNext time step → next_time time step ≡ Ok (time +ℤ step)
unfolding next_time
next_again time step is = grind (arith, is.0, is.1)

pub value_again : (s : State) (step : ℤ) (d : Difference) (rest : List Bool)
    → FitsDifference s.window d → IsNext s.time step
    → value_at s step (difference_text s.window d ++ rest) ≡ Ok (next_state s step d, rest)
unfolding value_at
value_again s step d rest fits is =
    rw (next_again s.time step is, difference_again s.value s.window d rest fits) refl

pub step_again : (s : State) (x : Change × Difference) (rest : List Bool)
    → FitsChange x.0 → FitsDifference s.window x.1 → IsNext s.time (s.step +ℤ change_of x.0)
    → step_at s ((change_text x.0 ++ difference_text s.window x.1) ++ rest) ≡ Ok (after s x, rest)
unfolding step_at
step_again s x rest fits_change fits is =
    let d = difference_text s.window x.1 in
    ap (step_at s) (append_assoc (change_text x.0) d rest)
    ∙ ap (λ (r : Result (ℤ × List Bool) XorError). r >>= λ c. value_at s (s.step +ℤ c.0) c.1)
    (change_again x.0 (d ++ rest) fits_change)
    ∙ value_again s (s.step +ℤ change_of x.0) x.1 rest fits is

pub steps_again : (s : State) (xs : Steps) (rest : List Bool) → FitSteps s xs
    → steps_at (length xs) s (steps_text s xs ++ rest) ≡ Ok (samples_after s xs, rest)
unfolding steps_at
steps_again s [] rest fits = refl
steps_again s (x ∷ xs) rest fits =
    let text = change_text x.0 ++ difference_text s.window x.1 in
    let more = steps_text (after s x) xs in
    ap (steps_at (suc (length xs)) s) (append_assoc text more rest)
    ∙ ap (λ (r : Result (State × List Bool) XorError). r >>= λ t. with_front (sample_of t.0 ∷ []) (steps_at (length xs) t.0 t.1))
    (step_again s x (more ++ rest) fits.0 fits.1 fits.2)
    ∙ ap (with_front (sample_of (after s x) ∷ [])) (steps_again (after s x) xs rest fits.3)

pub length_zeros : (n : ℕ) → length (replicate n false) ≡ n
length_zeros n = length-replicate n false

number_zeros : (n : ℕ) → number (replicate n false) ≡ 0
unfolding number
number_zeros zero = refl
number_zeros (suc n) = ap (λ (x : ℕ). 0 + x) (number_zeros n)

pub padding_again : (bits : List Bool) → IsPadding bits → is_padding bits ≡ true
unfolding is_padding
padding_again bits is =
    rw (is.2, length_zeros is.0, number_zeros is.0, le-leb is.0 8 is.1) refl

pub later_again : (s : State) (later : Later) (bytes : List ℕ) → SpellsLater s later bytes
    → FitsLater s later → later_at (1 + later_count later) s bytes ≡ Ok (later_samples s later)
unfolding later_at
later_again s Alone bytes spelled fits = rw (padding_again (bits_of bytes) spelled) refl
later_again s (Followed step d xs) bytes spelled fits =
    let packed = spelled.0 in
    let padding = spelled.2 in
    let t = next_state s (pos step) d in
    let more = steps_text t xs ++ padding in
    let no : eqb (1 + (1 + length xs)) 1 ≡ false = ne_eqb (1 + (1 + length xs)) 1 (λ h. omega arith) in
    let left : 1 + (1 + length xs) - 2 ≡ length xs = omega arith in
    let one : uvarint_at bytes ≡ Ok (step, packed) =
    ap uvarint_at spelled.1 ∙ uvarint_again step packed fits.0 in
    let two : value_at s (pos step) (bits_of packed) ≡ Ok (t, more) =
    ap (value_at s (pos step)) spelled.4 ∙ value_again s (pos step) d more fits.1 fits.2 in
    let three = steps_again t xs padding fits.3 in
    rw (no, one, two, left, three, padding_again padding spelled.3) refl

pub two_bytes : (n : ℕ) (rest : List ℕ) → n < 65536
    → big_bytes 2 n ++ rest ≡ n / 256 ∷ n % 256 ∷ rest
two_bytes n rest lt =
    let e : n / 256 % 256 ≡ n / 256 = omega arith in
    ap (λ (x : ℕ). x ∷ n % 256 ∷ rest) e

time_is : (t : ℤ) → IsTime t → is_time t ≡ true
time_is t is = grind (arith, is.0, is.1)

zigzag_fits : (t : ℤ) → IsTime t → zigzag t < 2 ^ 64
zigzag_fits (pos n) is = omega (arith, ints, is.1)
zigzag_fits (negsuc n) is = omega (arith, ints, is.0)

head_again : (n : ℕ) (time : ℤ) (value : ℕ) (bytes rest : List ℕ) → 0 < n → n < 65536
    → IsTime time → value < 2 ^ 64
    → bytes ≡ big_bytes 2 n ++ (varint time ++ (big_bytes 8 value ++ rest))
    → head_at bytes ≡ Ok ((n, first_state time value), rest)
unfolding head_at
head_again n time value bytes rest some few is lt text =
    let more = varint time ++ (big_bytes 8 value ++ rest) in
    let front : bytes ≡ n / 256 ∷ n % 256 ∷ more = text ∙ two_bytes n more few in
    let count : n / 256 * 256 + n % 256 ≡ n = omega arith in
    let no : eqb n 0 ≡ false = ne_eqb n 0 (λ h. omega arith) in
    let one = varint_again time (big_bytes 8 value ++ rest) (zigzag_fits time is) in
    let two = number_again_8 value rest lt in
    rw (front, count, no, one, time_is time is, two) refl

pub chunk_again : (bytes : List ℕ) (samples : List Sample) → IsXorChunk bytes samples
    → samples_at bytes ≡ Ok samples
unfolding samples_at
chunk_again bytes samples x =
    let s = first_state x.time x.value in
    let p = x.spelled in
    let one =
    head_again (1 + later_count x.later) x.time x.value bytes p.rest (omega arith)
    (omega (arith, p.count)) p.time_fits p.value_fits p.text in
    let two = later_again s x.later p.rest p.spelled p.fits in
    rw (one, two, x.meant) refl
