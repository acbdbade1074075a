-- Reading the bits of a chunk from the front. Each check has its refusal, and the first that fails
-- is answered.
use Rattle.std.specs.Prelude.{ℕ, zero, suc, ◌+◌, ◌-◌, ◌*◌, ◌==◌, ℤ, pos, ◌+ℤ◌, nat_lt, int_lt}
use Rattle.std.specs.Prelude.{int_le, if◌then◌else◌, Bool, not, Option, Some, None, List, [], ◌∷◌}
use Rattle.std.specs.Prelude.{◌++◌, Result, Ok, Err}
use Rattle.labels.specs.declared.sample.TheConstants.{MAX_TIME}
use Rattle.labels.specs.Contents.{is_time}
use Rattle.wire.specs.Outcome.{◌>>=◌}
use Rattle.wire.specs.Reading.{byte_at, number_at, uvarint_at, varint_at}
use Rattle.xor_reader.specs.declared.error.XorError.{XorError}
use Rattle.xor_reader.specs.declared.error.XorError.TheVariants.{Empty, NotAscending, OutOfRange}
use Rattle.xor_reader.specs.declared.error.XorError.TheVariants.{Window as BadWindow, Trailing}
use Rattle.xor_reader.specs.declared.step.Form.{Form}
use Rattle.xor_reader.specs.declared.step.Form.TheVariants.{Bits14, Bits17, Bits20, Bits64}
use Rattle.xor_reader.specs.declared.step.Window.{Window}
use Rattle.xor_reader.specs.declared.step.State.{State}
use Rattle.xor_reader.specs.Bits.{bit_at, bits_at, bits_of, is_padding}
use Rattle.xor_reader.specs.Grammar.{Sample, width, signed, with_difference, whole_window}
use Rattle.xor_reader.specs.Grammar.{sample_of}
use Rattle.xor_reader.specs.Outcome.{or_number}

-- how the step changes, None where it stays
unfoldable pub form_at : List Bool → Result (Option Form × List Bool) XorError
form_at bits =
    bit_at bits >>= λ a. if not a.0 then Ok (None, a.1) else
    (bit_at a.1 >>= λ b. if not b.0 then Ok (Some Bits14, b.1) else
    (bit_at b.1 >>= λ c. if not c.0 then Ok (Some Bits17, c.1) else
    (bit_at c.1 >>= λ d. if not d.0 then Ok (Some Bits20, d.1) else Ok (Some Bits64, d.1))))

-- the change that a form tells
abbrev pub change_in_form_at : Option Form → List Bool → Result (ℤ × List Bool) XorError
change_in_form_at None bits = Ok (pos 0, bits)
change_in_form_at (Some form) bits =
    bits_at (width form) bits >>= λ raw. Ok (signed form raw.0, raw.1)

-- how much the step changes
unfoldable pub change_at : List Bool → Result (ℤ × List Bool) XorError
change_at bits = form_at bits >>= λ form. change_in_form_at form.0 form.1

-- a new window, of which a length of 64 is told as 0
unfoldable pub window_at : List Bool → Result (Window × List Bool) XorError
window_at bits =
    bits_at 5 bits >>= λ leading. bits_at 6 leading.1 >>= λ told.
    let len = if told.0 == 0 then 64 else told.0 in
    if nat_lt 64 (leading.0 + len) then Err BadWindow
    else Ok (record { leading = leading.0; significant = len }, told.1)

-- the window of a value that differs: a new one, or the one that was last told
unfoldable pub scope_at : Window → List Bool → Result (Window × List Bool) XorError
scope_at window bits = do
  anew ← bit_at bits
  if anew.0 then window_at anew.1 else Ok (window, anew.1)

-- the next value, and the window that was last told by then
unfoldable pub difference_at : ℕ → Window → List Bool → Result ((ℕ × Window) × List Bool) XorError
difference_at value window bits =
    bit_at bits >>= λ differs. if not differs.0 then Ok ((value, window), differs.1) else
    (scope_at window differs.1 >>= λ scope. bits_at scope.0.significant scope.1 >>= λ raw.
    Ok ((with_difference scope.0 value raw.0, scope.0), raw.1))

-- the time a step after another, which is later and a time
unfoldable pub next_time : ℤ → ℤ → Result ℤ XorError
next_time time step =
    if int_lt (pos 0) step then
    (if int_le (time +ℤ step) MAX_TIME then Ok (time +ℤ step) else Err OutOfRange)
    else Err NotAscending

-- the state after a sample of which the step is known
unfoldable pub value_at : State → ℤ → List Bool → Result (State × List Bool) XorError
value_at s step bits = do
  time ← next_time s.time step
  x ← difference_at s.value s.window bits
  Ok (record { time = time; step = step; value = x.0.0; window = x.0.1 }, x.1)

-- the state after the next sample
unfoldable pub step_at : State → List Bool → Result (State × List Bool) XorError
step_at s bits = do
  change ← change_at bits
  value_at s (s.step +ℤ change.0) change.1

-- samples before those that were read, and the bits after them
abbrev pub with_front : List Sample
    → Result (List Sample × List Bool) XorError → Result (List Sample × List Bool) XorError
with_front front read = read >>= λ x. Ok (front ++ x.0, x.1)

-- this many samples after a state
unfoldable pub steps_at : ℕ → State → List Bool → Result (List Sample × List Bool) XorError
steps_at zero s bits = Ok ([], bits)
steps_at (suc n) s bits =
    step_at s bits >>= λ x. with_front (sample_of x.0 ∷ []) (steps_at n x.0 x.1)

-- the count of samples and the first of them
unfoldable pub head_at : List ℕ → Result ((ℕ × State) × List ℕ) XorError
head_at bytes =
    or_number (byte_at bytes) >>= λ high. or_number (byte_at high.1) >>= λ low.
    if high.0 * 256 + low.0 == 0 then Err Empty else
    (or_number (varint_at low.1) >>= λ time. if not (is_time time.0) then Err OutOfRange else
    (or_number (number_at 8 time.1) >>= λ value.
    Ok (
      (
        high.0 * 256 + low.0,
        record { time = time.0; step = pos 0; value = value.0; window = whole_window },
      ),
      value.1,
    )))

-- up to eight bits of 0 are left
abbrev pub padding_at : List Bool → Result (List Bool) XorError
padding_at bits = if is_padding bits then Ok bits else Err Trailing

-- what was read, where that is all
abbrev pub to_the_end : Result (List Sample × List Bool) XorError → Result (List Sample) XorError
to_the_end read = read >>= λ x. padding_at x.1 >>= λ rest. Ok x.0

-- samples before those that were read
abbrev pub after_samples : List Sample
    → Result (List Sample) XorError → Result (List Sample) XorError
after_samples front read = read >>= λ later. Ok (front ++ later)

-- the samples after the first: the step to the second is a number of whole bytes
unfoldable pub later_at : ℕ → State → List ℕ → Result (List Sample) XorError
later_at count s bytes =
    if count == 1 then to_the_end (Ok ([], bits_of bytes)) else
    (or_number (uvarint_at bytes) >>= λ step. value_at s (pos step.0) (bits_of step.1) >>= λ x.
    to_the_end (with_front (sample_of x.0 ∷ []) (steps_at (count - 2) x.0 x.1)))

-- all samples of the data of a chunk
unfoldable pub samples_at : List ℕ → Result (List Sample) XorError
samples_at bytes =
    head_at bytes >>= λ head.
    after_samples (sample_of head.0.1 ∷ []) (later_at head.0.0 head.0.1 head.1)
