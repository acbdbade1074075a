-- A chunk as memory holds it: a line of times and a line of values, and in rows of one width how
-- much each sample is above them.
use Rattle.std.specs.Prelude.{◌≡◌, ℕ, zero, suc, ◌+◌, ◌-◌, ◌*◌, ◌/◌, ◌%◌, ◌^◌, ◌<◌, ◌≤◌, ◌⊎◌, ℤ}
use Rattle.std.specs.Prelude.{List, [], ◌∷◌, ◌++◌, length, drop, get_or, pos, ◌≤ℤ◌, Bool, int_le}
use Rattle.std.specs.Prelude.{◌&&◌}
use Rattle.std.specs.Int.{w64, cast_signed}
use Rattle.byteorder.specs.Endian.{little_number, little_bytes}
use Rattle.packed_chunks.specs.declared.form.Form.{Form}

-- the number in the eight bytes from a place on, the lowest first
abbrev pub word_at : List ℕ → ℕ → ℕ
word_at rows place = little_number 8 (drop place rows)

-- so many bits of a number, after the lowest that are skipped
abbrev pub bits_of : ℕ → ℕ → ℕ → ℕ
bits_of skipped many word = word / 2 ^ skipped % 2 ^ many

-- what is so much above a number, in 64 bits
abbrev pub on_line : ℕ → ℕ → ℤ
on_line number rest = cast_signed w64 ((number + rest) % 2 ^ 64)

-- what is so much above a line at place i
abbrev pub above : ℕ → ℕ → ℕ → ℕ → ℤ
above start step i rest = on_line (start + step * i) rest

-- the sample at place i whose time is in the bits of x, and whose value is in those of y
abbrev pub sample_of : Form → ℕ → ℕ → ℕ → ℤ × ℤ
sample_of f i x y = (
  above f.first_time f.time_step i (bits_of 0 f.time_bits x),
  above f.first_value f.value_step i (bits_of f.skipped f.value_bits y * 2 ^ f.scale),
)

-- the sample of row i
abbrev pub sample_in : Form → List ℕ → ℕ → ℤ × ℤ
sample_in f rows i =
    sample_of f i (word_at rows (i * f.width)) (word_at rows (i * f.width + f.value_place))

-- so many samples, from row i on
unfoldable pub samples_from : Form → List ℕ → ℕ → ℕ → List (ℤ × ℤ)
samples_from f rows i zero = []
samples_from f rows i (suc n) = sample_in f rows i ∷ samples_from f rows (suc i) n

-- what a chunk of this form and these rows means
abbrev pub samples_in : Form → List ℕ → List (ℤ × ℤ)
samples_in f rows = samples_from f rows 0 f.count

-- the bits of times and values lie in a row, and both are reached by reading eight bytes
pub record IsForm (f : Form) : Type 0 where
  pub value_place : f.value_place ≤ 8
  pub width : f.value_place ≤ f.width
  pub word : f.width ≤ f.value_place + 8
  pub time_bits : (f.time_bits ≤ 8 * f.value_place)
      ⊎ ((f.value_place ≡ 0) × (f.time_bits ≤ 8 * f.width))
  pub value_bits : f.skipped + f.value_bits + 8 * f.value_place ≤ 8 * f.width
  pub skipped : f.skipped < 64
  pub scale : f.scale < 64

-- the bytes of a row: those of one number up to the byte from which the value is read, and then
-- those of another, which is the same where the value is read from the first byte on
abbrev pub row_text : Form → ℕ → ℕ → List ℕ
row_text f low high =
    little_bytes f.value_place low ++ little_bytes (f.width - f.value_place) high

-- the first rows, whatever comes after them, are those of the samples
abbrev pub ReadsAs : Form → List ℕ → ℕ → List (ℤ × ℤ) → Type 0
ReadsAs f rows n samples =
    (more : List ℕ) (k : ℕ) → k < n → sample_in f (rows ++ more) k ≡ get_or samples k (pos 0, pos 0)

-- lines at 0, and 64 bits for each number: a row is the sample itself
pub record IsPlain (f : Form) : Type 0 where
  pub first_time : f.first_time ≡ 0
  pub time_step : f.time_step ≡ 0
  pub first_value : f.first_value ≡ 0
  pub value_step : f.value_step ≡ 0
  pub width : f.width ≡ 16
  pub value_place : f.value_place ≡ 8
  pub time_bits : f.time_bits ≡ 64
  pub skipped : f.skipped ≡ 0
  pub value_bits : f.value_bits ≡ 64
  pub scale : f.scale ≡ 0

-- the rows are whole, and eight bytes can be read from any place in them
abbrev pub HasRows : Form → List ℕ → Type 0
HasRows f rows = f.count * f.width + 8 ≤ length rows

-- these rows, whatever comes after them, mean the samples
abbrev pub Means : Form → List ℕ → List (ℤ × ℤ) → Type 0
Means f rows samples = (more : List ℕ) → samples_in f (rows ++ more) ≡ samples

-- the time of the sample at place i
abbrev pub time_at : List (ℤ × ℤ) → ℕ → ℤ
time_at samples i = (get_or samples i (pos 0, pos 0)).0

-- no time is below one before it
abbrev pub Ascends : List (ℤ × ℤ) → Type 0
Ascends samples = (i j : ℕ) → i ≤ j → j < length samples → time_at samples i ≤ℤ time_at samples j

-- whether a time lies in the closed range
abbrev pub in_range : ℤ → ℤ → ℤ → Bool
in_range from to t = int_le from t && int_le t to
