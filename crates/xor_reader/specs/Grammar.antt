-- An XOR chunk, by what its bits say. A sample after the first is a change of the step between
-- times and a difference from the value before it. Each has several spellings: what is spelled is
-- a tree of choices, which has one text and one meaning.
use Rattle.std.specs.Prelude.{◌≡◌, ℕ, ◌+◌, ◌-◌, ◌*◌, ◌%◌, ◌^◌, ◌≤◌, ◌<◌, ℤ, pos, ◌+ℤ◌, ◌-ℤ◌, ◌≤ℤ◌}
use Rattle.std.specs.Prelude.{◌<ℤ◌, nat_lt, if◌then◌else◌, bit_xor, Bool, true, false, List, []}
use Rattle.std.specs.Prelude.{◌∷◌, ◌++◌, length, replicate}
use Rattle.byteorder.specs.Endian.{big_bytes}
use Rattle.labels.specs.declared.sample.TheConstants.{MIN_TIME, MAX_TIME}
use Rattle.wire.specs.Spelling.{uvarint, varint}
use Rattle.xor_reader.specs.declared.step.Form.{Form}
use Rattle.xor_reader.specs.declared.step.Form.TheVariants.{Bits14, Bits17, Bits20, Bits64}
use Rattle.xor_reader.specs.declared.step.Window.{Window}
use Rattle.xor_reader.specs.declared.step.State.{State}
use Rattle.xor_reader.specs.Bits.{field, bits_of}

-- a sample: its time, and its value as the 64 bits of a double
abbrev pub Sample : Type 0
Sample = ℤ × ℕ

-- how many bits a change of the step takes, and what stands before them
abbrev pub width : Form → ℕ
width Bits14 = 14
width Bits17 = 17
width Bits20 = 20
width Bits64 = 64

abbrev pub prefix : Form → List Bool
prefix Bits14 = true ∷ false ∷ []
prefix Bits17 = true ∷ true ∷ false ∷ []
prefix Bits20 = true ∷ true ∷ true ∷ false ∷ []
prefix Bits64 = true ∷ true ∷ true ∷ true ∷ []

-- The greatest that stands for itself: a power of two in the short forms, unlike two's complement.
abbrev pub greatest : Form → ℕ
greatest Bits14 = 0x2000
greatest Bits17 = 0x1_0000
greatest Bits20 = 0x8_0000
greatest Bits64 = 0x7fff_ffff_ffff_ffff

-- the change that raw bits stand for
abbrev pub signed : Form → ℕ → ℤ
signed form raw =
    if nat_lt (greatest form) raw then pos raw -ℤ pos (2 ^ width form) else pos raw

-- the step stays, or changes by what these bits say
pub data Change : Type 0 where
  Stays : Change
  Changes : Form → ℕ → Change

-- how a change is spelled
abbrev pub change_text : Change → List Bool
change_text Stays = false ∷ []
change_text (Changes form raw) = prefix form ++ field (width form) raw

-- what a change adds to the step
abbrev pub change_of : Change → ℤ
change_of Stays = pos 0
change_of (Changes form raw) = signed form raw

-- the raw bits are no more than the form holds
abbrev pub FitsChange : Change → Type 0
FitsChange Stays = Unit {0}
FitsChange (Changes form raw) = raw < 2 ^ width form

-- The value stays, or differs from the one before in the window that was last told, or in another:
-- so many bits after so many that are the same.
pub data Difference : Type 0 where
  Repeats : Difference
  Within : ℕ → Difference
  Anew : Window → ℕ → Difference

-- the window before any was told
abbrev pub whole_window : Window
whole_window = record { leading = 0; significant = 64 }

-- a window holds some bits, and ends within a value
abbrev pub IsWindow : Window → Type 0
IsWindow w = (0 < w.significant) × (w.leading + w.significant ≤ 64)

-- how a difference is spelled: the length 64 of a window is told as 0
abbrev pub difference_text : Window → Difference → List Bool
difference_text w Repeats = false ∷ []
difference_text w (Within bits) = true ∷ false ∷ field w.significant bits
difference_text w (Anew v bits) =
    true ∷ true ∷ (field 5 v.leading ++ (field 6 (v.significant % 64) ++ field v.significant bits))

-- the window that was last told, once a difference is read
abbrev pub window_after : Window → Difference → Window
window_after w Repeats = w
window_after w (Within bits) = w
window_after w (Anew v bits) = v

-- the value that differs from another in these bits of a window
abbrev pub with_difference : Window → ℕ → ℕ → ℕ
with_difference w value bits = bit_xor value (bits * 2 ^ (64 - (w.leading + w.significant)))

-- the next value
abbrev pub value_after : Window → ℕ → Difference → ℕ
value_after w value Repeats = value
value_after w value (Within bits) = with_difference w value bits
value_after w value (Anew v bits) = with_difference v value bits

-- the bits are no more than the window holds, and the window can be told
abbrev pub FitsDifference : Window → Difference → Type 0
FitsDifference w Repeats = Unit {0}
FitsDifference w (Within bits) = bits < 2 ^ w.significant
FitsDifference w (Anew v bits) = (v.leading < 32) × IsWindow v × (bits < 2 ^ v.significant)

-- a time that the product keeps
abbrev pub IsTime : ℤ → Type 0
IsTime t = (MIN_TIME ≤ℤ t) × (t ≤ℤ MAX_TIME)

-- a state between samples
abbrev pub IsState : State → Type 0
IsState s = IsTime s.time × IsWindow s.window

-- the time this step after another is later, and a time
abbrev pub IsNext : ℤ → ℤ → Type 0
IsNext time step = (pos 0 <ℤ step) × ((time +ℤ step) ≤ℤ MAX_TIME)

-- the state after a step and a difference, which are of the next sample
abbrev pub next_state : State → ℤ → Difference → State
next_state s step d = record {
  time = s.time +ℤ step;
  step = step;
  value = value_after s.window s.value d;
  window = window_after s.window d;
}

-- the sample at a state
abbrev pub sample_of : State → Sample
sample_of s = (s.time, s.value)

-- the samples from the third on, by the choices of their writer
abbrev pub Steps : Type 0
Steps = List (Change × Difference)

-- the state after one of them
abbrev pub after : State → Change × Difference → State
after s x = next_state s (s.step +ℤ change_of x.0) x.1

-- how they are spelled
abbrev pub steps_text : State → Steps → List Bool
steps_text s [] = []
steps_text s (x ∷ xs) =
    (change_text x.0 ++ difference_text s.window x.1) ++ steps_text (after s x) xs

-- what they are
abbrev pub samples_after : State → Steps → List Sample
samples_after s [] = []
samples_after s (x ∷ xs) = sample_of (after s x) ∷ samples_after (after s x) xs

-- each choice fits, and the times rise
abbrev pub FitSteps : State → Steps → Type 0
FitSteps s [] = Unit {0}
FitSteps s (x ∷ xs) =
    FitsChange x.0 × FitsDifference s.window x.1 × IsNext s.time (s.step +ℤ change_of x.0)
    × FitSteps (after s x) xs

-- What follows the first sample: nothing, or a second one, of which the step is told outright, in
-- whole bytes, and the others.
pub data Later : Type 0 where
  Alone : Later
  Followed : ℕ → Difference → Steps → Later

-- the state after the first sample
abbrev pub first_state : ℤ → ℕ → State
first_state time value = record { time = time; step = pos 0; value = value; window = whole_window }

-- how many samples follow the first
abbrev pub later_count : Later → ℕ
later_count Alone = 0
later_count (Followed step d xs) = 1 + length xs

-- which samples follow the first
abbrev pub later_samples : State → Later → List Sample
later_samples s Alone = []
later_samples s (Followed step d xs) =
    let t = next_state s (pos step) d in sample_of t ∷ samples_after t xs

-- the choices after the first sample fit, and the times rise
abbrev pub FitsLater : State → Later → Type 0
FitsLater s Alone = Unit {0}
FitsLater s (Followed step d xs) =
    (step < 2 ^ 64) × FitsDifference s.window d × IsNext s.time (pos step)
    × FitSteps (next_state s (pos step) d) xs

-- up to eight bits of 0, of which the last byte is made whole
abbrev pub IsPadding : List Bool → Type 0
IsPadding bits = (n : ℕ) × (n ≤ 8) × (bits ≡ replicate n false)

-- these bytes spell what follows the first sample, to the last bit
abbrev pub SpellsLater : State → Later → List ℕ → Type 0
SpellsLater s Alone bytes = IsPadding (bits_of bytes)
SpellsLater s (Followed step d xs) bytes =
    (packed : List ℕ) × (bytes ≡ uvarint step ++ packed)
    × (padding : List Bool) × IsPadding padding
    × (bits_of packed
    ≡ difference_text s.window d ++ (steps_text (next_state s (pos step) d) xs ++ padding))

-- The data of an XOR chunk: in whole bytes the count of samples, the first time and the first
-- value; then what follows the first sample.
pub record SpellsAs (bytes : List ℕ) (time : ℤ) (value : ℕ) (later : Later) : Type 0 where
  pub rest : List ℕ
  pub text : bytes
      ≡ big_bytes 2 (1 + later_count later) ++ (varint time ++ (big_bytes 8 value ++ rest))
  pub spelled : SpellsLater (first_state time value) later rest
  pub count : later_count later < 65535
  pub time_fits : IsTime time
  pub value_fits : value < 2 ^ 64
  pub fits : FitsLater (first_state time value) later

-- the samples that these bytes spell
pub record IsXorChunk (bytes : List ℕ) (samples : List Sample) : Type 0 where
  pub time : ℤ
  pub value : ℕ
  pub later : Later
  pub spelled : SpellsAs bytes time value later
  pub meant : samples ≡ (time, value) ∷ later_samples (first_state time value) later
