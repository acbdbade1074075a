-- The times of the samples of a chunk lie between its first time and its last.
use Rattle.std.proofs.Common.{◌≡◌, ℕ, suc, ◌+◌, ◌-◌, ◌%◌, Bool, true, false, eqb, List, [], ◌∷◌}
use Rattle.std.proofs.Common.{◌++◌, length, get_or, Result, Ok, Err, inl, inr, refl, sym, ap, subst}
use Rattle.std.proofs.Common.{◌∙◌, arith}
use Rattle.std.specs.Prelude.{ℤ, pos, ◌+ℤ◌, ◌≤ℤ◌, ◌<ℤ◌, ◌==◌, ◌&&◌, ◌||◌, not}
use Rattle.std.specs.List.{AllByRecursion}
use Rattle.std.specs.Ordering.{int_eq}
use Rattle.std.proofs.lemmas.Bool.{and_parts}
use Rattle.std.proofs.lemmas.Int.{ints}
use Rattle.index_reader.specs.declared.chunk.Chunk.{Chunk}
use Rattle.wire.specs.Outcome.{◌>>=◌}
use Rattle.wire.specs.Reading.{uvarint_at}
use Rattle.wire.proofs.KnownReads.{chosen}
use Rattle.wire.proofs.Steps.{bind_ok, passed, same_value}
use Rattle.chunk_reader.specs.Frames.{framed_at}
use Rattle.chunk_reader.proofs.Spans.{int_eq-true}
use Rattle.chunk_reader.specs.declared.error.ChunkError.TheVariants.{OtherEncoding, TimesDisagree}
use Rattle.xor_reader.specs.Bits.{bits_of}
use Rattle.xor_reader.specs.Grammar.{Sample, Steps, FitSteps, after, change_of, sample_of}
use Rattle.xor_reader.specs.Grammar.{samples_after}
use Rattle.xor_reader.specs.Outcome.{or_number}
use Rattle.xor_reader.specs.Reading.{head_at, later_at, padding_at, samples_at}
use Rattle.xor_reader.specs.Reading.{steps_at, to_the_end, value_at, with_front}
use Rattle.xor_reader.specs.declared.error.XorError.{XorError}
use Rattle.xor_reader.specs.declared.step.State.{State}
use Rattle.xor_reader.proofs.Taken.{move_takes, steps_takes}
use Rattle.prometheus_block.specs.Outcome.{or_chunk, or_xor}
use Rattle.prometheus_block.specs.Reading.{Held, chunk_read, count_at, floats_at, held_in}
use Rattle.prometheus_block.specs.Reading.{spans, time_at}
use Rattle.prometheus_block.specs.declared.error.SourceError.TheVariants as source

-- no time goes back, from one on
abbrev pub Rises : ℤ → List Sample → Type 0
Rises low [] = Unit {0}
Rises low (x ∷ xs) = (low ≤ℤ x.0) × Rises x.0 xs

-- the last time, after one
abbrev pub last_after : ℤ → List Sample → ℤ
last_after low [] = low
last_after low (x ∷ xs) = last_after x.0 xs

rises_to : (low : ℤ) (xs : List Sample) → Rises low xs → low ≤ℤ last_after low xs
rises_to low [] h = let e : low ≤ℤ low = omega (arith, ints) in e
rises_to low (x ∷ xs) h =
    let r = rises_to x.0 xs h.1 in
    let l = h.0 in
    omega (arith, ints)

-- each lies between
between : (low high : ℤ) (xs : List Sample) → Rises low xs → last_after low xs ≡ high
    → AllByRecursion (λ (x : Sample). (low ≤ℤ x.0) × (x.0 ≤ℤ high)) xs
between low high [] h e = tt
between low high (x ∷ xs) h e =
    let l = h.0 in
    let r = rises_to x.0 xs h.1 in
    let up : x.0 ≤ℤ high = subst (λ (t : ℤ). x.0 ≤ℤ t) e r in
    ((l, up), lower low x.0 high xs l (between x.0 high xs h.1 e))
  where
    lower : (low next high : ℤ) (xs : List Sample) → low ≤ℤ next
        → AllByRecursion (λ (x : Sample). (next ≤ℤ x.0) × (x.0 ≤ℤ high)) xs
        → AllByRecursion (λ (x : Sample). (low ≤ℤ x.0) × (x.0 ≤ℤ high)) xs
    lower low next high [] l h = tt
    lower low next high (x ∷ xs) l h =
        let a = h.0.0 in
        let b : low ≤ℤ x.0 = omega (arith, ints) in
        ((b, h.0.1), lower low next high xs l h.1)

-- the steps of a chunk
steps_rise : (s : State) (xs : Steps) → FitSteps s xs → Rises s.time (samples_after s xs)
steps_rise s [] h = tt
steps_rise s (x ∷ xs) h =
    let later = h.2.0 in
    let up : s.time ≤ℤ (s.time +ℤ (s.step +ℤ change_of x.0)) = omega (arith, ints) in
    (up, steps_rise (after s x) xs h.3)

alone : (s : State) (bytes : List ℕ) (samples : List Sample)
    → to_the_end (Ok ([], bits_of bytes)) ≡ Ok samples → Rises s.time samples
alone s bytes samples e =
    let p = bind_ok (padding_at (bits_of bytes)) _ samples e in
    let none : List Sample = [] in
    subst (Rises s.time) (same_value none samples p.2) tt

followed : (n : ℕ) (s : State) (bytes : List ℕ) (samples : List Sample)
    → (or_number (uvarint_at bytes) >>= λ step. value_at s (pos step.0) (bits_of step.1) >>= λ x.
    to_the_end (with_front (sample_of x.0 ∷ []) (steps_at (n - 2) x.0 x.1))) ≡ Ok samples
    → Rises s.time samples
followed n s bytes samples h =
    let u = bind_ok (or_number (uvarint_at bytes)) _ samples h in
    let v = bind_ok (value_at s (pos u.0.0) (bits_of u.0.1)) _ samples u.2 in
    let m = move_takes s (pos u.0.0) (bits_of u.0.1) v.0 v.1 in
    let w =
    bind_ok (with_front (sample_of v.0.0 ∷ []) (steps_at (n - 2) v.0.0 v.0.1)) _ samples v.2 in
    let q = bind_ok (padding_at w.0.1) _ samples w.2 in
    let x = bind_ok (steps_at (n - 2) v.0.0 v.0.1) _ w.0 w.1 in
    let k = steps_takes (n - 2) v.0.0 v.0.1 x.0 x.1 in
    let made : List Sample × List Bool = (sample_of v.0.0 ∷ x.0.0, x.0.1) in
    let one = same_value made w.0 x.2 in
    let two = same_value w.0.0 samples q.2 in
    let rest : Rises v.0.0.time x.0.0 =
    subst (Rises v.0.0.time) (sym k.is) (steps_rise v.0.0 k.steps k.fits) in
    let at : v.0.0.time ≡ s.time +ℤ pos u.0.0 = ap (λ (y : State). y.time) m.is in
    let later = m.next.0 in
    let low : s.time ≤ℤ v.0.0.time = omega (arith, ints) in
    let all : Rises s.time (sample_of v.0.0 ∷ x.0.0) = (low, rest) in
    subst (Rises s.time) (ap (λ (p : List Sample × List Bool). p.0) one ∙ two) all

-- what follows the first sample
later_rises : (n : ℕ) (s : State) (bytes : List ℕ) (samples : List Sample)
    → later_at n s bytes ≡ Ok samples → Rises s.time samples
unfolding later_at
later_rises n s bytes samples h =
    elim (chosen (eqb n 1) _ _ _ h) [
      | inl t ↦ alone s bytes samples t.1
      | inr t ↦ followed n s bytes samples t.1
    ]

-- the samples of a chunk: the first, and those after it
record RisesFrom (samples : List Sample) : Type 0 where
  first : Sample
  later : List Sample
  is : samples ≡ first ∷ later
  rises : Rises first.0 later

samples_rise : (bytes : List ℕ) (samples : List Sample) → samples_at bytes ≡ Ok samples
    → RisesFrom samples
unfolding samples_at
samples_rise bytes samples h =
    let a = bind_ok (head_at bytes) _ samples h in
    let b = bind_ok (later_at a.0.0.0 a.0.0.1 a.0.1) _ samples a.2 in
    record {
      first = sample_of a.0.0.1;
      later = b.0;
      is = sym (same_value (sample_of a.0.0.1 ∷ b.0) samples b.2);
      rises = later_rises a.0.0.0 a.0.0.1 a.0.1 b.0 b.1;
    }

-- the time at the last place
last_at : (x : Sample) (xs : List Sample) → time_at (x ∷ xs) (length xs) ≡ last_after x.0 xs
last_at x [] = refl
last_at x (y ∷ ys) = last_at y ys

xor_ok : {A : Type 0} (r : Result A XorError) (x : A) → or_xor r ≡ Ok x → r ≡ Ok x
xor_ok (Ok y) x h = cc
xor_ok (Err f) x h = absurd cc

-- the samples of an XOR chunk lie in its times
abbrev pub LieIn : Chunk → List Sample → Type 0
LieIn c samples =
    AllByRecursion (λ (x : Sample). (c.mint ≤ℤ x.0) × (x.0 ≤ℤ c.maxt)) samples

spanned : (c : Chunk) (samples : List Sample) → RisesFrom samples → spans c samples ≡ true
    → LieIn c samples
spanned c samples r h =
    let all = r.first ∷ r.later in
    let s : spans c all ≡ true = subst (λ (xs : List Sample). spans c xs ≡ true) r.is h in
    let p =
    and_parts (not (length all == 0))
    (int_eq (time_at all 0) c.mint && int_eq (time_at all (length all - 1)) c.maxt) s in
    let q =
    and_parts (int_eq (time_at all 0) c.mint) (int_eq (time_at all (length all - 1)) c.maxt) p.1 in
    let place : length r.later ≡ length all - 1 = omega arith in
    let first : r.first.0 ≡ c.mint = int_eq-true r.first.0 c.mint q.0 in
    let last : last_after r.first.0 r.later ≡ c.maxt =
    sym (last_at r.first r.later) ∙ ap (time_at all) place
    ∙ int_eq-true (time_at all (length all - 1)) c.maxt q.1 in
    let low : c.mint ≤ℤ r.first.0 = omega (arith, ints) in
    let up = rises_to r.first.0 r.later r.rises in
    let high : r.first.0 ≤ℤ c.maxt = subst (λ (t : ℤ). r.first.0 ≤ℤ t) last up in
    let rest =
    subst (λ (t : ℤ). AllByRecursion (λ (x : Sample). (t ≤ℤ x.0) × (x.0 ≤ℤ c.maxt)) r.later)
    first (between r.first.0 c.maxt r.later r.rises last) in
    subst (LieIn c) (sym r.is) ((low, high), rest)

floats_lie : (c : Chunk) (body : List ℕ) (samples : List Sample)
    → floats_at c body ≡ Ok samples → LieIn c samples
unfolding floats_at
floats_lie c body samples h =
    let a = bind_ok (or_xor (samples_at body)) _ samples h in
    let p = passed (spans c a.0) (source.Chunk TimesDisagree) _ samples a.2 in
    subst (LieIn c) (same_value a.0 samples p.1)
    (spanned c a.0 (samples_rise body a.0 (xor_ok (samples_at body) a.0 a.1)) p.0)

held_lie : (c : Chunk) (encoding : ℕ) (body : List ℕ) (samples : List Sample) (histograms : ℕ)
    → held_in c encoding body ≡ Ok (samples, histograms) → LieIn c samples
unfolding held_in
held_lie c encoding body samples histograms h =
    let whole : Held = (samples, histograms) in
    elim (chosen (encoding == 1) _ _ _ h) [
      | inl t ↦
          let a = bind_ok (floats_at c body) _ whole t.1 in
          let made : Held = (a.0, 0) in
          subst (LieIn c) (ap (λ (p : Held). p.0) (same_value made whole a.2))
          (floats_lie c body a.0 a.1)
      | inr t ↦
          let p =
          passed (encoding == 2 || encoding == 3) (source.Chunk OtherEncoding) _ whole t.1 in
          let a = bind_ok (count_at body) _ whole p.1 in
          let made : Held = ([], a.0) in
          subst (LieIn c) (ap (λ (q : Held). q.0) (same_value made whole a.2)) tt
    ]

pub chunk_lies : (segment : List ℕ) (c : Chunk) (samples : List Sample) (histograms : ℕ)
    → chunk_read segment c ≡ Ok (samples, histograms) → LieIn c samples
unfolding chunk_read
chunk_lies segment c samples histograms h =
    let a = bind_ok (or_chunk (framed_at segment (c.reference % 0x1_0000_0000))) _
    (samples, histograms) h in
    held_lie c a.0.0 a.0.1 samples histograms a.2
