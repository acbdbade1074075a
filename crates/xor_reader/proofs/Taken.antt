-- What is read is what is spelled.
use Rattle.std.proofs.Common.{◌≡◌, ℕ, zero, suc, ◌+◌, ◌-◌, ◌*◌, ◌/◌, ◌%◌, ◌^◌, ◌<◌, Bool, true}
use Rattle.std.proofs.Common.{false, eqb, ltb, leb, cond, List, [], ◌∷◌, ◌++◌, length, take, drop}
use Rattle.std.proofs.Common.{replicate, Option, Some, None, Result, Ok, Err, refl, sym, ap, subst}
use Rattle.std.proofs.Common.{◌∙◌, inl, inr, arith, append_assoc, length-take}
use Rattle.std.specs.Prelude.{ℤ, pos, ◌+ℤ◌, int_lt, int_le, not}
use Rattle.std.proofs.lemmas.Bool.{ltb-false, leb-true, eqb-true, eqb-false, and_parts, not-false}
use Rattle.std.proofs.lemmas.Nat.{shr_high, mod_low, pow_pos}
use Rattle.std.proofs.lemmas.List.{take-append-drop}
use Rattle.labels.specs.Contents.{is_time}
use Rattle.labels.specs.declared.sample.TheConstants.{MAX_TIME}
use Rattle.byteorder.specs.Endian.{big_bytes}
use Rattle.wire.specs.declared.error.WireError.{WireError}
use Rattle.wire.specs.Reading.{uvarint_at, varint_at, number_at, byte_at}
use Rattle.wire.specs.Spelling.{varint, IsBytes}
use Rattle.wire.specs.Outcome.{◌>>=◌}
use Rattle.wire.proofs.KnownReads.{chosen}
use Rattle.wire.proofs.Steps.{bind_ok, passed, not_failed, same_value, rest_fits}
use Rattle.wire.proofs.Laws.{uvarint_takes}
use Rattle.wire.proofs.Signed.{varint_takes}
use Rattle.wire.proofs.Fields.{number_takes_8}
use Rattle.xor_reader.specs.declared.error.XorError.{XorError}
use Rattle.xor_reader.specs.declared.error.XorError.TheVariants.{Short, Empty, NotAscending}
use Rattle.xor_reader.specs.declared.error.XorError.TheVariants.{OutOfRange, Window as BadWindow}
use Rattle.xor_reader.specs.declared.error.XorError.TheVariants.{Trailing}
use Rattle.xor_reader.specs.declared.step.Form.{Form}
use Rattle.xor_reader.specs.declared.step.Form.TheVariants.{Bits14, Bits17, Bits20, Bits64}
use Rattle.xor_reader.specs.declared.step.Window.{Window}
use Rattle.xor_reader.specs.declared.step.State.{State}
use Rattle.std.specs.Prelude.{IfOk}
use Rattle.xor_reader.specs.Outcome.{or_number, Gives}
use Rattle.xor_reader.specs.Bits.{field, bits_of, bits_at, number, is_padding}
use Rattle.xor_reader.specs.Grammar.{Sample, width, prefix, signed, Change, Stays, Changes}
use Rattle.xor_reader.specs.Grammar.{change_text, change_of, FitsChange, Difference, Repeats}
use Rattle.xor_reader.specs.Grammar.{Within, Anew, difference_text, window_after, value_after}
use Rattle.xor_reader.specs.Grammar.{with_difference, IsWindow, FitsDifference, IsNext, IsTime}
use Rattle.xor_reader.specs.Grammar.{next_state, sample_of, Steps, after, steps_text, samples_after}
use Rattle.xor_reader.specs.Grammar.{FitSteps, Later, Alone, Followed, later_count, later_samples}
use Rattle.xor_reader.specs.Grammar.{FitsLater, SpellsLater, IsPadding, first_state, IsXorChunk}
use Rattle.xor_reader.specs.Reading.{form_at, change_at, change_in_form_at, window_at, scope_at}
use Rattle.xor_reader.specs.Reading.{difference_at, next_time, value_at, step_at, steps_at}
use Rattle.xor_reader.specs.Reading.{with_front, later_at, head_at, samples_at, padding_at}
use Rattle.xor_reader.specs.Reading.{to_the_end}
use Rattle.xor_reader.proofs.Fields.{field_mod}
use Rattle.xor_reader.proofs.Takes.{number_lt, bits_lt}

abbrev read : {A : Type 0} → A → List Bool → Result (A × List Bool) XorError
read a rest = Ok (a, rest)

field_of_number : (bits : List Bool) → field (length bits) (number bits) ≡ bits
unfolding field number
field_of_number [] = refl
field_of_number (b ∷ bits) =
    let k = length bits in
    let m = number bits in
    let lt = number_lt bits in
    let high : ℕ = cond b 1 0 in
    let whole : cond b (2 ^ k) 0 + m ≡ high * 2 ^ k + m = elim b as (λ (x : Bool). cond x (2 ^ k) 0 + m ≡ cond x 1 0 * 2 ^ k + m) [ true ↦ omega arith | false ↦ omega arith ] in
    let top : (cond b (2 ^ k) 0 + m) / 2 ^ k ≡ high = ap (λ (x : ℕ). x / 2 ^ k) whole ∙ shr_high high k m lt in
    let low : field k (cond b (2 ^ k) 0 + m) ≡ bits =
    ap (field k) whole ∙ sym (field_mod k (high * 2 ^ k + m)) ∙ ap (field k) (mod_low high k m lt) ∙ field_of_number bits in
    let first : eqb (high % 2) 1 ≡ b = elim b as (λ (x : Bool). eqb (cond x 1 0 % 2) 1 ≡ x) [ true ↦ refl | false ↦ refl ] in
    rw (top, first, low) refl

bits_takes : (n : ℕ) (bits : List Bool) (x : ℕ × List Bool) → bits_at n bits ≡ Ok x
    → (bits ≡ field n x.0 ++ x.1) × (x.0 < 2 ^ n)
bits_takes n bits x h =
    let t = not_failed (ltb (length bits) n) Short _ x h in
    let long = ltb-false (length bits) n t.0 in
    let same = same_value (number (take n bits), drop n bits) x t.1 in
    let len : length (take n bits) ≡ n = simp length-take (grind arith) in
    let front : field n x.0 ≡ take n bits =
    ap (field n) (sym (ap (λ (p : ℕ × List Bool). p.0) same))
    ∙ ap (λ (k : ℕ). field k (number (take n bits))) (sym len)
    ∙ field_of_number (take n bits) in
    let back : drop n bits ≡ x.1 = ap (λ (p : ℕ × List Bool). p.1) same in (
      sym (ap (λ (t : List Bool). t ++ x.1) front ∙ ap (λ (t : List Bool). take n bits ++ t) (sym back) ∙ take-append-drop n bits),
      bits_lt n bits x.1 x.0 h,
    )

form_text : Option Form → List Bool
form_text None = false ∷ []
form_text (Some form) = prefix form

form_takes : (bits : List Bool) (x : Option Form × List Bool) → form_at bits ≡ Ok x
    → bits ≡ form_text x.0 ++ x.1
unfolding form_at form_text
form_takes [] x h = absurd cc
form_takes (false ∷ bits) x h = ap (λ (p : Option Form × List Bool). form_text p.0 ++ p.1) (same_value (None, bits) x h)
form_takes (true ∷ []) x h = absurd cc
form_takes (true ∷ false ∷ bits) x h = ap (λ (p : Option Form × List Bool). form_text p.0 ++ p.1) (same_value (Some Bits14, bits) x h)
form_takes (true ∷ true ∷ []) x h = absurd cc
form_takes (true ∷ true ∷ false ∷ bits) x h = ap (λ (p : Option Form × List Bool). form_text p.0 ++ p.1) (same_value (Some Bits17, bits) x h)
form_takes (true ∷ true ∷ true ∷ []) x h = absurd cc
form_takes (true ∷ true ∷ true ∷ false ∷ bits) x h = ap (λ (p : Option Form × List Bool). form_text p.0 ++ p.1) (same_value (Some Bits20, bits) x h)
form_takes (true ∷ true ∷ true ∷ true ∷ bits) x h = ap (λ (p : Option Form × List Bool). form_text p.0 ++ p.1) (same_value (Some Bits64, bits) x h)

pub record TakesChange (bits : List Bool) (x : ℤ × List Bool) : Type 0 where
  pub change : Change
  pub text : bits ≡ change_text change ++ x.1
  pub fits : FitsChange change
  pub is : x.0 ≡ change_of change

told_takes : (o : Option Form) (bits rest : List Bool) (x : ℤ × List Bool) → bits ≡ form_text o ++ rest
    → change_in_form_at o rest ≡ Ok x → TakesChange bits x
unfolding form_text
told_takes None bits rest x e h =
    let same = same_value (pos 0, rest) x h in
    record {
      change = Stays;
      text = e ∙ ap (λ (p : ℤ × List Bool). false ∷ p.1) same;
      fits = tt;
      is = sym (ap (λ (p : ℤ × List Bool). p.0) same);
    }
told_takes (Some form) bits rest x e h =
    let b = bind_ok (bits_at (width form) rest) _ x h in
    let t = bits_takes (width form) rest b.0 b.1 in
    let same = same_value (signed form b.0.0, b.0.1) x b.2 in
    let raw = field (width form) b.0.0 in
    record {
      change = Changes form b.0.0;
      text =
          e ∙ ap (λ (r : List Bool). prefix form ++ r) t.0 ∙ sym (append_assoc (prefix form) raw b.0.1)
          ∙ ap (λ (p : ℤ × List Bool). (prefix form ++ raw) ++ p.1) same;
      fits = t.1;
      is = sym (ap (λ (p : ℤ × List Bool). p.0) same);
    }

pub change_takes : (bits : List Bool) (x : ℤ × List Bool) → change_at bits ≡ Ok x → TakesChange bits x
unfolding change_at
change_takes bits x h =
    let f = bind_ok (form_at bits) _ x h in
    told_takes f.0.0 bits f.0.1 x (form_takes bits f.0 f.1) f.2

pub record TakesWindow (bits : List Bool) (x : Window × List Bool) : Type 0 where
  pub text : bits ≡ field 5 x.0.leading ++ (field 6 (x.0.significant % 64) ++ x.1)
  pub leading : x.0.leading < 32
  pub is : IsWindow x.0

len_of : (told : ℕ) → told < 64
    → (cond (eqb told 0) 64 told % 64 ≡ told) × (0 < cond (eqb told 0) 64 told)
len_of zero lt = (refl, omega arith)
len_of (suc told) lt =
    let no : eqb (suc told) 0 ≡ false = grind arith in
    rw no (omega arith, omega arith)

window_takes : (bits : List Bool) (x : Window × List Bool) → window_at bits ≡ Ok x → TakesWindow bits x
unfolding window_at
window_takes bits x h =
    let a = bind_ok (bits_at 5 bits) _ x h in
    let b = bind_ok (bits_at 6 a.0.1) _ x a.2 in
    let told = b.0.0 in
    let len = cond (eqb told 0) 64 told in
    let t = not_failed (ltb 64 (a.0.0 + len)) BadWindow _ x b.2 in
    let made : Window × List Bool = (record { leading = a.0.0; significant = len }, b.0.1) in
    let same = same_value made x t.1 in
    let one = bits_takes 5 bits a.0 a.1 in
    let two = bits_takes 6 a.0.1 b.0 b.1 in
    let l = len_of told (omega (arith, two.1)) in
    let done : TakesWindow bits made = record {
      text =
          one.0 ∙ ap (λ (r : List Bool). field 5 a.0.0 ++ r) (two.0
          ∙ ap (λ (k : ℕ). field 6 k ++ b.0.1) (sym l.0));
      leading = omega (arith, one.1);
      is = (l.1, ltb-false 64 (a.0.0 + len) t.0);
    } in
    subst (TakesWindow bits) same done

pub record TakesDifference (value : ℕ) (w : Window) (bits : List Bool) (x : (ℕ × Window) × List Bool) : Type 0 where
  pub difference : Difference
  pub text : bits ≡ difference_text w difference ++ x.1
  pub fits : FitsDifference w difference
  pub is : x.0 ≡ (value_after w value difference, window_after w difference)

pub difference_takes : (value : ℕ) (w : Window) (bits : List Bool) (x : (ℕ × Window) × List Bool)
    → difference_at value w bits ≡ Ok x → TakesDifference value w bits x
unfolding difference_at scope_at
difference_takes value w [] x h = absurd cc
difference_takes value w (false ∷ bits) x h =
    let same = same_value ((value, w), bits) x h in
    subst (TakesDifference value w (false ∷ bits)) same
    (record { difference = Repeats; text = refl; fits = tt; is = refl })
difference_takes value w (true ∷ []) x h = absurd cc
difference_takes value w (true ∷ false ∷ bits) x h =
    let b = bind_ok (bits_at w.significant bits) _ x h in
    let t = bits_takes w.significant bits b.0 b.1 in
    let same = same_value ((with_difference w value b.0.0, w), b.0.1) x b.2 in
    subst (TakesDifference value w (true ∷ false ∷ bits)) same
    (record {
      difference = Within b.0.0;
      text = ap (λ (r : List Bool). true ∷ false ∷ r) t.0;
      fits = t.1;
      is = refl;
    })
difference_takes value w (true ∷ true ∷ bits) x h =
    let v = bind_ok (window_at bits) _ x h in
    let n = v.0.0 in
    let b = bind_ok (bits_at n.significant v.0.1) _ x v.2 in
    let s = window_takes bits v.0 v.1 in
    let t = bits_takes n.significant v.0.1 b.0 b.1 in
    let same = same_value ((with_difference n value b.0.0, n), b.0.1) x b.2 in
    let leading = field 5 n.leading in
    let told = field 6 (n.significant % 64) in
    let raw = field n.significant b.0.0 in
    let parts : bits ≡ (leading ++ (told ++ raw)) ++ b.0.1 =
    s.text
    ∙ ap (λ (r : List Bool). leading ++ (told ++ r)) t.0
    ∙ ap (λ (r : List Bool). leading ++ r) (sym (append_assoc told raw b.0.1))
    ∙ sym (append_assoc leading (told ++ raw) b.0.1) in
    subst (TakesDifference value w (true ∷ true ∷ bits)) same
    (record {
      difference = Anew n b.0.0;
      text = ap (λ (r : List Bool). true ∷ true ∷ r) parts;
      fits = (s.leading, s.is, t.1);
      is = refl;
    })

next_takes : (time step u : ℤ) → next_time time step ≡ Ok u → IsNext time step × ((time +ℤ step) ≡ u)
unfolding next_time
next_takes time step u h =
    let a = passed (int_lt (pos 0) step) NotAscending _ u h in
    let b = passed (int_le (time +ℤ step) MAX_TIME) OutOfRange _ u a.1 in
    ((grind (arith, a.0), grind (arith, b.0)), same_value (time +ℤ step) u b.1)

pub record TakesMove (s : State) (step : ℤ) (bits : List Bool) (x : State × List Bool) : Type 0 where
  pub difference : Difference
  pub text : bits ≡ difference_text s.window difference ++ x.1
  pub fits : FitsDifference s.window difference
  pub next : IsNext s.time step
  pub is : x.0 ≡ next_state s step difference

pub move_takes : (s : State) (step : ℤ) (bits : List Bool) (x : State × List Bool)
    → value_at s step bits ≡ Ok x → TakesMove s step bits x
unfolding value_at
move_takes s step bits x h =
    let t = bind_ok (next_time s.time step) _ x h in
    let d = bind_ok (difference_at s.value s.window bits) _ x t.2 in
    let n = next_takes s.time step t.0 t.1 in
    let k = difference_takes s.value s.window bits d.0 d.1 in
    let made : State × List Bool = (record { time = t.0; step = step; value = d.0.0.0; window = d.0.0.1 }, d.0.1) in
    let same = same_value made x d.2 in
    subst (TakesMove s step bits) same
    (record {
      difference = k.difference;
      text = k.text;
      fits = k.fits;
      next = n.0;
      is =
          ap (λ (u : ℤ). let y : State = record { time = u; step = step; value = d.0.0.0; window = d.0.0.1 } in y) (sym n.1)
          ∙ ap (λ (p : ℕ × Window). let y : State = record { time = s.time +ℤ step; step = step; value = p.0; window = p.1 } in y) k.is;
    })

pub record TakesSteps (n : ℕ) (s : State) (bits : List Bool) (x : List Sample × List Bool) : Type 0 where
  pub steps : Steps
  pub long : length steps ≡ n
  pub text : bits ≡ steps_text s steps ++ x.1
  pub fits : FitSteps s steps
  pub is : x.0 ≡ samples_after s steps

pub record TakesStep (s : State) (bits : List Bool) (x : State × List Bool) : Type 0 where
  pub step : Change × Difference
  pub text : bits ≡ (change_text step.0 ++ difference_text s.window step.1) ++ x.1
  pub change_fits : FitsChange step.0
  pub fits : FitsDifference s.window step.1
  pub next : IsNext s.time (s.step +ℤ change_of step.0)
  pub is : x.0 ≡ after s step

step_takes : (s : State) (bits : List Bool) (x : State × List Bool) → step_at s bits ≡ Ok x
    → TakesStep s bits x
unfolding step_at
step_takes s bits x h =
    let c = bind_ok (change_at bits) _ x h in
    let k = change_takes bits c.0 c.1 in
    let e = ap (λ (z : ℤ). s.step +ℤ z) k.is in
    let m = subst (λ (z : ℤ). TakesMove s z c.0.1 x) e (move_takes s (s.step +ℤ c.0.0) c.0.1 x c.2) in
    let d = difference_text s.window m.difference in
    record {
      step = (k.change, m.difference);
      text =
          k.text ∙ ap (λ (r : List Bool). change_text k.change ++ r) m.text
          ∙ sym (append_assoc (change_text k.change) d x.1);
      change_fits = k.fits;
      fits = m.fits;
      next = m.next;
      is = m.is;
    }

pub steps_takes : (n : ℕ) (s : State) (bits : List Bool) (x : List Sample × List Bool)
    → steps_at n s bits ≡ Ok x → TakesSteps n s bits x
unfolding steps_at
steps_takes zero s bits x h =
    let none : List Sample × List Bool = ([], bits) in
    subst (TakesSteps zero s bits) (same_value none x h)
    (record { steps = []; long = refl; text = refl; fits = tt; is = refl })
steps_takes (suc n) s bits x h =
    let a = bind_ok (step_at s bits) _ x h in
    let k = step_takes s bits a.0 a.1 in
    let b = bind_ok (steps_at n a.0.0 a.0.1) _ x a.2 in
    let t = after s k.step in
    let r =
    subst (λ (u : State). TakesSteps n u a.0.1 b.0) k.is (steps_takes n a.0.0 a.0.1 b.0 b.1) in
    let text = change_text k.step.0 ++ difference_text s.window k.step.1 in
    let made : List Sample × List Bool = (sample_of a.0.0 ∷ b.0.0, b.0.1) in
    subst (TakesSteps (suc n) s bits) (same_value made x b.2)
    (record {
      steps = k.step ∷ r.steps;
      long = ap suc r.long;
      text =
          k.text ∙ ap (λ (y : List Bool). text ++ y) r.text
          ∙ sym (append_assoc text (steps_text t r.steps) b.0.1);
      fits = (k.change_fits, k.fits, k.next, r.fits);
      is =
          ap (λ (u : State). sample_of u ∷ b.0.0) k.is
          ∙ ap (λ (ys : List Sample). sample_of t ∷ ys) r.is;
    })

zeros_of : (bits : List Bool) → number bits ≡ 0 → bits ≡ replicate (length bits) false
unfolding number
zeros_of [] e = refl
zeros_of (true ∷ bits) e = absurd (let h = pow_pos (length bits) in omega arith)
zeros_of (false ∷ bits) e =
    let h : number bits ≡ 0 = omega arith in
    ap (λ (t : List Bool). false ∷ t) (zeros_of bits h)

pub padding_takes : (bits : List Bool) → is_padding bits ≡ true → IsPadding bits
unfolding is_padding
padding_takes bits h =
    let p = and_parts (leb (length bits) 8) (eqb (number bits) 0) h in
    (length bits, leb-true (length bits) 8 p.0, zeros_of bits (eqb-true (number bits) 0 p.1))

number_ok : {A : Type 0} (r : Result A WireError) (x : A) → or_number r ≡ Ok x → r ≡ Ok x
number_ok (Ok y) x h = cc
number_ok (Err f) x h = absurd cc

pub record TakesLater (n : ℕ) (s : State) (bytes : List ℕ) (samples : List Sample) : Type 0 where
  pub later : Later
  pub many : n ≡ 1 + later_count later
  pub spelled : SpellsLater s later bytes
  pub fits : FitsLater s later
  pub is : samples ≡ later_samples s later

positive : (n : ℕ) → (n ≡ 0 → ⊥) → 0 < n
positive n h = grind arith

two_at_least : (n : ℕ) → 0 < n → eqb n 1 ≡ false → n ≡ 1 + (1 + (n - 2))
two_at_least zero some apart = absurd (omega arith)
two_at_least (suc zero) some apart = absurd cc
two_at_least (suc (suc n)) some apart = omega arith

followed : (n : ℕ) (s : State) (bytes : List ℕ) (samples : List Sample) → 0 < n → IsBytes bytes
    → eqb n 1 ≡ false
    → (or_number (uvarint_at bytes) >>= λ step. value_at s (pos step.0) (bits_of step.1) >>= λ x.
    to_the_end (with_front (sample_of x.0 ∷ []) (steps_at (n - 2) x.0 x.1))) ≡ Ok samples
    → TakesLater n s bytes samples
followed n s bytes samples some fits apart h =
    let u = bind_ok (or_number (uvarint_at bytes)) _ samples h in
    let step = u.0.0 in
    let packed = u.0.1 in
    let a = uvarint_takes bytes step packed fits (number_ok (uvarint_at bytes) u.0 u.1) in
    let v = bind_ok (value_at s (pos step) (bits_of packed)) _ samples u.2 in
    let m = move_takes s (pos step) (bits_of packed) v.0 v.1 in
    let w = bind_ok (with_front (sample_of v.0.0 ∷ []) (steps_at (n - 2) v.0.0 v.0.1)) _ samples v.2 in
    let q = bind_ok (padding_at w.0.1) _ samples w.2 in
    let padded = passed (is_padding w.0.1) Trailing _ _ q.1 in
    let x = bind_ok (steps_at (n - 2) v.0.0 v.0.1) _ w.0 w.1 in
    let d = m.difference in
    let t = next_state s (pos step) d in
    let k =
    subst (λ (y : State). TakesSteps (n - 2) y v.0.1 x.0) m.is
    (steps_takes (n - 2) v.0.0 v.0.1 x.0 x.1) in
    let made : List Sample × List Bool = (sample_of v.0.0 ∷ x.0.0, x.0.1) in
    let one = same_value made w.0 x.2 in
    let two = same_value w.0.0 samples q.2 in
    let text = difference_text s.window d in
    record {
      later = Followed step d k.steps;
      many = two_at_least n some apart ∙ ap (λ (j : ℕ). 1 + (1 + j)) (sym k.long);
      spelled = (
        packed,
        a.0,
        w.0.1,
        padding_takes w.0.1 padded.0,
        m.text ∙ ap (λ (r : List Bool). text ++ r) (k.text
            ∙ ap (λ (p : List Sample × List Bool). steps_text t k.steps ++ p.1) one),
      );
      fits = (a.1, m.fits, m.next, k.fits);
      is =
          sym two ∙ sym (ap (λ (p : List Sample × List Bool). p.0) one)
          ∙ ap (λ (y : State). sample_of y ∷ x.0.0) m.is
          ∙ ap (λ (ys : List Sample). sample_of t ∷ ys) k.is;
    }

pub later_takes : (n : ℕ) (s : State) (bytes : List ℕ) (samples : List Sample) → 0 < n → IsBytes bytes
    → later_at n s bytes ≡ Ok samples → TakesLater n s bytes samples
unfolding later_at
later_takes n s bytes samples some fits h =
    elim (chosen (eqb n 1) _ _ _ h) [
      | inl t ↦
          let p = passed (is_padding (bits_of bytes)) Trailing _ _ (bind_ok (padding_at (bits_of bytes)) _ samples t.1).1 in
          let none : List Sample = [] in
          let same = same_value none samples (bind_ok (padding_at (bits_of bytes)) _ samples t.1).2 in
          record {
            later = Alone;
            many = eqb-true n 1 t.0;
            spelled = padding_takes (bits_of bytes) p.0;
            fits = tt;
            is = sym same;
          }
      | inr t ↦
          followed n s bytes samples some fits t.0 t.1
    ]

byte_takes : (bytes : List ℕ) (x : ℕ × List ℕ) → byte_at bytes ≡ Ok x → bytes ≡ x.0 ∷ x.1
byte_takes [] x h = absurd cc
byte_takes (b ∷ bytes) x h = ap (λ (p : ℕ × List ℕ). p.0 ∷ p.1) (same_value (b, bytes) x h)

is_time_of : (t : ℤ) → is_time t ≡ true → IsTime t
is_time_of t h = (grind (arith, h), grind (arith, h))

pub record TakesHead (bytes : List ℕ) (x : (ℕ × State) × List ℕ) : Type 0 where
  pub time : ℤ
  pub value : ℕ
  pub some : 0 < x.0.0
  pub few : x.0.0 < 65536
  pub text : bytes ≡ big_bytes 2 x.0.0 ++ (varint time ++ (big_bytes 8 value ++ x.1))
  pub time_fits : IsTime time
  pub value_fits : value < 2 ^ 64
  pub rest_fits : IsBytes x.1
  pub is : x.0.1 ≡ first_state time value

two_of : (high low : ℕ) (rest : List ℕ) → high < 256 → low < 256
    → high ∷ low ∷ rest ≡ big_bytes 2 (high * 256 + low) ++ rest
two_of high low rest lt_high lt_low =
    let a : (high * 256 + low) / 256 % 256 ≡ high = omega arith in
    let b : (high * 256 + low) % 256 ≡ low = omega arith in
    rw (a, b) refl

head_takes : (bytes : List ℕ) (x : (ℕ × State) × List ℕ) → IsBytes bytes → head_at bytes ≡ Ok x
    → TakesHead bytes x
unfolding head_at
head_takes bytes x fits h =
    let a = bind_ok (or_number (byte_at bytes)) _ x h in
    let b = bind_ok (or_number (byte_at a.0.1)) _ x a.2 in
    let n = a.0.0 * 256 + b.0.0 in
    let c = not_failed (eqb n 0) Empty _ x b.2 in
    let t = bind_ok (or_number (varint_at b.0.1)) _ x c.1 in
    let i = not_failed (not (is_time t.0.0)) OutOfRange _ x t.2 in
    let v = bind_ok (or_number (number_at 8 t.0.1)) _ x i.1 in
    let one = byte_takes bytes a.0 (number_ok (byte_at bytes) a.0 a.1) in
    let fits_a = subst IsBytes one fits in
    let two = byte_takes a.0.1 b.0 (number_ok (byte_at a.0.1) b.0 b.1) in
    let fits_b = subst IsBytes two (λ k. fits_a (suc k)) in
    let three = varint_takes b.0.1 t.0.0 t.0.1 (λ k. fits_b (suc k)) (number_ok (varint_at b.0.1) t.0 t.1) in
    let fits_t = rest_fits b.0.1 (varint t.0.0) t.0.1 (λ k. fits_b (suc k)) three.0 in
    let four = number_takes_8 t.0.1 v.0.0 v.0.1 fits_t (number_ok (number_at 8 t.0.1) v.0 v.1) in
    let made : (ℕ × State) × List ℕ = ((n, first_state t.0.0 v.0.0), v.0.1) in
    let high : a.0.0 < 256 = fits_a 0 in
    let low : b.0.0 < 256 = fits_b 0 in
    let text : bytes ≡ big_bytes 2 n ++ (varint t.0.0 ++ (big_bytes 8 v.0.0 ++ v.0.1)) =
    one ∙ ap (λ (r : List ℕ). a.0.0 ∷ r) two
    ∙ two_of a.0.0 b.0.0 b.0.1 high low
    ∙ ap (λ (r : List ℕ). big_bytes 2 n ++ r) (three.0 ∙ ap (λ (r : List ℕ). varint t.0.0 ++ r) four.0) in
    subst (TakesHead bytes) (same_value made x v.2)
    (record {
      time = t.0.0;
      value = v.0.0;
      some = positive n (eqb-false n 0 c.0);
      few = omega (arith, high, low);
      text = text;
      time_fits = is_time_of t.0.0 (not-false (is_time t.0.0) i.0);
      value_fits = four.1;
      rest_fits = rest_fits t.0.1 (big_bytes 8 v.0.0) v.0.1 fits_t four.0;
      is = refl;
    })

pub chunk_takes : (bytes : List ℕ) (samples : List Sample) → IsBytes bytes
    → samples_at bytes ≡ Ok samples → IsXorChunk bytes samples
unfolding samples_at
chunk_takes bytes samples fits h =
    let a = bind_ok (head_at bytes) _ samples h in
    let x = head_takes bytes a.0 fits a.1 in
    let b = bind_ok (later_at a.0.0.0 a.0.0.1 a.0.1) _ samples a.2 in
    let l =
    subst (λ (s : State). TakesLater a.0.0.0 s a.0.1 b.0) x.is
    (later_takes a.0.0.0 a.0.0.1 a.0.1 b.0 x.some x.rest_fits b.1) in
    let same = same_value (sample_of a.0.0.1 ∷ b.0) samples b.2 in
    record {
      time = x.time;
      value = x.value;
      later = l.later;
      spelled = record {
        rest = a.0.1;
        text = subst (λ (n : ℕ). bytes ≡ big_bytes 2 n ++ (varint x.time ++ (big_bytes 8 x.value ++ a.0.1))) l.many x.text;
        spelled = l.spelled;
        count = omega (arith, l.many, x.few);
        time_fits = x.time_fits;
        value_fits = x.value_fits;
        fits = l.fits;
      };
      meant =
          sym same
          ∙ ap (λ (s : State). sample_of s ∷ b.0) x.is
          ∙ ap (λ (ys : List Sample). (x.time, x.value) ∷ ys) l.is;
    }

-- what a call that gave what reading gives has found
pub found_in : {V : Type 0} (view : V → List Sample) (bytes : List ℕ) (r : Result V XorError)
    → IsBytes bytes → Gives view r (samples_at bytes) → IfOk r (λ v. IsXorChunk bytes (view v))
found_in view bytes (Ok v) fits h = chunk_takes bytes (view v) fits h
found_in view bytes (Err e) fits h = tt
