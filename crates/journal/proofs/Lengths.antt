-- A length that is read is the one spelled, and a spelled length is read. Why none is.
use Rattle.std.proofs.Common.{◌≡◌, ◌⊎◌, inl, inr, ℕ, zero, suc, ◌^◌, ◌<◌, ◌≤◌, Bool, true}
use Rattle.std.proofs.Common.{false, cond, eqb, ◌&&◌, List, [], ◌∷◌, ◌++◌, length, take, drop}
use Rattle.std.proofs.Common.{get_or, Result, Ok, Err, refl, sym, ap, subst, ◌∙◌, arith}
use Rattle.std.specs.Prelude.{nat_lt, nat_le}
use Rattle.std.proofs.lemmas.Bool.{le-ltb, lt-ltb, eqb-true, eqb-false, true_from_ne_false}
use Rattle.std.proofs.lemmas.Bool.{cases_lt, cases_Bool}
use Rattle.std.proofs.lemmas.List.{length-append, take_at}
use Rattle.byteorder.specs.Endian.{big_bytes, big_number}
use Rattle.wire.specs.Spelling.{IsBytes}
use Rattle.wire.specs.Reading.{number_at}
use Rattle.wire.proofs.ChecksumBound.{crc32c_below}
use Rattle.wire.proofs.Fields.{number_takes_4, number_again_4}
use Rattle.wire.proofs.Steps.{same_value, rest_fits}
use Rattle.journal.specs.declared.record.Stop.{Stop}
use Rattle.journal.specs.declared.record.Stop.TheVariants.{Torn, Length}
use Rattle.journal.specs.Records.{is_blank, is_length, length_text, HasBadLength}
use Rattle.journal.specs.Reading.{length_at, length_stop, sum_of}

pub both : (a b : Bool) → (a && b) ≡ true → (a ≡ true) × (b ≡ true)
both true b h = (refl, h)
both false b h = absurd cc

pub equal : (m n : ℕ) → m ≡ n → eqb m n ≡ true
equal m n e = true_from_ne_false (eqb m n) (λ f. eqb-false m n f e)

-- a content's length is a number of four bytes
pub small : (n : ℕ) → is_length n ≡ true → n < 2 ^ 32
small n h = grind (arith, both (nat_lt 0 n) (nat_le n 67108864) h)

number_bytes : (n : ℕ) → IsBytes (big_bytes 4 n)
number_bytes n zero = omega arith
number_bytes n (suc zero) = omega arith
number_bytes n (suc (suc zero)) = omega arith
number_bytes n (suc (suc (suc zero))) = omega arith
number_bytes n (suc (suc (suc (suc i)))) = omega arith

pub one_number : (m n : ℕ) → m < 2 ^ 32 → n < 2 ^ 32 → big_bytes 4 m ≡ big_bytes 4 n → m ≡ n
one_number m n m_lt n_lt e =
    let h : number_at 4 (big_bytes 4 m ++ []) ≡ number_at 4 (big_bytes 4 n ++ []) =
    ap (λ (x : List ℕ). number_at 4 (x ++ [])) e in
    let both = sym (number_again_4 m [] m_lt) ∙ (h ∙ number_again_4 n [] n_lt) in
    let x : ℕ × List ℕ = (m, []) in
    let y : ℕ × List ℕ = (n, []) in
    ap (λ (p : ℕ × List ℕ). p.0) (same_value x y both)

sum_small : (n : ℕ) → sum_of n < 2 ^ 32
sum_small n = crc32c_below (big_bytes 4 n) (number_bytes n)

abbrev after_sum : List ℕ → ℕ → ℕ × List ℕ → Result (ℕ × List ℕ) Stop
after_sum bytes n s =
    cond (is_length n && eqb s.0 (sum_of n)) (Ok (n, s.1)) (Err (length_stop bytes))

-- a length that is spelled is read
pub length_again : (n : ℕ) (rest : List ℕ) → is_length n ≡ true
    → length_at (length_text n ++ rest) ≡ Ok (n, rest)
unfolding length_at
length_again n rest h =
    let one = number_again_4 n (big_bytes 4 (sum_of n) ++ rest) (small n h) in
    let two = number_again_4 (sum_of n) rest (sum_small n) in
    rw (one, two, h, equal (sum_of n) (sum_of n) refl) refl

-- two numbers that stand in front
pub record Numbers (bytes : List ℕ) : Type 0 where
  pub n : ℕ
  pub s : ℕ
  pub after : List ℕ
  pub text : bytes ≡ big_bytes 4 n ++ (big_bytes 4 s ++ after)
  pub n_small : n < 2 ^ 32
  pub s_small : s < 2 ^ 32
  pub fits : IsBytes after
  pub number : n ≡ big_number 4 bytes
  pub read : length_at bytes ≡ after_sum bytes n (s, after)

-- a number in front, and the bytes after it
pub record Number (bytes : List ℕ) : Type 0 where
  pub n : ℕ
  pub behind : List ℕ
  pub read : number_at 4 bytes ≡ Ok (n, behind)
  pub text : bytes ≡ big_bytes 4 n ++ behind
  pub small : n < 2 ^ 32
  pub fits : IsBytes behind
  pub number : n ≡ big_number 4 bytes

pub number_in : (bytes : List ℕ) → IsBytes bytes → 4 ≤ length bytes → Number bytes
number_in bytes fits le =
    let n = big_number 4 bytes in
    let behind = drop 4 bytes in
    let read : number_at 4 bytes ≡ Ok (n, behind) = rw (le-ltb (length bytes) 4 le) refl in
    let t = number_takes_4 bytes n behind fits read in
    record {
      n = n;
      behind = behind;
      read = read;
      text = t.0;
      small = t.1;
      fits = rest_fits bytes (big_bytes 4 n) behind fits t.0;
      number = refl;
    }

at_numbers : (bytes behind after : List ℕ) (n s : ℕ) → number_at 4 bytes ≡ Ok (n, behind)
    → number_at 4 behind ≡ Ok (s, after) → length_at bytes ≡ after_sum bytes n (s, after)
unfolding length_at
at_numbers bytes behind after n s one two = rw (one, two) refl

numbers_in : (bytes : List ℕ) → IsBytes bytes → 8 ≤ length bytes → Numbers bytes
numbers_in bytes fits le =
    let one = number_in bytes fits (omega arith) in
    let long : 4 ≤ length one.behind = omega (arith, ap length one.text) in
    let two = number_in one.behind one.fits long in
    record {
      n = one.n;
      s = two.n;
      after = two.behind;
      text = one.text ∙ ap (λ (x : List ℕ). big_bytes 4 one.n ++ x) two.text;
      n_small = one.small;
      s_small = two.small;
      fits = two.fits;
      number = one.number;
      read = at_numbers bytes one.behind two.behind one.n two.n one.read two.read;
    }

-- fewer than eight bytes
none_stands : (bytes : List ℕ) → length bytes < 4 → length_at bytes ≡ Err Torn
unfolding length_at
none_stands bytes few = rw (lt-ltb (length bytes) 4 few) refl

one_stands : (bytes : List ℕ) (n : ℕ) (behind : List ℕ) → number_at 4 bytes ≡ Ok (n, behind)
    → length behind < 4 → length_at bytes ≡ Err Torn
unfolding length_at
one_stands bytes n behind read few = rw (read, lt-ltb (length behind) 4 few) refl

pub few_stop : (bytes : List ℕ) → IsBytes bytes → length bytes < 8 → length_at bytes ≡ Err Torn
few_stop bytes fits lt =
    elim (cases_lt (length bytes) 4) [
      | inl few ↦ none_stands bytes few
      | inr le ↦
          let one = number_in bytes fits le in
          one_stands bytes one.n one.behind one.read (omega (arith, ap length one.text))
    ]

zeros : (bytes : List ℕ) → is_blank bytes ≡ true → (i : ℕ) → get_or bytes i 0 ≡ 0
zeros [] h i = refl
zeros (b ∷ bytes) h zero = eqb-true b 0 (both (eqb b 0) (is_blank bytes) h).0
zeros (b ∷ bytes) h (suc i) = zeros bytes (both (eqb b 0) (is_blank bytes) h).1 i

no_length : (bytes : List ℕ) (n : ℕ) (s : ℕ × List ℕ) → n ≡ 0 → is_blank bytes ≡ true
    → after_sum bytes n s ≡ Err Torn
no_length bytes n s e blank = subst (λ (m : ℕ). after_sum bytes m s ≡ Err Torn) (sym e) (rw blank refl)

-- zeros
pub blank_stop : (bytes : List ℕ) → IsBytes bytes → is_blank bytes ≡ true
    → length_at bytes ≡ Err Torn
blank_stop bytes fits blank =
    elim (cases_lt (length bytes) 8) [
      | inl lt ↦ few_stop bytes fits lt
      | inr le ↦
          let r = numbers_in bytes fits le in
          let z = zeros bytes blank in
          let nothing : r.n ≡ 0 = omega (arith, r.number, z 0, z 1, z 2, z 3) in
          r.read ∙ no_length bytes r.n (r.s, r.after) nothing blank
    ]

-- eight bytes that are no length's text
apart : (bytes : List ℕ) (b : Bool) (n : ℕ) (s : ℕ × List ℕ)
    → (is_length n && eqb s.0 (sum_of n)) ≡ b
    → b ≡ false → is_blank bytes ≡ false → after_sum bytes n s ≡ Err Length
apart bytes b n s is failed blank = rw (is, failed, blank) refl

spelled : (bytes : List ℕ) (h : HasBadLength bytes) (n s : ℕ) (after : List ℕ)
    → bytes ≡ big_bytes 4 n ++ (big_bytes 4 s ++ after)
    → (is_length n ≡ true) × (eqb s (sum_of n) ≡ true) → ⊥
spelled bytes h n s after text p =
    let front : h.front ≡ big_bytes 4 n ++ big_bytes 4 s =
    sym (take_at h.front h.after 8 h.eight) ∙ (ap (take 8) (sym h.parts) ∙ ap (take 8) text) in
    h.no_length n p.0
    (front ∙ ap (λ (m : ℕ). big_bytes 4 n ++ big_bytes 4 m) (eqb-true s (sum_of n) p.1))

pub bad_stop : (bytes : List ℕ) → IsBytes bytes → HasBadLength bytes → length_at bytes ≡ Err Length
bad_stop bytes fits h =
    let r = numbers_in bytes fits
    (omega (arith, ap length h.parts, length-append h.front h.after, h.eight)) in
    elim (cases_Bool (is_length r.n && eqb r.s (sum_of r.n))) [
      | inl t ↦ absurd (spelled bytes h r.n r.s r.after r.text (both (is_length r.n) (eqb r.s (sum_of r.n)) t))
      | inr f ↦ r.read ∙ apart bytes false r.n (r.s, r.after) f refl h.not_blank
    ]

-- what stands in front
pub data LengthFront (bytes : List ℕ) : Type 0 where
  stands : (n : ℕ) (behind : List ℕ) → is_length n ≡ true → bytes ≡ length_text n ++ behind
      → IsBytes behind → length_at bytes ≡ Ok (n, behind) → LengthFront bytes
  none : (length bytes < 8) ⊎ (is_blank bytes ≡ true) → length_at bytes ≡ Err Torn
      → LengthFront bytes
  wrong : HasBadLength bytes → length_at bytes ≡ Err Length → LengthFront bytes

by_blank : (bytes : List ℕ) (n s : ℕ) (after : List ℕ) (blank : Bool) → is_blank bytes ≡ blank
    → n < 2 ^ 32 → s < 2 ^ 32 → bytes ≡ big_bytes 4 n ++ (big_bytes 4 s ++ after)
    → (is_length n && eqb s (sum_of n)) ≡ false → length_at bytes ≡ Err (cond blank Torn Length)
    → LengthFront bytes
by_blank bytes n s after true blank n_lt s_lt text failed h = none (inr blank) h
by_blank bytes n s after false blank n_lt s_lt text failed h =
    wrong (record {
      front = big_bytes 4 n ++ big_bytes 4 s;
      after = after;
      eight = refl;
      no_length = λ len sized same.
          let first : n ≡ len = one_number n len n_lt (small len sized) (ap (take 4) same) in
          let second : s ≡ sum_of len =
          one_number s (sum_of len) s_lt (sum_small len) (ap (drop 4) same) in
          let yes : (is_length n && eqb s (sum_of n)) ≡ true =
          rw (first, sized, equal s (sum_of len) second) refl in
          let never : true ≡ false = sym yes ∙ failed in
          cc;
      parts = text;
      not_blank = blank;
    }) h

pub length_front : (bytes : List ℕ) → IsBytes bytes → LengthFront bytes
length_front bytes fits =
    elim (cases_lt (length bytes) 8) [
      | inl lt ↦ none (inl lt) (few_stop bytes fits lt)
      | inr le ↦
          let r = numbers_in bytes fits le in
          elim (cases_Bool (is_length r.n && eqb r.s (sum_of r.n))) [
            | inl t ↦
                let p = both (is_length r.n) (eqb r.s (sum_of r.n)) t in
                stands r.n r.after p.0
                (r.text ∙ ap (λ (m : ℕ). big_bytes 4 r.n ++ (big_bytes 4 m ++ r.after)) (eqb-true r.s (sum_of r.n) p.1))
                r.fits (r.read ∙ rw t refl)
            | inr f ↦
                by_blank bytes r.n r.s r.after (is_blank bytes) refl r.n_small r.s_small r.text f
                (r.read ∙ rw f refl)
          ]
    ]
