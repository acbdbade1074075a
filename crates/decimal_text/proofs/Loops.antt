-- The loops.
use Rattle.std.proofs.Common.{◌≡◌, ℕ, zero, suc, ◌+◌, ◌-◌, ◌<◌, ◌≤◌, Bool, true, false, eqb, cond}
use Rattle.std.proofs.Common.{List, [], ◌∷◌, length, drop, get_or, Result, Ok, Err, refl, sym, ap}
use Rattle.std.proofs.Common.{◌∙◌, arith, add-one}
use Rattle.std.proofs.Math.Seq.{drop-cons}
use Rattle.std.proofs.lemmas.List.{nil_from_length, length-drop}
use Rattle.wire.specs.Outcome.{◌>>=◌}
use Rattle.wire.proofs.Steps.{chain}
use Rattle.decimal_text.specs.declared.error.DecimalError.{DecimalError}
use Rattle.decimal_text.specs.declared.error.DecimalError.TheVariants.{Finer}
use Rattle.decimal_text.specs.Decimals.{is_digit}
use Rattle.decimal_text.specs.Reading.{digits_in_front, with_digit, whole_at, part_at, parts_at}
use Rattle.decimal_text.specs.Tenths.{cut_after, grown, padded, with_next}
use Rattle.decimal_text.specs.declared.rounding.Cut.{Cut}

next : (s : List ℕ) (i : ℕ) → i < length s → drop i s ≡ get_or s i 0 ∷ drop (i + 1) s
next s i lt = rw (add-one, drop-cons s i 0) refl

gone : (s : List ℕ) (i : ℕ) → length s ≤ i → drop i s ≡ []
gone s i le = nil_from_length (drop i s) (omega (arith, length-drop i s))

pub digits_goes : (s : List ℕ) (i : ℕ) → i < length s → is_digit (get_or s i 0) ≡ true
    → digits_in_front (drop i s) ≡ suc (digits_in_front (drop (i + 1) s))
unfolding digits_in_front
digits_goes s i lt e = ap digits_in_front (next s i lt) ∙ rw e refl

pub digits_stops : (s : List ℕ) (i : ℕ) → i < length s → is_digit (get_or s i 0) ≡ false
    → digits_in_front (drop i s) ≡ 0
unfolding digits_in_front
digits_stops s i lt e = ap digits_in_front (next s i lt) ∙ rw e refl

pub digits_ends : (s : List ℕ) (i : ℕ) → length s ≤ i → digits_in_front (drop i s) ≡ 0
unfolding digits_in_front
digits_ends s i le = ap digits_in_front (gone s i le)

pub whole_goes : (s : List ℕ) (i n m : ℕ) → i < length s → with_digit n (get_or s i 0 - 48) ≡ Ok m
    → whole_at m (drop (i + 1) s) ≡ whole_at n (drop i s)
unfolding whole_at
whole_goes s i n m lt e =
    sym (ap (whole_at n) (next s i lt)
    ∙ ap (λ (r : Result ℕ DecimalError). r >>= λ k. whole_at k (drop (i + 1) s)) e)

pub whole_fails : (s : List ℕ) (i n : ℕ) (f : DecimalError) → i < length s
    → with_digit n (get_or s i 0 - 48) ≡ Err f → whole_at n (drop i s) ≡ Err f
unfolding whole_at
whole_fails s i n f lt e =
    ap (whole_at n) (next s i lt)
    ∙ ap (λ (r : Result ℕ DecimalError). r >>= λ k. whole_at k (drop (i + 1) s)) e

pub whole_ends : (s : List ℕ) (i n : ℕ) → length s ≤ i → whole_at n (drop i s) ≡ Ok n
unfolding whole_at
whole_ends s i n le = ap (whole_at n) (gone s i le)

one_part : (n left c : ℕ) (cs : List ℕ)
    → parts_at n left (c ∷ cs) ≡ (part_at n left c >>= λ x. parts_at x.0 x.1 cs)
unfolding parts_at
one_part n zero c cs =
    let none : Result (ℕ × ℕ) DecimalError = Ok (n, zero) in
    let fail : Result (ℕ × ℕ) DecimalError = Err Finer in
    elim (eqb c 48) as (λ (b : Bool). cond b (parts_at n zero cs) (Err Finer) ≡ (cond b none fail >>= λ x. parts_at x.0 x.1 cs)) [ true ↦ refl | false ↦ refl ]
one_part n (suc left) c cs = chain (with_digit n (c - 48)) (λ m. let r : Result (ℕ × ℕ) DecimalError = Ok (m, left) in r) (λ x. parts_at x.0 x.1 cs)

pub parts_go : (s : List ℕ) (i n left m fewer : ℕ) → i < length s
    → part_at n left (get_or s i 0) ≡ Ok (m, fewer)
    → parts_at m fewer (drop (i + 1) s) ≡ parts_at n left (drop i s)
parts_go s i n left m fewer lt e =
    sym (ap (parts_at n left) (next s i lt)
    ∙ one_part n left (get_or s i 0) (drop (i + 1) s)
    ∙ ap (λ (r : Result (ℕ × ℕ) DecimalError). r >>= λ x. parts_at x.0 x.1 (drop (i + 1) s)) e)

pub parts_fail : (s : List ℕ) (i n left : ℕ) (f : DecimalError) → i < length s
    → part_at n left (get_or s i 0) ≡ Err f → parts_at n left (drop i s) ≡ Err f
parts_fail s i n left f lt e =
    ap (parts_at n left) (next s i lt)
    ∙ one_part n left (get_or s i 0) (drop (i + 1) s)
    ∙ ap (λ (r : Result (ℕ × ℕ) DecimalError). r >>= λ x. parts_at x.0 x.1 (drop (i + 1) s)) e

pub parts_end : (s : List ℕ) (i n left : ℕ) → length s ≤ i
    → parts_at n left (drop i s) ≡ parts_at n left []
parts_end s i n left le = ap (parts_at n left) (gone s i le)

left_suc : (count at : ℕ) → at < count → count - at ≡ suc (count - (at + 1))
left_suc count at lt = omega arith

pub pad_goes : (left at n m : ℕ) → at < left → with_digit n 0 ≡ Ok m
    → parts_at m (left - (at + 1)) [] ≡ parts_at n (left - at) []
unfolding parts_at
pad_goes left at n m lt e =
    sym (ap (λ (k : ℕ). parts_at n k []) (left_suc left at lt)
    ∙ ap (λ (r : Result ℕ DecimalError). r >>= λ k. parts_at k (left - (at + 1)) []) e)

pub pad_fails : (left at n : ℕ) (f : DecimalError) → at < left → with_digit n 0 ≡ Err f
    → parts_at n (left - at) [] ≡ Err f
unfolding parts_at
pad_fails left at n f lt e =
    ap (λ (k : ℕ). parts_at n k []) (left_suc left at lt)
    ∙ ap (λ (r : Result ℕ DecimalError). r >>= λ k. parts_at k (left - (at + 1)) []) e

pub pad_ends : (left n : ℕ) → left ≡ 0 → parts_at n left [] ≡ Ok n
unfolding parts_at
pad_ends left n e = ap (λ (k : ℕ). parts_at n k []) e

pub cut_goes : (s : List ℕ) (i : ℕ) (cut more : Cut) → i < length s
    → more ≡ with_next cut (get_or s i 0)
    → cut_after more (drop (i + 1) s) ≡ cut_after cut (drop i s)
unfolding cut_after
cut_goes s i cut more lt e =
    ap (λ (x : Cut). cut_after x (drop (i + 1) s)) e ∙ sym (ap (cut_after cut) (next s i lt))

pub cut_ends : (s : List ℕ) (i : ℕ) (cut : Cut) → length s ≤ i → cut_after cut (drop i s) ≡ cut
unfolding cut_after
cut_ends s i cut le = ap (cut_after cut) (gone s i le)

pub zeros_go : (count at n m : ℕ) → at < count → m ≡ grown n 0
    → padded (count - (at + 1)) m ≡ padded (count - at) n
unfolding padded
zeros_go count at n m lt e =
    ap (padded (count - (at + 1))) e
    ∙ sym (ap (λ (k : ℕ). padded k n) (left_suc count at lt))

pub zeros_end : (count n : ℕ) → count ≡ 0 → padded count n ≡ n
unfolding padded
zeros_end count n e = ap (λ (k : ℕ). padded k n) e
