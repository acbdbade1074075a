-- A name that is read is written as its lines write it.
use Rattle.std.proofs.Common.{◌≡◌, ℕ, suc, ◌+◌, ◌*◌, ◌-◌, ◌<◌, ◌≤◌, inl, inr, Bool, true, false, List, [], ◌∷◌, ◌++◌, length, take, drop, get_or, Option, Some, None, option_map, codes, refl, sym, ap, ◌∙◌, subst, arith}
use Rattle.std.specs.Prelude.{◌&&◌, ◌==◌, not, nat_lt, decimal, option_and_then, if◌then◌else◌}
use Rattle.std.specs.Char.{is_ascii_digit}
use Rattle.std.specs.Str.{all_ascii_digits, bytes_eq}
use Rattle.std.proofs.lemmas.Bool.Decides.{nat_tests}
use Rattle.std.proofs.lemmas.Bool.{cases_eq}
use Rattle.std.proofs.lemmas.Fmt.{decimal-digits_value, digits_decimal, digits_value-decimal, decimal_nonempty, decimal_digit, first_decimal}
use Rattle.std.proofs.lemmas.List.{take-append-drop}
use Rattle.std.proofs.lemmas.Slice.Eq.{bytes_eq-Decides}
use Rattle.std.proofs.lemmas.Str.Parse.{IsNumeralModel, numerals_by_fold, tells_all_ascii_digits}
use Rattle.serde_json.specs.Data.{unsigned}
use Rattle.serde_json.specs.Read.{number_of}
use Rattle.serde_json.proofs.Numbers.{number_of-decimal}
use Rattle.postings.specs.declared.part_name.PartName.{PartName}
use Rattle.postings.specs.declared.part_name.PartName.TheVariants.{Block, Head}
use Rattle.reply_reader.specs.Replies.{digits_from, is_padded, number_said, after, name_said}
use Rattle.reply_reader.specs.Replies.{name_text}
use Rattle.reply_reader.proofs.Booleans.{and_left, and_right}

abbrev read_on : ℕ → List ℕ → ℕ
read_on n [] = n
read_on n (c ∷ cs) = read_on (n * 10 + (c - 48)) cs

own : IsNumeralModel (λ ds. all_ascii_digits ds ≡ true) (read_on 0)
own =
    numerals_by_fold (λ ds. all_ascii_digits ds ≡ true) tells_all_ascii_digits read_on
    (record { empty = λ n. refl; more = λ n c cs r. refl })

-- digits that write a number from n on
record AreDigits (n : ℕ) (ds : List ℕ) (m : ℕ) : Type 0 where
  digits : all_ascii_digits ds ≡ true
  value : read_on n ds ≡ m
  fits : m < 18446744073709551616

below_when : (n : ℕ) → nat_lt n 18446744073709551616 ≡ true → n < 18446744073709551616
below_when n h = grind (arith, nat_tests)

digits_step : (n b : ℕ) (bs : List ℕ) (m : ℕ) (d t : Bool) → is_ascii_digit b ≡ d
    → nat_lt (n * 10 + (b - 48)) 18446744073709551616 ≡ t
    → (if d then (if t then digits_from (n * 10 + (b - 48)) bs else None) else None) ≡ Some m
    → ((k : ℕ) → digits_from k bs ≡ Some m → k < 18446744073709551616 → AreDigits k bs m)
    → AreDigits n (b ∷ bs) m
digits_step n b bs m true true is lt e later =
    let rest = later (n * 10 + (b - 48)) e (below_when (n * 10 + (b - 48)) lt) in
    record { digits = rw (is, rest.digits); value = rest.value; fits = rest.fits }
digits_step n b bs m true false is lt e later = cc
digits_step n b bs m false t is lt e later = cc

digits_are : (n : ℕ) (ds : List ℕ) (m : ℕ) → digits_from n ds ≡ Some m
    → n < 18446744073709551616 → AreDigits n ds m
digits_are n [] m e lt =
    let same : n ≡ m = cc in
    record { digits = refl; value = same; fits = omega arith }
digits_are n (b ∷ bs) m e lt =
    digits_step n b bs m (is_ascii_digit b) (nat_lt (n * 10 + (b - 48)) 18446744073709551616) refl
    refl e (λ k f small. digits_are k bs m f small)

alone : (b k : ℕ) → ((b == 48) && not (k == 0)) ≡ false → b ≡ 48 → k ≡ 0
alone b k h e = grind (arith, nat_tests)

number_at : (b : ℕ) (bs : List ℕ) (n : ℕ) (p : Bool) → ((b == 48) && not (length bs == 0)) ≡ p
    → (if p then None else digits_from 0 (b ∷ bs)) ≡ Some n → decimal n ≡ b ∷ bs
number_at b bs n true is e = cc
number_at b bs n false is e =
    let d = digits_are 0 (b ∷ bs) n e (omega arith) in
    let small : read_on 0 (b ∷ bs) < 18446744073709551616 =
    subst (λ (m : ℕ). m < 18446744073709551616) (sym d.value) d.fits in
    let first : get_or (b ∷ bs) 0 0 ≡ 48 → length (b ∷ bs) ≡ 1 =
    λ z. ap suc (alone b (length bs) is z) in
    ap decimal (sym d.value) ∙ decimal-digits_value own (b ∷ bs) d.digits (omega arith) first small

number_is : (text : List ℕ) (n : ℕ) → number_said text ≡ Some n → decimal n ≡ text
number_is [] n e = cc
number_is (b ∷ bs) n e = number_at b bs n ((b == 48) && not (length bs == 0)) refl e

-- digits that are read are the number that the grammar of JSON reads
pub number_read : (text : List ℕ) (n : ℕ) → number_said text ≡ Some n
    → n < 18446744073709551616 → number_of text ≡ Some (unsigned n)
number_read text n e fits = ap number_of (sym (number_is text n e)) ∙ number_of-decimal n fits

block_at : (text : List ℕ) (o : Option ℕ) (name : PartName) → number_said (drop 6 text) ≡ o
    → take 6 text ≡ codes "block " → option_map (λ n. Block n) o ≡ Some name → name_text name ≡ text
block_at text None name is front e = cc
block_at text (Some n) name is front e =
    let same : Block n ≡ name = cc in
    ap name_text (sym same)
    ∙ ap (λ (ds : List ℕ). codes "block " ++ ds) (number_is (drop 6 text) n is)
    ∙ ap (λ (xs : List ℕ). xs ++ drop 6 text) (sym front)
    ∙ take-append-drop 6 text

after_at : (text : List ℕ) (name : PartName) (b : Bool)
    → bytes_eq (take 6 text) (codes "block ") ≡ b
    → option_map (λ n. Block n)
    (option_and_then number_said (if b then Some (drop 6 text) else None)) ≡ Some name
    → name_text name ≡ text
after_at text name true is e =
    block_at text (number_said (drop 6 text)) name refl
    ((bytes_eq-Decides (take 6 text) (codes "block ")).0 is) e
after_at text name false is e = cc

name_at : (text : List ℕ) (name : PartName) (b : Bool) → bytes_eq text (codes "head") ≡ b
    → (if b then Some Head
    else option_map (λ n. Block n) (option_and_then number_said (after (codes "block ") text)))
    ≡ Some name → name_text name ≡ text
name_at text name true is e =
    let same : Head ≡ name = cc in
    ap name_text (sym same) ∙ sym ((bytes_eq-Decides text (codes "head")).0 is)
name_at text name false is e = after_at text name (bytes_eq (take 6 text) (codes "block ")) refl e

pub name_is : (text : List ℕ) (name : PartName) → name_said text ≡ Some name → name_text name ≡ text
name_is text name e = name_at text name (bytes_eq text (codes "head")) refl e

grows : (n : ℕ) (ds : List ℕ) → n ≤ read_on n ds
grows n [] = omega arith
grows n (c ∷ cs) = let rest = grows (n * 10 + (c - 48)) cs in omega arith

back_step : (n b : ℕ) (bs : List ℕ) (d t : Bool) → is_ascii_digit b ≡ d
    → nat_lt (n * 10 + (b - 48)) 18446744073709551616 ≡ t → d ≡ true → t ≡ true
    → digits_from (n * 10 + (b - 48)) bs ≡ Some (read_on (n * 10 + (b - 48)) bs)
    → (if d then (if t then digits_from (n * 10 + (b - 48)) bs else None) else None)
    ≡ Some (read_on (n * 10 + (b - 48)) bs)
back_step n b bs true true is lt holds small rest = rest
back_step n b bs true false is lt holds small rest = cc
back_step n b bs false t is lt holds small rest = cc

below_test : (n m : ℕ) → n ≤ m → m < 18446744073709551616 → nat_lt n 18446744073709551616 ≡ true
below_test n m le lt =
    let small : n < 18446744073709551616 = omega arith in grind (arith, nat_tests)

digits_back : (n : ℕ) (ds : List ℕ) → all_ascii_digits ds ≡ true
    → read_on n ds < 18446744073709551616 → digits_from n ds ≡ Some (read_on n ds)
digits_back n [] all lt = refl
digits_back n (b ∷ bs) all lt =
    let next = n * 10 + (b - 48) in
    back_step n b bs (is_ascii_digit b) (nat_lt next 18446744073709551616) refl refl
    (and_left (is_ascii_digit b) (all_ascii_digits bs) all)
    (below_test next (read_on next bs) (grows next bs) lt) (digits_back next bs
    (and_right (is_ascii_digit b) (all_ascii_digits bs) all) lt)

padded_not : (b k : ℕ) → (b ≡ 48 → k ≡ 0) → ((b == 48) && not (k == 0)) ≡ false
padded_not b k h = elim (cases_eq b 48) [
  | inl e ↦ let z : k ≡ 0 = h e in grind (arith, nat_tests)
  | inr n ↦ grind (arith, nat_tests)
]

not_padded : (ds : List ℕ) → 0 < length ds → (get_or ds 0 0 ≡ 48 → length ds ≡ 1)
    → is_padded ds ≡ false
not_padded [] some one = absurd (omega arith)
not_padded (b ∷ bs) some one =
    padded_not b (length bs) (λ e. let l : suc (length bs) ≡ 1 = one e in omega arith)

one_zero : (n : ℕ) → n < 18446744073709551616 → get_or (decimal n) 0 0 ≡ 48 → length (decimal n) ≡ 1
one_zero n lt e = elim (cases_eq n 0) [
  | inl z ↦
      subst (λ (m : ℕ). length (decimal m) ≡ 1) (sym z) (ap length (decimal_digit 0 (omega arith)))
  | inr more ↦ absurd (let first = first_decimal n (omega arith) lt in omega arith)
]

number_back : (n : ℕ) → n < 18446744073709551616 → number_said (decimal n) ≡ Some n
number_back n lt =
    let value = digits_value-decimal own n lt in
    ap (λ (p : Bool). if p then None else digits_from 0 (decimal n))
    (not_padded (decimal n) (decimal_nonempty n lt) (one_zero n lt))
    ∙ digits_back 0 (decimal n) (digits_decimal own n lt)
    (subst (λ (m : ℕ). m < 18446744073709551616) (sym value) lt)
    ∙ ap Some value

pub name_back : (n : ℕ) → n < 18446744073709551616
    → name_said (name_text (Block n)) ≡ Some (Block n)
name_back n lt = ap (option_map (λ m. Block m)) (number_back n lt)
