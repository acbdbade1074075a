-- The digits of a number, with zeros before them.
use Rattle.std.proofs.Common.{◌≡◌, ◌≢◌, ℕ, zero, suc, ◌-◌, ◌^◌, ◌<◌, List, [], ◌∷◌, ◌++◌, length}
use Rattle.std.proofs.Common.{refl, sym, ap, subst, ◌∙◌, arith, length-append, Global, Result, false}
use Rattle.std.proofs.lemmas.Fmt.{decimal_is_IsNumeral}
use Rattle.std.proofs.lemmas.List.{append-nil}
use Rattle.std.specs.Prelude.{IfOk, Ok, Err, decimal, replicate, string_bytes}
use Rattle.std.specs.declared.alloc.AllocError.{AllocError}
use Rattle.std.specs.declared.string.String.{String}
use Rattle.std.specs.Fmt.{format_spec, padded_integral, char_count, styled_decimal}
use Rattle.std.specs.Char.{digit_value}
use Rattle.std.specs.Prelude.{codes}
use Rattle.std.specs.Str.Parse.{AllDigits}
use Rattle.block_folder.specs.Trees.{IsName}
use Rattle.block_folder.proofs.Crashes.{named}
use Rattle.block_outputs.specs.Names.{output_name, unfinished_name}

-- four digits or more
pub four_digits : (n : ℕ) → styled_decimal (format_spec 32 0 4 4 (2 ^ 64 - 1)) n ≡ output_name n
unfolding padded_integral char_count
four_digits n =
    ap (λ (ds : List ℕ). replicate (4 - length (decimal n) - 0 - 0) 48 ++ ds) (append-nil (decimal n))
    ∙ ap (λ (k : ℕ). replicate k 48 ++ decimal n)
    (let e : 4 - length (decimal n) - 0 - 0 ≡ 4 - length (decimal n) = omega arith in e)

pub told_as : (r : Result (String Global) AllocError) (bs cs : List ℕ) → bs ≡ cs
    → IfOk r (λ s. string_bytes s ≡ bs) → IfOk r (λ s. string_bytes s ≡ cs)
told_as (Ok s) bs cs e is = is ∙ e
told_as (Err x) bs cs e is = tt

-- no slash is among digits

digits_named : (ds : List ℕ) → AllDigits 10 ds → IsName ds
digits_named [] d = tt
digits_named (c ∷ cs) d = (
  λ e. absurd (let k : digit_value 47 < 10 = subst (λ (x : ℕ). digit_value x < 10) e d.0 in
      omega (arith, k)),
  digits_named cs d.1,
)

zeros_named : (k : ℕ) → IsName (replicate k 48)
zeros_named zero = tt
zeros_named (suc k) = (λ e. absurd (omega (arith, e)), zeros_named k)

both_named : (xs ys : List ℕ) → IsName xs → IsName ys → IsName (xs ++ ys)
both_named [] ys a b = b
both_named (x ∷ xs) ys a b = (a.0, both_named xs ys a.1 b)

pub output_named : (n : ℕ) → n < 2 ^ 64 → IsName (output_name n)
output_named n small =
    both_named (replicate (4 - length (decimal n)) 48) (decimal n)
    (zeros_named (4 - length (decimal n)))
    (digits_named (decimal n) (decimal_is_IsNumeral n small).0.1)

-- the end of an unfinished one
abbrev End : List ℕ
End = codes "-unfinished"

end_named : IsName (codes "-unfinished")
end_named = named (codes "-unfinished") refl

pub unfinished_named : (n : ℕ) → n < 2 ^ 64 → IsName (unfinished_name n)
unfinished_named n small =
    (λ e. absurd (omega (arith, e)), both_named (output_name n) End (output_named n small) end_named)

pub are_two : (n : ℕ) → output_name n ≢ unfinished_name n
are_two n e =
    let same : length (output_name n) ≡ length (unfinished_name n) = ap length e in
    let more = length-append (output_name n) End in
    absurd (omega (arith, same, more))
