-- How a file begins, and what reading its header gives then.
use Rattle.std.proofs.Common.{◌≡◌, ◌≢◌, ◌<◌, inl, inr, ℕ, false, eqb, List, []}
use Rattle.std.proofs.Common.{◌∷◌, ◌++◌, length, Ok, Err, refl, ap, ◌∙◌}
use Rattle.std.proofs.lemmas.Bool.{lt-ltb, eqb-true, false_from_ne_true, cases_lt, cases_eq}
use Rattle.byteorder.specs.Endian.{big_bytes}
use Rattle.wire.specs.Spelling.{IsBytes}
use Rattle.wire.specs.Reading.{number_at}
use Rattle.journal.specs.declared.error.JournalError.TheVariants.{Magic, Version}
use Rattle.journal.specs.Reading.{after_header}
use Rattle.journal.specs.Records.{header, magic, Begins, BeginsOtherwise}
use Rattle.journal.proofs.Files.{at_magic, header_magic, header_version}
use Rattle.journal.proofs.Lengths.{number_in}

-- how a file begins
pub data HeaderFront (file : List ℕ) : Type 0 where
  other : BeginsOtherwise magic file → after_header file ≡ Err Magic → HeaderFront file
  unknown : BeginsOtherwise header file × Begins magic file → after_header file ≡ Err Version
      → HeaderFront file
  known : Begins header file → HeaderFront file

unequal : (m n : ℕ) → m ≢ n → eqb m n ≡ false
unequal m n e = false_from_ne_true (eqb m n) (λ t. e (eqb-true m n t))

not_magic : (file : List ℕ) → after_header file ≡ Err Magic → HeaderFront file
not_magic file h = other (λ begins. header_magic file begins.0 h begins.1) h

not_known : (file behind : List ℕ) → file ≡ magic ++ behind → after_header file ≡ Err Version
    → HeaderFront file
not_known file behind text h =
    unknown ((λ begins. header_version file begins.0 Version h begins.1), (behind, text)) h

other_number : (file behind : List ℕ) (n : ℕ) → number_at 4 file ≡ Ok (n, behind) → n ≢ 0x465A_4C4A
    → after_header file ≡ Err Magic
unfolding after_header
other_number file behind n read e = rw (read, unequal n 0x465A_4C4A e) refl

too_short : (file : List ℕ) → length file < 4 → after_header file ≡ Err Magic
unfolding after_header
too_short file lt = rw (lt-ltb (length file) 4 lt) refl

by_version : (file behind : List ℕ) → file ≡ magic ++ behind → HeaderFront file
by_version file [] text = not_known file [] text (ap after_header text ∙ at_magic [])
by_version file (v ∷ behind) text =
    elim (cases_eq v 1) [
      | inl e ↦ known (behind, text ∙ ap (λ (n : ℕ). magic ++ (n ∷ behind)) e)
      | inr e ↦ not_known file (v ∷ behind) text
          (ap after_header text ∙ (at_magic (v ∷ behind) ∙ rw (unequal v 1 e) refl))
    ]

pub header_front : (file : List ℕ) → IsBytes file → HeaderFront file
header_front file fits =
    elim (cases_lt (length file) 4) [
      | inl lt ↦ not_magic file (too_short file lt)
      | inr le ↦
          let r = number_in file fits le in
          elim (cases_eq r.n 0x465A_4C4A) [
            | inl e ↦ by_version file r.behind
                (r.text ∙ ap (λ (n : ℕ). big_bytes 4 n ++ r.behind) e)
            | inr e ↦ not_magic file (other_number file r.behind r.n r.read e)
          ]
    ]

-- what begins with the header begins with the magic
pub begins_magic : (file : List ℕ) → Begins header file → Begins magic file
begins_magic file begins = (1 ∷ begins.0, begins.1)
