-- A word by its place.
use Rattle.std.proofs.Common.{◌≡◌, ℕ, zero, suc, ◌+◌, ◌*◌, ◌/◌, ◌<◌, List, length, drop, Some, refl}
use Rattle.std.proofs.Common.{ap, ◌∙◌, arith}
use Rattle.std.specs.Prelude.{slice_get}
use Rattle.std.proofs.lemmas.List.{drop-drop}
use Rattle.byteorder.specs.Endian.{big_number}
use Rattle.index_reader.specs.References.{words, references_in}

pub length-words : (n : ℕ) (bytes : List ℕ) → length (words n bytes) ≡ n
unfolding words
length-words zero bytes = refl
length-words (suc n) bytes = ap suc (length-words n (drop 4 bytes))

word_at : (n i : ℕ) (bytes : List ℕ) → i < n
    → slice_get (words n bytes) i ≡ Some (big_number 4 (drop (4 * i) bytes))
unfolding words
word_at zero i bytes lt = absurd (omega arith)
word_at (suc n) zero bytes lt = refl
word_at (suc n) (suc i) bytes lt =
    let e : 4 + 4 * i ≡ 4 * suc i = omega arith in
    word_at n i (drop 4 bytes) (omega arith)
    ∙ ap (λ (xs : List ℕ). Some (big_number 4 xs)) (drop-drop (4 * i) 4 bytes
    ∙ ap (λ (k : ℕ). drop k bytes) e)

pub ref_at : (i : ℕ) (bytes : List ℕ) → i < length bytes / 4
    → slice_get (references_in bytes) i ≡ Some (big_number 4 (drop (4 * i) bytes))
ref_at i bytes lt = word_at (length bytes / 4) i bytes lt

pub length-refs : (bytes : List ℕ) → length (references_in bytes) ≡ length bytes / 4
length-refs bytes = length-words (length bytes / 4) bytes

pub ruleset of_words = (ref_at, length-refs)
