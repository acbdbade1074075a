-- A sample by its place.
use Rattle.std.proofs.Common.{◌≡◌, ℕ, zero, suc, ◌+◌, ◌*◌, ◌/◌, ◌<◌, List, length, drop, Some, refl}
use Rattle.std.proofs.Common.{ap, ◌∙◌, arith}
use Rattle.std.specs.Prelude.{slice_get}
use Rattle.std.proofs.lemmas.List.{drop-drop}
use Rattle.chunk_reader.specs.Reading.{samples_from, samples_in, signed_at}

pub length-samples_from : (n : ℕ) (bytes : List ℕ) → length (samples_from n bytes) ≡ n
unfolding samples_from
length-samples_from zero bytes = refl
length-samples_from (suc n) bytes = ap suc (length-samples_from n (drop 16 bytes))

sample_from : (n i : ℕ) (bytes : List ℕ) → i < n → slice_get (samples_from n bytes) i
    ≡ Some (signed_at (drop (16 * i) bytes), signed_at (drop 8 (drop (16 * i) bytes)))
unfolding samples_from
sample_from zero i bytes lt = absurd (omega arith)
sample_from (suc n) zero bytes lt = refl
sample_from (suc n) (suc i) bytes lt =
    let e : 16 + 16 * i ≡ 16 * suc i = omega arith in
    sample_from n i (drop 16 bytes) (omega arith)
    ∙ ap (λ (xs : List ℕ). Some (signed_at xs, signed_at (drop 8 xs))) (drop-drop (16 * i) 16 bytes
    ∙ ap (λ (k : ℕ). drop k bytes) e)

pub slice_get-samples_in : (i : ℕ) (bytes : List ℕ) → i < length bytes / 16
    → slice_get (samples_in bytes) i
    ≡ Some (signed_at (drop (16 * i) bytes), signed_at (drop 8 (drop (16 * i) bytes)))
slice_get-samples_in i bytes lt = sample_from (length bytes / 16) i bytes lt

pub length-samples_in : (bytes : List ℕ) → length (samples_in bytes) ≡ length bytes / 16
length-samples_in bytes = length-samples_from (length bytes / 16) bytes

pub ruleset places = (slice_get-samples_in, length-samples_in)
