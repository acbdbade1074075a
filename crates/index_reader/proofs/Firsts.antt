-- The first reference of some bytes.
use Rattle.std.proofs.Common.{◌≡◌, ℕ, suc, ◌/◌, ◌<◌, ◌≤◌, List, [], ◌∷◌, length, drop, refl, arith}
use Rattle.std.proofs.lemmas.List.{length-drop}
use Rattle.byteorder.specs.Endian.{big_number}
use Rattle.index_reader.specs.References.{words, references_in}

pub no_refs : (bytes : List ℕ) → length bytes < 4 → references_in bytes ≡ []
unfolding words
no_refs bytes lt = let e : length bytes / 4 ≡ 0 = omega arith in rw e refl

pub some_refs : (bytes : List ℕ) → 4 ≤ length bytes
    → references_in bytes ≡ big_number 4 bytes ∷ references_in (drop 4 bytes)
unfolding words
some_refs bytes le =
    let e : length bytes / 4 ≡ suc (length (drop 4 bytes) / 4) =
    omega (arith, length-drop 4 bytes) in
    rw e refl

pub ruleset of_firsts = (no_refs, some_refs)
