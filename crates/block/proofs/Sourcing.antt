-- Where the samples of chunks stand among those of all.
use Rattle.std.proofs.Common.{◌≡◌, ℕ, zero, suc, ◌+◌, ◌-◌, ◌<◌, ◌≤◌, ℤ, pos, List, [], ◌∷◌, length}
use Rattle.std.proofs.Common.{get_or, take, drop, map, Some, refl, sym, ap, subst, ◌∙◌, arith}
use Rattle.std.specs.Prelude.{slice_get}
use Rattle.std.specs.Option.{option_map}
use Rattle.std.proofs.lemmas.List.{length-drop, length-map, length-take-le, take_rest}
use Rattle.std.proofs.lemmas.Option.{slice_get-map, slice_get-get_or, slice_get_read}
use Rattle.std.proofs.lemmas.Option.{slice_get_within}
use Rattle.index_reader.specs.declared.chunk.Chunk.{Chunk}
use Rattle.block.specs.Samples.{Source}
use Rattle.index_reader.specs.Indexes.{Series, Indexed, chunk_lists}
use Rattle.block.specs.Packing.{ArePackedFrom, ArePacked, source_of}
use Rattle.block.specs.Wanted.{AreSideBySide}

pub nowhere : Chunk
nowhere = record { mint = pos 0; maxt = pos 0; reference = 0 }

same_value : {X : Type 0} (x y : X) → Some x ≡ Some y → x ≡ y
same_value x y e = cc

-- the samples that were read are those of the chunk
pub source_at : (source : Source) (chunks : List Chunk) (k : ℕ) (d : Chunk) (samples : List (ℤ × ℤ))
    → k < length chunks → slice_get (map source chunks) k ≡ Some samples
    → samples ≡ source (get_or chunks k d)
source_at source chunks k d samples lt h =
    same_value samples (source (get_or chunks k d)) (sym h
    ∙ slice_get-map source chunks k
    ∙ ap (option_map source) (slice_get-get_or chunks k d lt))

-- parts of a list

get_drop : {X : Type 0} (xs : List X) (i k : ℕ) → slice_get (drop i xs) k ≡ slice_get xs (i + k)
get_drop xs zero k = let n : k ≡ 0 + k = omega arith in ap (slice_get xs) n
get_drop [] (suc i) k = refl
get_drop (x ∷ xs) (suc i) k =
    let n : suc (i + k) ≡ suc i + k = omega arith in
    get_drop xs i k ∙ ap (slice_get (x ∷ xs)) n

get_take : {X : Type 0} (xs : List X) (j k : ℕ) → k < j → slice_get (take j xs) k ≡ slice_get xs k
get_take xs zero k lt = absurd (omega (arith, lt))
get_take [] (suc j) k lt = refl
get_take (x ∷ xs) (suc j) zero lt = refl
get_take (x ∷ xs) (suc j) (suc k) lt = get_take xs j k (omega (arith, lt))

pub side_by_side : (chunks : List Chunk) (i j : ℕ) → j ≤ length chunks → i ≤ length (take j chunks)
    → AreSideBySide i (take (length (take j chunks) - i) (drop i (take j chunks))) chunks
side_by_side chunks i j all le =
    let front : length (take j chunks) ≡ j = length-take-le j chunks all in
    let size = length-drop i (take j chunks) in
    subst (λ (these : List Chunk). AreSideBySide i these chunks) (sym (take_rest (take j chunks) i))
    (record {
      inside = omega (arith, all, le, front, size);
      each =
          λ k lt. get_drop (take j chunks) i k
          ∙ get_take chunks j (i + k) (omega (arith, lt, front, size, le));
    })

-- the chunks that meet a range, among those of their series
pub packed_beside : (source : Source) (packed : List (List (ℤ × ℤ))) (first place : ℕ)
    (these those : List Chunk) → ArePackedFrom source packed first those
    → AreSideBySide place these those → ArePackedFrom source packed (first + place) these
packed_beside source packed first place these those h side = record {
  inside = omega (arith, h.inside, side.inside);
  small = h.small;
  each =
      λ k lt.
      let at : first + place + k ≡ first + (place + k) = omega arith in
      let within : place + k < length those = omega (arith, lt, side.inside) in
      ap (slice_get packed) at
      ∙ h.each (place + k) within
      ∙ slice_get-map source those (place + k)
      ∙ ap (option_map source) (sym (side.each k lt))
      ∙ sym (slice_get-map source these k);
}

-- the chunks of a series, whose start was read
pub placed_at : (starts : List ℕ) (packed : List (List (ℤ × ℤ))) (x : Indexed)
    → ArePacked starts packed x → (i first : ℕ) (chunks : List Chunk)
    → first ≡ get_or starts i first → slice_get (chunk_lists x.series) i ≡ Some chunks
    → ArePackedFrom (source_of x packed) packed first chunks
placed_at starts packed x h i first chunks e at =
    let size = length-map x.series (λ (s : Series). s.chunks) in
    let within = slice_get_within (chunk_lists x.series) i chunks at in
    h.placed i first chunks (slice_get_read starts (length starts) i first refl
    (omega (arith, h.counted, size, within)) e) at
