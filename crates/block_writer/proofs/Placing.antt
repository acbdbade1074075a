-- The chunks of a series, one after another.
use Rattle.std.proofs.Common.{◌≡◌, ℕ, zero, suc, ◌+◌, ◌<◌, ◌≤◌, ℤ, pos, List, [], ◌∷◌, ◌++◌, length}
use Rattle.std.proofs.Common.{take, drop, refl, sym, ap, subst, ◌∙◌, append_assoc, length-append}
use Rattle.std.proofs.Common.{arith}
use Rattle.std.specs.List.{All, flat_map}
use Rattle.std.proofs.lemmas.List.{append-nil}
use Rattle.std.proofs.lemmas.List.Elements.{All-nil, All-push}
use Rattle.index_reader.specs.declared.chunk.Chunk.{Chunk}
use Rattle.block_writer.specs.Writing.{pieces, piece_text, series_text}
use Rattle.block_writer.specs.EntryBodies.{chunk_of, chunks_from, chunks_of}
use Rattle.block_writer.specs.Written.{limit}
use Rattle.block_writer.proofs.Pieces.{drop_shorter}

-- no chunk
abbrev pub none : Chunk
none = record { mint = pos 0; maxt = pos 0; reference = 0 }

-- chunks that were placed, and the samples of those that are still to be placed, from a place up to
-- another
pub record IsPlaced (chunks : List Chunk) (place : ℕ) (rest : List (ℤ × ℤ)) (whole : List Chunk)
    (behind : ℕ) : Type 0 where
  pub count : ℕ
  pub enough : length rest ≤ count
  pub so_far : chunks ++ chunks_from place (pieces count rest) ≡ whole
  pub ends : place + length (flat_map piece_text (pieces count rest)) ≡ behind
  pub within : behind ≤ limit
  pub small : All (λ c. c.reference ≤ limit) chunks

pub none_placed : (chunks : List Chunk) (at : ℕ) (samples : List (ℤ × ℤ)) → chunks ≡ []
    → at + length (series_text samples) ≤ limit
    → IsPlaced chunks at samples (chunks_of at samples) (at + length (series_text samples))
none_placed chunks at samples empty within = record {
  count = length samples;
  enough = omega arith;
  so_far = ap (λ cs. cs ++ chunks_of at samples) empty;
  ends = refl;
  within = within;
  small = subst (All (λ c. c.reference ≤ limit)) (sym empty) (All-nil (λ c. c.reference ≤ limit));
}

-- what of a piece is still to come
next_place : (place : ℕ) (rest piece : List (ℤ × ℤ)) (count : ℕ) → 0 < length rest
    → length rest ≤ count → piece ≡ take 120 rest
    → place + length (piece_text piece) ≤ place + length (flat_map piece_text (pieces count rest))
unfolding pieces
next_place place [] piece count some le front = absurd (omega arith)
next_place place (s ∷ ss) piece zero some le front = absurd (omega (arith, le))
next_place place (s ∷ ss) piece (suc n) some le front =
    let e : length (piece_text piece) ≡ length (piece_text (take 120 (s ∷ ss))) =
    ap (λ p. length (piece_text p)) front in
    omega (
      arith,
      e,
      length-append (piece_text (take 120 (s ∷ ss)))
          (flat_map piece_text (pieces n (drop 120 (s ∷ ss)))),
    )

pub place_fits : (chunks whole : List Chunk) (place behind : ℕ) (rest piece : List (ℤ × ℤ))
    → 0 < length rest → piece ≡ take 120 rest → IsPlaced chunks place rest whole behind
    → place + length (piece_text piece) ≤ limit
place_fits chunks whole place behind rest piece some front h =
    omega (arith, next_place place rest piece h.count some h.enough front, h.ends, h.within)

step_parts : (chunks next whole : List Chunk) (place then behind : ℕ)
    (rest piece after : List (ℤ × ℤ)) (count : ℕ) → 0 < length rest → piece ≡ take 120 rest → after
    ≡ drop 120 rest → next ≡ chunks ++ chunk_of place piece ∷ [] →
    then ≡ place + length (piece_text piece)
    → length rest ≤ count → chunks ++ chunks_from place (pieces count rest) ≡ whole → place + length
    (flat_map piece_text (pieces count rest)) ≡ behind → behind ≤ limit → All
    (λ c. c.reference ≤ limit) chunks → IsPlaced next then after whole behind
unfolding pieces chunks_from
step_parts chunks next whole place
    then behind [] piece after count some front back step moved le so_far ends within small =
    absurd (omega arith)
step_parts chunks next whole place
    then behind (s ∷ ss) piece after zero some front back step moved le so_far ends within small =
    absurd (omega (arith, le))
step_parts chunks next whole place then behind (s ∷ ss) piece after (suc n) some front back step
    moved le so_far ends within small =
    let first = take 120 (s ∷ ss) in
    let left = drop 120 (s ∷ ss) in
    let moved' : then ≡ place + length (piece_text first) =
    moved ∙ ap (λ p. place + length (piece_text p)) front in
    let step' : next ≡ chunks ++ chunk_of place first ∷ [] =
    step ∙ ap (λ p. chunks ++ chunk_of place p ∷ []) front in
    let whole_is : (chunks ++ chunk_of place first ∷ [])
    ++ chunks_from (place + length (piece_text first)) (pieces n left) ≡ whole =
    simp append_assoc so_far in
    let sums : length (flat_map piece_text (first ∷ pieces n left))
    ≡ length (piece_text first) + length (flat_map piece_text (pieces n left)) =
    length-append (piece_text first) (flat_map piece_text (pieces n left)) in
    let ends' : place + length (piece_text first) + length (flat_map piece_text (pieces n left))
    ≡ behind = omega (arith, ends, sums) in
    record {
      count = n;
      enough = omega (arith, le, drop_shorter (s ∷ ss) after some back);
      so_far = (λ i. step' i ++ chunks_from (moved' i) (pieces n (back i))) ∙ whole_is;
      ends = (λ i. moved' i + length (flat_map piece_text (pieces n (back i)))) ∙ ends';
      within = within;
      small =
          subst (All (λ c. c.reference ≤ limit)) (sym step') (All-push (λ c. c.reference ≤ limit)
          chunks (chunk_of place first) small (omega (arith, ends, within)));
    }

pub place_on : (chunks next whole : List Chunk) (place then behind : ℕ)
    (rest piece after : List (ℤ × ℤ)) → 0 < length rest → piece ≡ take 120 rest → after ≡ drop 120
    rest → next ≡ chunks ++ chunk_of place piece ∷ [] → then ≡ place + length (piece_text piece)
    → IsPlaced chunks place rest whole behind → IsPlaced next then after whole behind
place_on chunks next whole place then behind rest piece after some front back step moved h =
    step_parts chunks next whole place then behind rest piece after h.count some front back step
    moved h.enough h.so_far h.ends h.within h.small

done : (chunks whole : List Chunk) (place behind : ℕ) (rest : List (ℤ × ℤ)) (count : ℕ)
    → length rest ≡ 0 → chunks ++ chunks_from place (pieces count rest) ≡ whole
    → place + length (flat_map piece_text (pieces count rest)) ≡ behind
    → (chunks ≡ whole) × (place ≡ behind)
unfolding pieces chunks_from
done chunks whole place behind [] zero empty so_far ends =
    (sym (append-nil chunks) ∙ so_far, omega (arith, ends))
done chunks whole place behind [] (suc n) empty so_far ends =
    (sym (append-nil chunks) ∙ so_far, omega (arith, ends))
done chunks whole place behind (s ∷ ss) count empty so_far ends = absurd (omega arith)

pub all_placed : (chunks whole : List Chunk) (place behind : ℕ) (rest : List (ℤ × ℤ))
    → length rest ≡ 0 → IsPlaced chunks place rest whole behind
    → (chunks ≡ whole) × (place ≡ behind)
all_placed chunks whole place behind rest empty h =
    done chunks whole place behind rest h.count empty h.so_far h.ends
