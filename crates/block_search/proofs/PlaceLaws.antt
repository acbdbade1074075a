-- The parts at the places of the searched parts are the searched parts.
use Rattle.std.proofs.Common.{◌≡◌, ℕ, suc, ◌+◌, ◌<◌, true, false, cond, List, [], ◌∷◌, ◌++◌, Some}
use Rattle.std.proofs.Common.{map, length, get_or, drop, append_assoc, refl, sym, ◌∙◌, ap, subst}
use Rattle.std.proofs.Common.{arith}
use Rattle.std.specs.Prelude.{not, slice_get}
use Rattle.std.specs.List.{filter}
use Rattle.std.proofs.lemmas.List.{map-append}
use Rattle.std.proofs.lemmas.List.Elements.{filter-append}
use Rattle.std.proofs.lemmas.Option.{slice_get_past}
use Rattle.std.proofs.Math.Seq.{drop-cons}
use Rattle.matchers.specs.Views.{QueryView}
use Rattle.postings.specs.declared.part_name.PartName.TheVariants.{Block as BlockName}
use Rattle.block.specs.Blocks.{Shown}
use Rattle.head.specs.Blocks.{part_in}
use Rattle.head.specs.Heads.{BlockPart, SnapshotParts}
use Rattle.block_search.specs.Skipping.{AskedPart, is_skipped, asked_blocks, asked_head}
use Rattle.block_search.specs.Skipping.{searched_parts}
use Rattle.block_search.specs.Places.{block_or_head, part_at, block_places, searched_places}

from_zero : (k : ℕ) → 0 + k ≡ k
from_zero k = omega arith

next : (n : ℕ) → suc n ≡ n + 1
next n = omega arith

shifted : (n k : ℕ) → n + suc k ≡ (n + 1) + k
shifted n k = omega arith

module _ (query : QueryView) (s : SnapshotParts) where
  parts_of_blocks : (n : ℕ) (bs : List BlockPart) → ((k : ℕ) → slice_get s.blocks (n + k)
      ≡ slice_get bs k)
      → map (part_at query s) (block_places query n bs) ≡ filter (λ p. not p.skipped)
      (asked_blocks query n bs)
  parts_of_blocks n [] at = refl
  parts_of_blocks n (b ∷ bs) at =
      let first : n + 0 ≡ n = omega arith in
      let here : slice_get s.blocks n ≡ Some b = subst (λ (m : ℕ). slice_get s.blocks m ≡ Some b)
      first (at 0) in
      let next = λ (k : ℕ). subst (λ (m : ℕ). slice_get s.blocks m ≡ slice_get bs k) (shifted n k)
      (at (suc k)) in
      let rest = parts_of_blocks (n + 1) bs next in
      let asked : AskedPart = record {
        name = BlockName n;
        part = b.part;
        skipped = is_skipped query
            (b.min, b.max);
      } in
      let others = filter (λ p. not p.skipped) (asked_blocks query (n + 1) bs) in
      let places = block_places query (n + 1) bs in
      elim (is_skipped query (b.min, b.max)) as (λ t. map (part_at query s)
      (cond t places (n ∷ places)) ≡ cond (not t) (asked ∷ others) others) [
        | true ↦ rest
        | false ↦ λ i. block_or_head query s n (here i) ∷ rest i
      ]

  pub parts_at_places : map (part_at query s) (searched_places query s) ≡ searched_parts query s
  parts_at_places =
      map-append (part_at query s) (block_places query 0 s.blocks) (length s.blocks ∷ [])
      ∙ (λ i. parts_of_blocks 0 s.blocks (λ k. ap (slice_get s.blocks) (from_zero k)) i
      ++ block_or_head query s (length s.blocks) (slice_get_past s.blocks (length s.blocks)
      (omega arith) i) ∷ [])
      ∙ sym (filter-append (λ p. not p.skipped) (asked_blocks query 0 s.blocks) (asked_head s ∷ []))

-- one block more: its place, or none where it is skipped
pub next_places : (query : QueryView) (n : ℕ) (bs : List Shown) (b : Shown) (old new whole : List ℕ)
    → n < length bs → b ≡ get_or bs n b
    → new ≡ cond (is_skipped query b.range) old (old ++ n ∷ []) → old ++ block_places query n
    (map part_in (drop n bs)) ≡ whole
    → new ++ block_places query (n + 1) (map part_in (drop (n + 1) bs)) ≡ whole
next_places query n bs b old new whole lt is moved inv =
    let rest = block_places query (n + 1) (map part_in (drop (n + 1) bs)) in
    let blocks : drop n bs ≡ b ∷ drop (n + 1) bs = drop-cons bs n b lt
    ∙ (λ i. sym is i ∷ drop (next n i) bs) in
    ap (λ ps. ps ++ rest) moved
    ∙ elim (is_skipped query b.range) as (λ t. cond t old (old ++ n ∷ []) ++ rest ≡ old
    ++ cond t rest (n ∷ rest)) [
      | true ↦ refl
      | false ↦ append_assoc old (n ∷ []) rest
    ]
    ∙ ap (λ xs. old ++ block_places query n (map part_in xs)) (sym blocks)
    ∙ inv
