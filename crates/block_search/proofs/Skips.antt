-- A block that is skipped has nothing that a query selects.
use Rattle.std.proofs.Common.{◌≡◌, ℕ, ◌+◌, ℤ, Bool, true, false, cond, List, [], ◌∷◌, ◌++◌, map}
use Rattle.std.proofs.Common.{refl, sym, ◌∙◌, ap, subst, arith}
use Rattle.std.specs.Prelude.{◌&&◌, ◌||◌, not, int_le, int_lt}
use Rattle.std.specs.List.{filter, AllByRecursion, All}
use Rattle.std.proofs.lemmas.Int.{ints}
use Rattle.std.proofs.lemmas.List.Elements.{All-head, All-tail, filter-append}
use Rattle.labels.specs.Labels.{Labels}
use Rattle.labels.specs.Contents.{Content, in_range}
use Rattle.labels.specs.Rows.{points_of}
use Rattle.labels.specs.Parts.{Part, has_sample, rows_in, laid_over, over, part_kept}
use Rattle.labels.proofs.Restricting.{kept-over}
use Rattle.matchers.specs.Views.{QueryView}
use Rattle.matchers.specs.Satisfies.{satisfies_all}
use Rattle.postings.specs.declared.part_name.PartName.TheVariants.{Block as BlockName}
use Rattle.block.specs.Blocks.{Shown, AreInside}
use Rattle.block.specs.Ranges.{covers}
use Rattle.head.specs.Blocks.{part_in}
use Rattle.head.specs.Heads.{BlockPart, SnapshotParts, head_part, parts_of}
use Rattle.block_search.specs.Skipping.{AskedPart, is_skipped, asked_blocks, asked_head}
use Rattle.block_search.specs.Skipping.{searched_parts, HasNoSample, LosesNothing}
use Rattle.block_search.specs.Answering.{row_within}
use Rattle.block_search.proofs.Found.{answers, rows_found}
use Rattle.block_search.proofs.PartRows.{points_found}

outside : (min max from to t : ℤ) → (int_le min t && int_lt t max) ≡ true
    → (int_le max from || int_lt to min) ≡ true → in_range from to t ≡ false
outside min max from to t e f = grind (arith, ints)

none_in_samples : (range : ℤ × ℤ) (from to : ℤ) (ss : List (ℤ × ℤ))
    → (int_le range.1 from || int_lt to range.0) ≡ true
    → AllByRecursion (λ (s : ℤ × ℤ). covers range s.0 ≡ true) ss → has_sample from to ss ≡ false
none_in_samples range from to [] out inside = refl
none_in_samples range from to (s ∷ ss) out inside =
    ap (λ b. b || has_sample from to ss) (outside range.0 range.1 from to s.0 inside.0 out)
    ∙ none_in_samples range from to ss out inside.1

-- a part inside a range without a time of the query's has no sample there
pub none_outside : (range : ℤ × ℤ) (from to : ℤ) (part : Part)
    → (int_le range.1 from || int_lt to range.0) ≡ true → AreInside range part
    → HasNoSample from to part
none_outside range from to [] out inside = tt
none_outside range from to (row ∷ rows) out inside = (
  none_in_samples range from to row.1.1 out
      inside.0,
  none_outside range from to rows out inside.1,
)

module _ (sat : Labels → Bool) (from to : ℤ) where
  rows_none : (part : Part) → HasNoSample from to part → rows_found sat from to part ≡ []
  rows_none [] none = refl
  rows_none (r ∷ rs) none =
      let rest = rows_none rs none.1 in
      let others = filter (answers sat from to) rs in
      elim (sat r.1.0) as (λ b. map (λ row. row_within from to row.1) (cond
      (b && has_sample from to r.1.1) (r ∷ others) others) ≡ []) [
        | true ↦ ap (λ b. map (λ row. row_within from to row.1) (cond b (r ∷ others) others)) none.0
            ∙ rest
        | false ↦ rest
      ]

  pub none_kept : (part : Part) → HasNoSample from to part
      → points_of (rows_in (part_kept (λ p. sat p.0 && in_range from to p.1) part)) ≡ []
  none_kept part none = points_found sat from to part ∙ ap points_of (rows_none part none)

-- a block that is skipped has no sample in the query's range
abbrev pub IsSilent : QueryView → Shown → Type 0
IsSilent query b = is_skipped query b.range ≡ true → HasNoSample query.from query.to b.part

module _ (query : QueryView) (head : AskedPart) where
  abbrev kept : Part → Part
  kept part = part_kept (λ p. satisfies_all query.matchers p.0 && in_range query.from query.to p.1)
      part

  abbrev all_kept : List AskedPart → List Part
  all_kept parts = map kept (map (λ p. p.part) parts)

  fewer : (n : ℕ) (bs : List Shown) (c : Content) → All (IsSilent query) bs
      → over c (all_kept (filter (λ p. not p.skipped) (asked_blocks query n (map part_in bs))
      ++ head ∷ [])) ≡ over c (map kept (map (λ b. b.part) (map part_in bs) ++ head.part ∷ []))
  fewer n [] c silent = refl
  fewer n (b ∷ bs) c silent =
      let rest = fewer (n + 1) bs in
      let later = All-tail (IsSilent query) b bs silent in
      let asked : AskedPart = record {
        name = BlockName n;
        part = b.part;
        skipped = is_skipped query
            b.range;
      } in
      let others = filter (λ p. not p.skipped) (asked_blocks query (n + 1) (map part_in bs)) in
      let laid = laid_over (points_of (rows_in (kept b.part))) c in
      elim (is_skipped query b.range) as (λ t. is_skipped query b.range ≡ t
      → over c (all_kept (cond (not t) (asked ∷ others) others ++ head ∷ []))
      ≡ over laid (map kept (map (λ b. b.part) (map part_in bs) ++ head.part ∷ []))) [
        | true ↦ λ e. rest c later
            ∙ ap (λ es. over (laid_over es c)
            (map kept (map (λ b. b.part) (map part_in bs) ++ head.part ∷ [])))
            (sym (none_kept (satisfies_all query.matchers) query.from query.to b.part
            (All-head (IsSilent query) b bs silent e)))
        | false ↦ λ e. rest laid later
      ] refl

-- so nothing is lost where the blocks that are skipped are
pub loses_nothing : (query : QueryView) (s : SnapshotParts) (bs : List Shown) → map part_in bs
    ≡ s.blocks → All (IsSilent query) bs → LosesNothing query s
loses_nothing query s bs is silent =
    let test = λ (p : Labels × ℤ). satisfies_all query.matchers p.0 && in_range query.from query.to
    p.1 in
    kept-over test (map (λ p. p.part) (searched_parts query s)) [] tt
    ∙ ap (λ ps. over [] (map (part_kept test) (map (λ p. p.part) ps))) (filter-append
    (λ p. not p.skipped) (asked_blocks query 0 s.blocks) (asked_head s ∷ []))
    ∙ subst (λ (blocks : List BlockPart). over [] (all_kept query (asked_head s)
    (filter (λ p. not p.skipped) (asked_blocks query 0 blocks) ++ asked_head s ∷ []))
    ≡ over [] (map (part_kept test) (map (λ b. b.part) blocks ++ head_part s.head ∷ []))) is
    (fewer query (asked_head s) 0 bs [] silent)
    ∙ sym (kept-over test (parts_of s) [] tt)
