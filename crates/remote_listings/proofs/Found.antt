-- The label sets that are found in a part.
use Rattle.std.proofs.Common.{◌≡◌, ℕ, ℤ, Bool, true, false, cond, List, [], ◌∷◌, ◌++◌, map}
use Rattle.std.proofs.Common.{Option, None, Some, refl, sym, ap, ◌∙◌, append-nil}
use Rattle.std.specs.Prelude.{◌&&◌, option_map, flat_map}
use Rattle.std.specs.List.{filter, filter_map, cons_option}
use Rattle.std.specs.List.Sorted.{IsStrictlyIncreasing}
use Rattle.std.proofs.lemmas.List.Concat.{flat_map-append}
use Rattle.labels.specs.Labels.{Labels}
use Rattle.labels.specs.Rows.{Row}
use Rattle.labels.specs.Parts.{Part, has_sample, labels_in, references, row_at}
use Rattle.matchers.specs.Satisfies.{satisfies_all}
use Rattle.matchers.specs.Views.{QueryView}
use Rattle.cover.specs.Asking.{matching_references}
use Rattle.cover.specs.Certificates.{is_match, matches_of}
use Rattle.cover.specs.declared.certificate.Interval.{Interval}
use Rattle.block.specs.Blocks.{Shown}
use Rattle.head.specs.Blocks.{part_in}
use Rattle.head.specs.Heads.{BlockPart, SnapshotParts, head_part}
use Rattle.block_search.specs.Answering.{row_of_interval, row_within}
use Rattle.block_search.specs.Skipping.{HasNoSample}
use Rattle.block_search.proofs.Lookups.{rows_matched}
use Rattle.remote_listings.specs.Finding.{labels_of_interval}
use Rattle.remote_listings.specs.Listed.{answers, found_in, found_in_part}

module _ (from to : ℤ) (part : Part) where
  option_first : (o : Option Row) (rows : List Row) (sets : List Labels)
      → map (λ (row : Row). row.0) rows ≡ sets
      → map (λ (row : Row). row.0) (cons_option (option_map (row_within from to) o) rows)
      ≡ cons_option (labels_in o) sets
  option_first None rows sets e = e
  option_first (Some row) rows sets e = ap (λ (s : List Labels). row.0 ∷ s) e

  -- the label sets of a certificate's matches are those of its rows
  labels_first : (certificate : List Interval)
      → map (λ (row : Row). row.0) (filter_map (row_of_interval from to part) certificate)
      ≡ filter_map (labels_of_interval part) certificate
  labels_first [] = refl
  labels_first (i ∷ is) = go (is_match i.verdict) (labels_first is)
    where
      go : (b : Bool)
          → map (λ (row : Row). row.0) (filter_map (row_of_interval from to part) is)
          ≡ filter_map (labels_of_interval part) is
          → map (λ (row : Row). row.0)
          (cons_option (cond b (option_map (row_within from to) (row_at i.from part)) None)
          (filter_map (row_of_interval from to part) is))
          ≡ cons_option (cond b (labels_in (row_at i.from part)) None)
          (filter_map (labels_of_interval part) is)
      go true more =
          option_first (row_at i.from part) (filter_map (row_of_interval from to part) is)
          (filter_map (labels_of_interval part) is) more
      go false more = more

  firsts : (rows : Part)
      → map (λ (row : Row). row.0) (map (λ (r : ℕ × Row). row_within from to r.1) rows)
      ≡ map (λ (r : ℕ × Row). r.1.0) rows
  firsts [] = refl
  firsts (r ∷ rows) = ap (λ (s : List Labels). r.1.0 ∷ s) (firsts rows)

-- what a certificate of all that matches stands for
pub matched_labels : (query : QueryView) (part : Part) (certificate : List Interval)
    → IsStrictlyIncreasing (references part)
    → matches_of certificate ≡ matching_references part query
    → filter_map (labels_of_interval part) certificate ≡ found_in_part query part
matched_labels query part certificate rising exact =
    sym (labels_first query.from query.to part certificate)
    ∙ ap (map (λ (row : Row). row.0))
    (rows_matched (satisfies_all query.matchers) query.from query.to part certificate rising exact)
    ∙ firsts query.from query.to part (filter (answers query) part)

-- a part without a sample in the range has nothing that is found
pub none_found : (query : QueryView) (part : Part) → HasNoSample query.from query.to part
    → found_in_part query part ≡ []
none_found query [] none = refl
none_found query (row ∷ rows) none =
    go (satisfies_all query.matchers row.1.0) (none_found query rows none.1)
  where
    go : (b : Bool) → found_in_part query rows ≡ []
        → map (λ (r : ℕ × Row). r.1.0)
        (cond (b && has_sample query.from query.to row.1.1) (row ∷ filter (answers query) rows)
        (filter (answers query) rows)) ≡ []
    go true more =
        ap (λ (c : Bool). map (λ (r : ℕ × Row). r.1.0)
        (cond c (row ∷ filter (answers query) rows) (filter (answers query) rows))) none.0
        ∙ more
    go false more = more

-- what is found in blocks
pub found_in_blocks : (query : QueryView) (blocks : List Shown)
    → flat_map (found_in_part query) (map (λ (b : BlockPart). b.part) (map part_in blocks))
    ≡ flat_map (λ (b : Shown). found_in_part query b.part) blocks
found_in_blocks query [] = refl
found_in_blocks query (b ∷ blocks) =
    ap (λ (sets : List Labels). found_in_part query b.part ++ sets) (found_in_blocks query blocks)

-- what is found in all parts
pub found_in_all : (query : QueryView) (s : SnapshotParts) (blocks : List Shown)
    → map part_in blocks ≡ s.blocks
    → found_in s query
    ≡ flat_map (λ (b : Shown). found_in_part query b.part) blocks
    ++ found_in_part query (head_part s.head)
found_in_all query s blocks is =
    flat_map-append (found_in_part query) (map (λ (b : BlockPart). b.part) s.blocks)
    (head_part s.head ∷ [])
    ∙ ap (λ (sets : List Labels). flat_map (found_in_part query)
    (map (λ (b : BlockPart). b.part) s.blocks) ++ sets)
    (append-nil (found_in_part query (head_part s.head)))
    ∙ ap (λ (bs : List BlockPart). flat_map (found_in_part query)
    (map (λ (b : BlockPart). b.part) bs) ++ found_in_part query (head_part s.head)) (sym is)
    ∙ ap (λ (sets : List Labels). sets ++ found_in_part query (head_part s.head))
    (found_in_blocks query blocks)
