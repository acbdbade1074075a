-- The rows that a certificate stands for, sorted, are those of the part's content.
use Rattle.std.proofs.Common.{◌≡◌, ℕ, ap, sym, ◌∙◌, subst, refl, length, List, [], ◌∷◌}
use Rattle.std.specs.List.{filter, filter_map}
use Rattle.std.specs.List.Sorted.{IsPermutation, IsSortedBy, IsStableBy}
use Rattle.std.proofs.lemmas.List.Kept.{IsSortedBy-filter}
use Rattle.std.proofs.lemmas.List.MinMax.{ranks_by}
use Rattle.std.proofs.lemmas.List.Sorted.{IsPermutation-refl, length_permutation}
use Rattle.labels.specs.Contents.{selected}
use Rattle.labels.specs.Laws.{labels_total}
use Rattle.labels.specs.Rows.{Row, AreRows, row_before}
use Rattle.labels.specs.Parts.{Part, IsPart, content_of}
use Rattle.labels.proofs.NamedPairs.{IsSortedBy-map}
use Rattle.matchers.specs.Views.{QueryView}
use Rattle.matchers.specs.Satisfies.{satisfies_all}
use Rattle.cover.specs.Asking.{matching_references}
use Rattle.cover.specs.Certificates.{matches_of}
use Rattle.cover.specs.Covers.{IsCoverOf}
use Rattle.cover.specs.declared.certificate.Interval.{Interval}
use Rattle.cover.specs.declared.part_cover.PartAnswer.{PartAnswer}
use Rattle.block.specs.Blocks.{AreInLabelOrder}
use Rattle.block_search.specs.Answering.{row_of_interval, row_within}
use Rattle.block_search.specs.Answers.{IsPartAnswer}
use Rattle.block_search.proofs.Found.{answers, rows_found}
use Rattle.block_search.proofs.Lookups.{rows_matched, length-found}
use Rattle.block_search.proofs.PartRows.{AreRows-found}

module _ (query : QueryView) (part : Part) (is : IsPart part) (certificate : List Interval)
    (matches : matches_of certificate ≡ matching_references part query) where
  found : filter_map (row_of_interval query.from query.to part) certificate
      ≡ rows_found (satisfies_all query.matchers) query.from query.to part
  found = rows_matched (satisfies_all query.matchers) query.from query.to part certificate
      is.ascending matches

  pub sorted_rows : (rows sorted : List Row) → rows
      ≡ filter_map (row_of_interval query.from query.to part) certificate
      → IsPermutation rows sorted
      → IsSortedBy row_before sorted → IsStableBy row_before rows sorted
      → AreRows sorted (selected (satisfies_all query.matchers) query.from query.to
      (content_of (part ∷ [])))
  sorted_rows rows sorted e moved up stable =
      AreRows-found (satisfies_all query.matchers) query.from query.to part is sorted
      (subst (λ (xs : List Row). IsPermutation xs sorted) (e ∙ found) moved)
      up
      (subst (λ (xs : List Row). IsStableBy row_before xs sorted) (e ∙ found) stable)

  pub sorted_length : (rows sorted : List Row) → rows
      ≡ filter_map (row_of_interval query.from query.to part) certificate
      → IsPermutation rows sorted
      → length sorted ≡ length (matches_of certificate)
  sorted_length rows sorted e moved =
      length_permutation rows sorted moved
      ∙ ap length (e ∙ found)
      ∙ length-found (satisfies_all query.matchers) query.from query.to part
      ∙ sym (ap length matches)

  -- of a part in label order these rows are sorted
  pub rows_in_order : (rows : List Row) → rows
      ≡ filter_map (row_of_interval query.from query.to part) certificate
      → AreInLabelOrder part → IsSortedBy row_before rows
  rows_in_order rows e ordered =
      let answer = answers (satisfies_all query.matchers) query.from query.to in
      subst (IsSortedBy row_before) (sym (e ∙ found))
      (IsSortedBy-map (λ (row : ℕ × Row). row_within query.from query.to row.1) row_before
      (filter answer part)
      (IsSortedBy-filter (λ (a b : ℕ × Row). row_before a.1 b.1)
      (ranks_by labels_total (λ (row : ℕ × Row). row.1.0)) answer part ordered))

-- an answer whose rows are those of its certificate, sorted
pub sorted_answer : (query : QueryView) (part : Part) → IsPart part → (answer : PartAnswer)
    (rows : List Row) → IsCoverOf part query answer.cover → rows
    ≡ filter_map (row_of_interval query.from query.to part) answer.cover.certificate.items
    → IsPermutation rows answer.rows.items → IsSortedBy row_before answer.rows.items
    → IsStableBy row_before rows answer.rows.items → IsPartAnswer query part answer
sorted_answer query part is answer rows covers e moved up stable =
    let certificate = answer.cover.certificate.items in
    let sorted = answer.rows.items in
    record {
      rows = sorted_rows query part is certificate covers.matches rows sorted e moved up stable;
      as_many = sorted_length query part is certificate covers.matches rows sorted e moved;
      cover = covers;
    }

-- an answer of a part in label order whose rows are those of its certificate
pub ordered_answer : (query : QueryView) (part : Part) → IsPart part → AreInLabelOrder part
    → (answer : PartAnswer) → IsCoverOf part query answer.cover → answer.rows.items
    ≡ filter_map (row_of_interval query.from query.to part) answer.cover.certificate.items
    → IsPartAnswer query part answer
ordered_answer query part is ordered answer covers e =
    sorted_answer query part is answer answer.rows.items covers e
    (IsPermutation-refl answer.rows.items)
    (rows_in_order query part is answer.cover.certificate.items covers.matches answer.rows.items e
    ordered)
    (λ x. refl)
