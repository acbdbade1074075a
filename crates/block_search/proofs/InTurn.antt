-- Answers that were found one after another.
use Rattle.std.proofs.Common.{◌≡◌, ℕ, ◌+◌, ◌<◌, ◌≤◌, List, [], ◌∷◌, ◌++◌, map, take, length, get_or}
use Rattle.std.proofs.Common.{ap, sym, subst, ◌∙◌}
use Rattle.std.proofs.lemmas.List.{take_all, take_more}
use Rattle.std.proofs.lemmas.Slice.Zip.{all_zipped_more}
use Rattle.std.specs.List.{AllZip}
use Rattle.cover.specs.declared.part_cover.PartAnswer.{PartAnswer}
use Rattle.matchers.specs.Views.{QueryView}
use Rattle.head.specs.Heads.{SnapshotParts}
use Rattle.block_search.specs.Skipping.{AskedPart}
use Rattle.block_search.specs.Places.{part_at, searched_places}
use Rattle.block_search.specs.Answers.{IsAnswerOf, AreAnswers}
use Rattle.block_search.proofs.Zips.{AllZip-map}
use Rattle.block_search.proofs.PlaceLaws.{parts_at_places}

module _ (query : QueryView) (s : SnapshotParts) where
  -- the answers of the parts at places
  abbrev pub AreAt : List ℕ → List PartAnswer → Type 0
  AreAt places answers = AllZip (λ place answer. IsAnswerOf query (part_at query s place) answer)
      places answers

  -- one answer more
  pub one_more : (places : List ℕ) (i : ℕ) (old new : List PartAnswer) (answer : PartAnswer)
      → i < length places → new ≡ old ++ answer ∷ [] → AreAt (take i places) old
      → IsAnswerOf query (part_at query s (get_or places i 0)) answer
      → AreAt (take (i + 1) places) new
  one_more places i old new answer lt moved before is =
      subst (λ (answers : List PartAnswer). AreAt (take (i + 1) places) answers) (sym moved)
      (subst (λ (ps : List ℕ). AreAt ps (old ++ answer ∷ [])) (sym (take_more places i 0 lt))
      (all_zipped_more (λ place answer. IsAnswerOf query (part_at query s place) answer)
      (take i places) old (get_or places i 0) answer before is))

  -- the answers of all parts that are searched
  pub all_told : (places : List ℕ) (i : ℕ) (answers : List PartAnswer) → length places ≤ i
      → places ≡ searched_places query s → AreAt (take i places) answers
      → AreAnswers query s answers
  all_told places i answers ends is told =
      subst (λ (parts : List AskedPart). AllZip (IsAnswerOf query) parts answers)
      (ap (map (part_at query s)) is ∙ parts_at_places query s)
      (AllZip-map (IsAnswerOf query) (part_at query s) places answers
      (subst (λ (ps : List ℕ). AreAt ps answers) (take_all i places ends) told))
