-- What is right is refused for want of memory alone.
use Rattle.std.proofs.Common.{◌≡◌, List, [], Result, Ok, Err, IfErr}
use Rattle.labels.specs.Rows.{Row, AreRows}
use Rattle.labels.specs.Parts.{Part}
use Rattle.matchers.specs.Views.{QueryView}
use Rattle.cover.specs.declared.part_cover.PartAnswer.{PartAnswer}
use Rattle.auditor.specs.declared.flaw.Flaw.{Flaw}
use Rattle.auditor.specs.declared.flaw.Flaw.TheVariants.{Hidden, WrongMerge, Memory}
use Rattle.auditor.specs.Auditing.{IsSoundAnswer, IsFlaw, IsAuditError, IsHiding, selected_content}
use Rattle.auditor.specs.Listing.{IsUnmerged, last_listed}
use Rattle.auditor.proofs.Excluding.{sound_not}
use Rattle.auditor.proofs.Told.{memory_alone}

module _ (part : Part) (query : QueryView) (answer : PartAnswer) where
  pub sound_passes : {A : Type 0} (result : Result A Flaw) → IsSoundAnswer part query answer
      → IfErr result (IsAuditError part query answer) → IfErr result (λ e. e ≡ Memory)
  sound_passes (Ok x) sound h = tt
  sound_passes (Err e) sound h =
      memory_alone (IsFlaw part query answer)
      (λ flaw k. sound_not part query answer flaw sound k) e h

module _ (part : Part) (query : QueryView) where
  pub silent_passes : {A : Type 0} (result : Result A Flaw) → selected_content part query ≡ []
      → IfErr result (IsHiding part query) → IfErr result (λ e. e ≡ Memory)
  silent_passes (Ok x) silent h = tt
  silent_passes (Err e) silent h =
      memory_alone (λ f. (f ≡ Hidden) × (selected_content part query ≡ [] → ⊥))
      (λ flaw k. k.1 silent) e h

module _ (answers : List PartAnswer) (rows : List Row) where
  pub merged_passes : {A : Type 0} (result : Result A Flaw)
      → AreRows rows (last_listed answers) → IfErr result (IsUnmerged answers rows)
      → IfErr result (λ e. e ≡ Memory)
  merged_passes (Ok x) merged h = tt
  merged_passes (Err e) merged h =
      memory_alone (λ f. (f ≡ WrongMerge) × (AreRows rows (last_listed answers) → ⊥))
      (λ flaw k. k.1 merged) e h
