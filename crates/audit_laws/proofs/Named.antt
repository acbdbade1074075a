-- What is answered under a part's name is sound for that part.
use Rattle.std.proofs.Common.{◌≡◌, ℕ, ◌≤◌, true, false, Bool, List, [], ◌∷◌, Some, None, Option, map, length, refl, sym, subst, ◌∙◌, ap}
use Rattle.std.specs.Prelude.{slice_get, is_none}
use Rattle.std.specs.List.{All, AllZip}
use Rattle.std.proofs.lemmas.List.Elements.{All-cons, All-nil}
use Rattle.std.proofs.lemmas.Option.{slice_get_past}
use Rattle.labels.proofs.Times.{true_not_false}
use Rattle.matchers.specs.Views.{QueryView}
use Rattle.postings.specs.declared.part_name.PartName.{PartName}
use Rattle.postings.specs.declared.part_name.PartName.TheVariants.{Block as BlockName, Head}
use Rattle.cover.specs.declared.part_cover.PartAnswer.{PartAnswer}
use Rattle.head.specs.Heads.{BlockPart, SnapshotParts, head_part}
use Rattle.block_search.specs.Skipping.{AskedPart, searched_parts}
use Rattle.block_search.specs.Places.{block_or_head, part_at, searched_places}
use Rattle.block_search.specs.Answers.{IsAnswerOf, AreAnswers}
use Rattle.block_search.proofs.PlaceLaws.{parts_at_places}
use Rattle.auditor.specs.Auditing.{IsSoundAnswer}
use Rattle.audit_laws.specs.Told.{IsToldOf}
use Rattle.audit_laws.proofs.Answered.{sound_of_asked}

abbrev number_in : PartName → ℕ
number_in Head = 0
number_in (BlockName n) = n

abbrev is_head : PartName → Bool
is_head Head = true
is_head (BlockName n) = false

some_same : {A : Type 0} (x y : A) → Some x ≡ Some y → x ≡ y
some_same x y e = cc

module _ (query : QueryView) (s : SnapshotParts) (answer : PartAnswer) where
  pub head_sound : IsToldOf query s answer → answer.part ≡ Head
      → IsSoundAnswer (head_part s.head) query answer
  head_sound told name =
      let go : (o : Option BlockPart) → IsAnswerOf query (block_or_head query s told.0 o) answer
      → IsSoundAnswer (head_part s.head) query answer = λ o. elim o
      as (λ p. IsAnswerOf query (block_or_head query s told.0 p) answer
      → IsSoundAnswer (head_part s.head) query answer) [
        | None ↦ λ is. sound_of_asked query (block_or_head query s told.0 None) answer is
        | Some b ↦ λ is. absurd (true_not_false (ap is_head (sym name ∙ is.name)))
      ] in
      go (slice_get s.blocks told.0) told.1

  pub block_sound : (n : ℕ) (b : BlockPart) → IsToldOf query s answer → answer.part ≡ BlockName n
      → slice_get s.blocks n ≡ Some b → IsSoundAnswer b.part query answer
  block_sound n b told name at =
      let go : (o : Option BlockPart) → slice_get s.blocks told.0 ≡ o
      → IsAnswerOf query (block_or_head query s told.0 o) answer
      → IsSoundAnswer b.part query answer = λ o. elim o as (λ p. slice_get s.blocks told.0 ≡ p
      → IsAnswerOf query (block_or_head query s told.0 p) answer → IsSoundAnswer b.part query answer) [
        | None ↦ λ e is. absurd (true_not_false (ap is_head (sym is.name ∙ name)))
        | Some c ↦ λ e is.
            let place : told.0 ≡ n = ap number_in (sym is.name ∙ name) in
            let same : c ≡ b = some_same c b (sym e ∙ (ap (slice_get s.blocks) place ∙ at)) in
            subst (λ (p : BlockPart). IsSoundAnswer p.part query answer) same
            (sound_of_asked query (block_or_head query s told.0 (Some c)) answer is)
      ] in
      go (slice_get s.blocks told.0) refl told.1

  pub no_such_block : (n : ℕ) → IsToldOf query s answer → answer.part ≡ BlockName n
      → length s.blocks ≤ n → ⊥
  no_such_block n told name past =
      let go : (o : Option BlockPart) → slice_get s.blocks told.0 ≡ o
      → IsAnswerOf query (block_or_head query s told.0 o) answer
      → ⊥ = λ o. elim o as (λ p. slice_get s.blocks told.0 ≡ p
      → IsAnswerOf query (block_or_head query s told.0 p) answer → ⊥) [
        | None ↦ λ e is. true_not_false (ap is_head (sym is.name ∙ name))
        | Some c ↦ λ e is.
            let place : told.0 ≡ n = ap number_in (sym is.name ∙ name) in
            true_not_false (ap (λ (p : Option BlockPart). is_none p)
            (sym (slice_get_past s.blocks n past) ∙ (sym (ap (slice_get s.blocks) place) ∙ e)))
      ] in
      go (slice_get s.blocks told.0) refl told.1

module _ (query : QueryView) (s : SnapshotParts) where
  told_at : (places : List ℕ) (answers : List PartAnswer)
      → AllZip (IsAnswerOf query) (map (part_at query s) places) answers
      → All (IsToldOf query s) answers
  told_at [] [] are = All-nil (IsToldOf query s)
  told_at [] (a ∷ rest) are = absurd are
  told_at (p ∷ ps) [] are = absurd are
  told_at (p ∷ ps) (a ∷ rest) are =
      All-cons (IsToldOf query s) a rest (p, are.0) (told_at ps rest are.1)

  pub all_told : (answers : List PartAnswer) → AreAnswers query s answers
      → All (IsToldOf query s) answers
  all_told answers are =
      told_at (searched_places query s) answers
      (subst (λ (parts : List AskedPart). AllZip (IsAnswerOf query) parts answers)
      (sym (parts_at_places query s)) are)
