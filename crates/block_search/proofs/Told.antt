-- What is told of parts, one after another.
use Rattle.std.proofs.Common.{◌≡◌, ℕ, zero, suc, ◌+◌, ◌-◌, ◌<◌, Bool, true, false, cond, List}
use Rattle.std.proofs.Common.{[], ◌∷◌, ◌++◌, drop, length, append_assoc, refl, sym, ◌∙◌, ap}
use Rattle.std.proofs.Common.{subst, arith}
use Rattle.std.specs.Prelude.{not, ◌==◌}
use Rattle.std.specs.List.{filter, AllZip}
use Rattle.matchers.specs.Views.{QueryView}
use Rattle.postings.specs.declared.part_name.PartName.TheVariants.{Block as BlockName}
use Rattle.cover.specs.declared.part_cover.PartAnswer.{PartAnswer}
use Rattle.head.specs.Heads.{BlockPart, SnapshotParts}
use Rattle.block_search.specs.Skipping.{AskedPart, is_skipped, asked_blocks, asked_head}
use Rattle.block_search.specs.Answers.{IsAnswerOf}
use Rattle.block_search.specs.Answered.{IsAnsweredPart}
use Rattle.block_search.specs.Telling.{is_block, is_next, told_of_block, told_of_head}
use Rattle.block_search.specs.Telling.{left_after_block}
use Rattle.block_search.specs.declared.answered.AnsweredPart.{AnsweredPart}
use Rattle.block_search.specs.declared.answered.AnsweredPart.TheVariants.{Skipped}

-- what is told of so many blocks, of which the first has this number, and of the head
abbrev pub told_from : ℕ → ℕ → List PartAnswer → List AnsweredPart
told_from n zero answers = told_of_head answers
told_from n (suc count) answers =
    told_of_block n answers ++ told_from (n + 1) count (left_after_block n answers)

same : (n : ℕ) → (n == n) ≡ true
same n = grind arith

other : (n m : ℕ) → n < m → (m == n) ≡ false
other n m lt = grind arith

module _ (query : QueryView) (s : SnapshotParts) where
  abbrev asked : ℕ → List BlockPart → List AskedPart
  asked n bs = asked_blocks query n bs ++ asked_head s ∷ []

  abbrev searched : ℕ → List BlockPart → List AskedPart
  searched n bs = filter (λ p. not p.skipped) (asked n bs)

  abbrev block : ℕ → BlockPart → AskedPart
  block n b =
      record { name = BlockName n; part = b.part; skipped = is_skipped query (b.min, b.max) }

  not_of : (n m : ℕ) (b : BlockPart) (others : List AskedPart) (answers : List PartAnswer) → n < m
      → AllZip (IsAnswerOf query) (block m b ∷ others) answers → is_next n answers ≡ false
  not_of n m b others [] lt are = absurd are
  not_of n m b others (a ∷ later) lt are = ap (is_block n) are.0.name ∙ other n m lt

  -- the next answer is of no block before
  not_before : (bs : List BlockPart) (n m : ℕ) (answers : List PartAnswer) → n < m
      → AllZip (IsAnswerOf query) (searched m bs) answers → is_next n answers ≡ false
  not_before [] n m [] lt are = refl
  not_before [] n m (a ∷ later) lt are = ap (is_block n) are.0.name
  not_before (b ∷ bs) n m answers lt are =
      elim (is_skipped query (b.min, b.max)) as (λ t. AllZip (IsAnswerOf query)
      (cond (not t) (block m b ∷ searched (m + 1) bs) (searched (m + 1) bs)) answers
      → is_next n answers ≡ false) [
        | true ↦ λ rest. not_before bs n (m + 1) answers (omega (arith, lt)) rest
        | false ↦ λ rest. not_of n m b (searched (m + 1) bs) answers lt rest
      ] are

  -- what is told of a block and of all after it, by whether the next answer is the block's
  abbrev told_by : ℕ → List BlockPart → List PartAnswer → Bool → List AnsweredPart
  told_by n bs answers next =
      cond next (told_of_head answers) (Skipped (BlockName n) ∷ [])
      ++ told_from (n + 1) (length bs) (cond next (drop 1 answers) answers)

  told_searched : (n : ℕ) (b : BlockPart) (bs : List BlockPart) (answers : List PartAnswer)
      → is_skipped query (b.min, b.max) ≡ false
      → ((later : List PartAnswer) → AllZip (IsAnswerOf query) (searched (n + 1) bs) later
      → AllZip (IsAnsweredPart query) (asked (n + 1) bs) (told_from (n + 1) (length bs) later))
      → AllZip (IsAnswerOf query) (block n b ∷ searched (n + 1) bs) answers
      → AllZip (IsAnsweredPart query) (block n b ∷ asked (n + 1) bs)
      (told_by n bs answers (is_next n answers))
  told_searched n b bs [] e rest are = absurd are
  told_searched n b bs (a ∷ later) e rest are =
      subst (λ t. AllZip (IsAnsweredPart query) (block n b ∷ asked (n + 1) bs)
      (told_by n bs (a ∷ later) t)) (sym (ap (is_block n) are.0.name ∙ same n))
      ((e, are.0), rest later are.1)

  pub told_is : (bs : List BlockPart) (n : ℕ) (answers : List PartAnswer)
      → AllZip (IsAnswerOf query) (searched n bs) answers
      → AllZip (IsAnsweredPart query) (asked n bs) (told_from n (length bs) answers)
  told_is [] n [] are = absurd are
  told_is [] n (a ∷ later) are = ((refl, are.0), tt)
  told_is (b ∷ bs) n answers are =
      elim (is_skipped query (b.min, b.max)) as (λ t. is_skipped query (b.min, b.max) ≡ t
      → AllZip (IsAnswerOf query) (cond (not t) (block n b ∷ searched (n + 1) bs)
      (searched (n + 1) bs)) answers
      → AllZip (IsAnsweredPart query) (block n b ∷ asked (n + 1) bs)
      (told_by n bs answers (is_next n answers))) [
        | true ↦ λ e rest.
            subst (λ t. AllZip (IsAnsweredPart query) (block n b ∷ asked (n + 1) bs)
            (told_by n bs answers t))
            (sym (not_before bs n (n + 1) answers (omega arith) rest))
            ((e, refl), told_is bs (n + 1) answers rest)
        | false ↦ λ e rest.
            told_searched n b bs answers e (told_is bs (n + 1)) rest
      ] refl are

-- one block more
pub next_told : (n count : ℕ) (old new whole : List AnsweredPart) (left rest : List PartAnswer)
    → n < count → new ≡ old ++ told_of_block n left → rest ≡ left_after_block n left
    → old ++ told_from n (count - n) left ≡ whole
    → new ++ told_from (n + 1) (count - (n + 1)) rest ≡ whole
next_told n count old new whole left rest lt moved taken inv =
    let k = count - (n + 1) in
    let more : count - n ≡ suc k = omega (arith, lt) in
    (λ i. moved i ++ told_from (n + 1) k (taken i))
    ∙ append_assoc old (told_of_block n left) (told_from (n + 1) k (left_after_block n left))
    ∙ ap (λ j. old ++ told_from n j left) (sym more)
    ∙ inv
