use Rattle.std.proofs.Common.{◌≡◌, ◌-◌, ◌++◌, List, length, reverse, sym, subst, ap, ◌∙◌, arith}
use Rattle.std.specs.List.{AllZip}
use Rattle.std.proofs.lemmas.List.{length-map}
use Rattle.cover.specs.declared.part_cover.PartAnswer.{PartAnswer}
use Rattle.head.specs.Blocks.{part_in}
use Rattle.block_search.specs.Skipping.{asked_parts}
use Rattle.block_search.specs.Answered.{IsAnsweredPart}
use Rattle.block_search.specs.declared.answered.AnsweredPart.{AnsweredPart}
use Rattle.block_search.proofs.Told.{told_from, told_is, next_told}
use Rattle.block_search.proofs.answered.answered_parts.Goals as goal

pub loop-number-preserved : goal.loop-number-preserved
loop-number-preserved c =
    next_told c.loop-number.number (length c.blocks-count.result.now) c.loop-number.parts.items _ _
    (reverse c.loop-number.left.items) _ c.loop-number-test.true
    c.in_ok-push_block.ensures.told c.in_ok-push_block.ensures.left c.loop-number.invariant

pub returns : goal.returns
returns c = λ query are.
    let snapshot = c.args.snapshot.now in
    let count = length c.blocks-count.result.now in
    let n = c.loop-number.number in
    let answers : List PartAnswer = c.args.answers.items in
    let old : List AnsweredPart = c.loop-number.parts.items in
    let left : List PartAnswer = reverse c.loop-number.left.items in
    let over : count - n ≡ 0 = omega (arith, c.loop-number-test.false) in
    let many : length snapshot.blocks ≡ count =
    ap length (sym c.blocks-count.ensures) ∙ length-map c.blocks-count.result.now part_in in
    subst (λ (parts : List AnsweredPart). AllZip (IsAnsweredPart query)
    (asked_parts query snapshot) parts)
    (ap (λ k. told_from 0 k answers) many
    ∙ sym c.loop-number.invariant
    ∙ ap (λ k. old ++ told_from n k left) over
    ∙ sym c.in_ok-push_next.ensures.told)
    (told_is query snapshot snapshot.blocks 0 answers are)
