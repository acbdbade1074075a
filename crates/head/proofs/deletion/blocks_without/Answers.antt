use Rattle.std.proofs.Common.{◌≡◌, map, ◌∙◌, rules, to_z, of_z, w64}
use Rattle.std.proofs.lemmas.List.{take_all}
use Rattle.head.specs.Blocks.{part_in}
use Rattle.head.specs.Removing.{blocks_kept, survives}
use Rattle.head.proofs.deletion.blocks_without.Goals as goal

pub returns : goal.returns
returns c =
    let from_is : to_z w64 (of_z w64 c.args.from) ≡ c.args.from = search rules in
    let to_is : to_z w64 (of_z w64 c.args.to) ≡ c.args.to = search rules in
    let all = take_all c.loop-block.block-index c.args.blocks.now c.loop-block-test.false in
    c.loop-block.invariant ∙ (λ i. blocks_kept (survives c.args.matchers.now (from_is i) (to_is i)) (map part_in (all i)))
