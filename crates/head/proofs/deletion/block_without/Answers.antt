use Rattle.std.proofs.Common.{◌≡◌, ◌∙◌, subst, rules, to_z, of_z, w64}
use Rattle.std.specs.List.Sorted.{IsStrictlyIncreasing}
use Rattle.labels.specs.Parts.{Part, references, references_of, IsPart}
use Rattle.block.specs.Fewer.{part_without}
use Rattle.head.specs.Removing.{is_struck}
use Rattle.head.proofs.Striking.{part_struck}
use Rattle.head.proofs.SlotLaws.{both_ok}
use Rattle.head.proofs.deletion.block_without.Goals as goal

pub returns : goal.returns
returns c =
    let from_is : to_z w64 (of_z w64 c.args.from) ≡ c.args.from = search rules in
    let to_is : to_z w64 (of_z w64 c.args.to) ≡ c.args.to = search rules in
    let ms = c.args.matchers.now in
    let part : Part = c.args.block.now.part in
    let rises : IsStrictlyIncreasing (references part) = (subst IsPart c.view.ensures c.view.result.is_part).ascending in
    let listed = c.as_slice.ensures.value ∙ c.in_ok-references.ensures
    ∙ (λ i. references_of (is_struck ms (from_is i) (to_is i)) (c.view.ensures i)) in
    let left = (λ i. part_without (listed i) (from_is i) (to_is i) part) ∙ part_struck ms c.args.from c.args.to part rises in
    both_ok c.without.result
    (λ b range is. λ i. record { min = (range i).0; max = (range i).1; part = (is ∙ left) i })
    c.without.ensures.range c.without.ensures.part
