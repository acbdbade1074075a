use Rattle.std.proofs.Common.{◌≡◌, sym, ◌∙◌, subst, rules, to_z, of_z, w64}
use Rattle.std.specs.List.{filter}
use Rattle.std.specs.List.Sorted.{IsStrictlyIncreasing}
use Rattle.labels.specs.Parts.{live_references}
use Rattle.labels.proofs.PartRows.{kept_rises}
use Rattle.matchers.specs.Satisfies.{satisfies_all}
use Rattle.block.specs.Fewer.{is_among}
use Rattle.head.proofs.Selecting.{struck_rows}
use Rattle.head.proofs.SlotLaws.{if_ok}
use Rattle.head.proofs.selection.struck_references.Goals as goal

pub common-requires : goal.common-requires
common-requires g c =
    let part = g.S.Source.part c.args.source.now in
    subst IsStrictlyIncreasing (sym (c.as_slice.ensures.value ∙ c.in_ok-found.ensures))
    (kept_rises (λ row. satisfies_all c.args.matchers.now row.1.0) part (g.met.S.Source.is_part c.args.source.now).ascending)

pub returns : goal.returns
returns g c =
    let from_is : to_z w64 (of_z w64 c.args.from) ≡ c.args.from = search rules in
    let to_is : to_z w64 (of_z w64 c.args.to) ≡ c.args.to = search rules in
    let part = g.S.Source.part c.args.source.now in
    let listed = c.in_ok-live.ensures ∙ (λ i. live_references (from_is i) (to_is i) part) in
    let held = c.as_slice.ensures.value ∙ c.in_ok-found.ensures in
    if_ok c.common.result
    (λ found is. is ∙ (λ i. filter (is_among (listed i)) (held i))
    ∙ struck_rows c.args.matchers.now c.args.from c.args.to part (g.met.S.Source.is_part c.args.source.now).ascending)
    c.common.ensures
