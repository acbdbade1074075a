use Rattle.std.proofs.Common.{sym, subst, ap, ◌∙◌}
use Rattle.labels.specs.Parts.{IsPart}
use Rattle.matchers.specs.Satisfies.{satisfies_all}
use Rattle.kept_world.specs.States.{struck_part}
use Rattle.kept_world.proofs.Parts.{part_struck}
use Rattle.kept_world.proofs.block.block_without.Goals as goal

pub of_series-requires : goal.of_series-requires
of_series-requires c =
    let o = c.args.choice.now in
    let sat = satisfies_all o.matchers in
    subst IsPart (sym (c.in_ok-rows.ensures.struck ∙ ap (struck_part sat o.from o.to) c.into_series.ensures.items))
    (part_struck sat o.from o.to c.args.block c.into_series.ensures.part)
