use Rattle.std.proofs.Common.{◌≡◌, sym, ◌∙◌}
use Rattle.std.specs.Ordering.{int_cmp}
use Rattle.std.specs.declared.cmp.Ordering.TheVariants.{Less}
use Rattle.exposition.proofs.Puts.{sorted_from}
use Rattle.exposition.proofs.runs.comes_after.Goals as goal

pub returns-in-Less : goal.returns-in-Less
returns-in-Less c =
    let less : int_cmp c.in-Some.last.now.0 c.args.sample.0 ≡ Less =
    sym c.order_of_times.ensures ∙ c.in-Less.is in
    sorted_from c.args.samples.now c.in-Some.last.now c.in-Some.field-0-1.now c.args.sample
    c.in-Some.ensures.cases.0 c.requires less
