use Rattle.std.proofs.Common.{ℕ, List, sym, subst}
use Rattle.std.specs.List.Sorted.{IsStrictlyIncreasing}
use Rattle.labels.specs.Rows.{Row}
use Rattle.labels.specs.Parts.{carries}
use Rattle.labels.proofs.PartRows.{kept_rises}
use Rattle.block.proofs.view.BlockViewSource.list.Goals as goal

pub new-requires : goal.new-requires
new-requires c =
    let view = c.args.self.now in
    subst (λ (x : List ℕ × ℕ). IsStrictlyIncreasing x.0) (sym c.in-Some.ensures.listed)
    (kept_rises (λ (row : ℕ × Row). carries c.args.name.now c.args.value.now row.1.0)
    view.block.now.part view.is_part.ascending)
