use Rattle.std.proofs.Common.{sym, subst, T, ap, List, ℤ, nat_le}
use Rattle.std.specs.Ordering.{int_cmp}
use Rattle.std.specs.List.{filter}
use Rattle.std.specs.FinMap.Entries.{is_sorted}
use Rattle.labels.specs.Rows.{Row}
use Rattle.kept_world.specs.States.{Born, samples_of}
use Rattle.kept_world.proofs.Rising.{ascending_kept}
use Rattle.kept_world.proofs.series.Series.came_by.Goals as goal

pub returns-clause-ascending : goal.returns-clause-ascending
returns-clause-ascending c =
    let p = λ (k : Born). nat_le k.0 c.args.number in
    subst (λ (r : Row). T (is_sorted int_cmp r.1)) (sym c.new.ensures)
    (subst (λ (ss : List (ℤ × ℤ)). T (is_sorted int_cmp ss)) (sym c.in_ok-samples.ensures)
    (subst (λ (ks : List Born). T (is_sorted int_cmp (samples_of ks))) (ap (filter p) (sym c.deref.ensures.value)) (ascending_kept p c.self.inside.samples.items c.self.invariant.ascending)))
