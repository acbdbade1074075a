use Rattle.std.proofs.Common.{◌≡◌, sym, subst, ap, ◌∙◌, T, List, [], map, arith}
use Rattle.std.specs.FinMap.Entries.{is_sorted, put}
use Rattle.std.specs.List.{AllByRecursion}
use Rattle.labels.specs.Labels.{Labels, labels_cmp}
use Rattle.labels.specs.Rows.{Row}
use Rattle.kept_world.specs.States.{gathered}
use Rattle.kept_world.specs.Sound.{IsAscending, rows_in}
use Rattle.kept_world.proofs.Gathering.{rows_insert, row_of, sorted_put, ascending_put, gathered_some, not_empty}
use Rattle.kept_world.proofs.numbering.Leaving.gather.Goals as goal

pub invariant_of-self-2 : goal.invariant_of-self-2
invariant_of-self-2 c =
    let old = rows_in c.self.inside.rows in
    let key = c.in_ok-try_clone.field-0 in
    let put_is : rows_in c.insert.new.self ≡ put labels_cmp key c.args.samples.items old =
    ap (map row_of) c.in_ok-insert.ensures.entries
    ∙ rows_insert key c.args.samples c.self.inside.rows.entries in
    subst (λ (rows : List Row). T (is_sorted labels_cmp rows) × AllByRecursion IsAscending rows) (sym put_is)
    (sorted_put key c.args.samples.items old c.self.invariant.0, ascending_put key c.args.samples.items old c.requires c.self.invariant.1)

pub returns : goal.returns
returns c =
    let old = rows_in c.self.inside.rows in
    let key = c.in_ok-try_clone.field-0 in
    let some : c.args.samples.items ≡ [] → ⊥ = not_empty c.args.samples.items (let e = c.is_empty.ensures in let k = c.if-is_empty.false in grind (arith, e, k)) in
    ap (map row_of) c.in_ok-insert.ensures.entries
    ∙ rows_insert key c.args.samples c.self.inside.rows.entries
    ∙ ap (λ (l : Labels). put labels_cmp l c.args.samples.items old) c.in_ok-try_clone.ensures
    ∙ sym (gathered_some c.args.labels.now c.args.samples.items old some)
    ∙ ap (gathered c.args.labels.now c.args.samples.items) c.self.view_is
