use Rattle.std.proofs.Common.{◌<◌, ◌≤◌, List, get_or, length, ltb, subst, sym, ap, arith, rules}
use Rattle.std.specs.List.Sorted.{IsPartitionedBy}
use Rattle.std.proofs.lemmas.Bool.{ltb-true, ltb-false}
use Rattle.std.proofs.lemmas.List.Sorted.{IsPartitionPoint-from_clause}
use Rattle.index_reader.specs.Layout.{Label}
use Rattle.index_reader.proofs.Spans.{parted_by_name}
use Rattle.index_reader.proofs.keys.count_below.Goals as goal

pub returns-clause-below : goal.returns-clause-below
returns-clause-below c k lt =
    let is = c.deref.ensures.value in
    let parted = parted_by_name c.args.keys.now.pairs.items c.args.name c.args.keys.now.rising in
    let point =
    IsPartitionPoint-from_clause (λ (k : Label). ltb k.0 c.args.name) c.deref.result.now
    c.partition_point.result c.partition_point.ensures.partitioned
    (subst (IsPartitionedBy (λ (k : Label). ltb k.0 c.args.name)) (sym is) parted)
    (λ a r f' k. search rules) in
    subst (λ (keys : List Label). (get_or keys k (0, 0)).0 < c.args.name) is
    (ltb-true _ c.args.name (point.0 k (0, 0) (omega arith) lt))

pub returns-clause-above : goal.returns-clause-above
returns-clause-above c k from lt =
    let is = c.deref.ensures.value in
    let parted = parted_by_name c.args.keys.now.pairs.items c.args.name c.args.keys.now.rising in
    let point =
    IsPartitionPoint-from_clause (λ (k : Label). ltb k.0 c.args.name) c.deref.result.now
    c.partition_point.result c.partition_point.ensures.partitioned
    (subst (IsPartitionedBy (λ (k : Label). ltb k.0 c.args.name)) (sym is) parted)
    (λ a r f' k. search rules) in
    let n = ap (λ (keys : List Label). length keys) is in
    subst (λ (keys : List Label). c.args.name ≤ (get_or keys k (0, 0)).0) is
    (ltb-false _ c.args.name (point.1 k (0, 0) from (omega (arith, n, lt))))
