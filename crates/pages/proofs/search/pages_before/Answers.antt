use Rattle.std.proofs.Common.{rules}
use Rattle.std.proofs.lemmas.List.Sorted.{IsPartitionPoint-from_clause}
use Rattle.pages.specs.Pages.{leaf_list}
use Rattle.pages.specs.Sorted.{starts_low}
use Rattle.pages.proofs.Spots.{some_kept}
use Rattle.pages.proofs.Searched.{parted, low_of, high_of}
use Rattle.pages.proofs.search.pages_before.Goals as goal

pub returns-clause-starts : goal.returns-clause-starts
returns-clause-starts g c split =
    let point =
    IsPartitionPoint-from_clause (λ p. starts_low (g.P.Probe.order c.args.probe.now) (leaf_list g.E.Entry.item p)) c.args.pages.now c.partition_point.result c.partition_point.ensures.partitioned
    (parted (leaf_list g.E.Entry.item) (g.P.Probe.order c.args.probe.now) c.args.pages.now (some_kept _ c.requires) split)
    (λ a r f' k. search rules) in
    record {
      low = low_of (leaf_list g.E.Entry.item) (g.P.Probe.order c.args.probe.now) c.args.pages.now c.partition_point.result c.partition_point.ensures.bound point.0;
      high = high_of (leaf_list g.E.Entry.item) (g.P.Probe.order c.args.probe.now) c.args.pages.now c.partition_point.result point.1;
    }
