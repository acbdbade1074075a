use Rattle.std.proofs.Common.{rules, [], get_or}
use Rattle.std.proofs.lemmas.List.Sorted.{IsPartitionPoint-from_clause}
use Rattle.pages.specs.Pages.{branch_parts}
use Rattle.pages.specs.Sorted.{starts_low}
use Rattle.pages.proofs.Groups.{groups_parted, low_groups, high_groups}
use Rattle.pages.proofs.search.groups_before.Goals as goal

pub returns-clause-starts : goal.returns-clause-starts
returns-clause-starts g c split =
    let point =
    IsPartitionPoint-from_clause (λ b. starts_low (g.P.Probe.order c.args.probe.now) (get_or (branch_parts g.E.Entry.item b) 0 [])) c.args.groups.now c.partition_point.result c.partition_point.ensures.partitioned
    (groups_parted (g.P.Probe.order c.args.probe.now) (branch_parts g.E.Entry.item) c.args.groups.now c.requires split)
    (λ a r f' k. search rules) in
    record {
      low = low_groups (g.P.Probe.order c.args.probe.now) (branch_parts g.E.Entry.item) c.args.groups.now c.requires c.partition_point.result c.partition_point.ensures.bound point.0;
      high = high_groups (g.P.Probe.order c.args.probe.now) (branch_parts g.E.Entry.item) c.args.groups.now c.requires c.partition_point.result point.1;
    }
