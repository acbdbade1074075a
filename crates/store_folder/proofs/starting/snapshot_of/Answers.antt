use Rattle.std.proofs.Common.{map, rules}
use Rattle.head.specs.Blocks.{part_in}
use Rattle.store_folder.proofs.Starts.{denied, does_not_go_on, goes_on, reaches, stands_started}
use Rattle.store_folder.proofs.starting.snapshot_of.Goals as goal

pub returns-in-Ok-clause-world : goal.returns-in-Ok-clause-world
returns-in-Ok-clause-world c =
    goes_on c.args.journal.now.head (map part_in c.args.blocks.items) _ _
    c.args.journal.now.events.items _ c.in-Ok.snapshot c.after_events.result c.in-Ok.ensures.made
    (search rules) c.series.ensures c.deref.ensures.value c.after_events.ensures.ok

pub returns-in-Ok-clause-refused : goal.returns-in-Ok-clause-refused
returns-in-Ok-clause-refused c =
    does_not_go_on c.args.journal.now.head (map part_in c.args.blocks.items) _ _
    c.args.journal.now.events.items _ c.in-Ok.snapshot c.after_events.result c.in-Ok.ensures.made
    (search rules) c.series.ensures c.deref.ensures.value c.after_events.ensures.refused

pub returns-in-Err-clause-refused : goal.returns-in-Err-clause-refused
returns-in-Err-clause-refused c =
    denied c.args.journal.now.head (map part_in c.args.blocks.items) _ _ c.in-Err.error
    c.in-Err.ensures.refused (search rules) c.series.ensures

pub returns-in-Ok-clause-stands : goal.returns-in-Ok-clause-stands
returns-in-Ok-clause-stands c =
    stands_started c.after_events.result c.args.journal.now.head (map part_in c.args.blocks.items) _ _
    c.in-Ok.ensures.stands (search rules) c.series.ensures

pub returns-in-Ok-clause-reached : goal.returns-in-Ok-clause-reached
returns-in-Ok-clause-reached c =
    reaches c.args.journal.now.head (map part_in c.args.blocks.items) _ _
    c.args.journal.now.events.items _ c.in-Ok.snapshot c.after_events.result c.in-Ok.ensures.made
    (search rules) c.series.ensures c.deref.ensures.value c.after_events.ensures.reached
