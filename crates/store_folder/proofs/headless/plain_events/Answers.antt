use Rattle.std.proofs.Common.{sym, ◌∙◌}
use Rattle.journal.specs.Contents.{contents_in}
use Rattle.store_folder.proofs.Plains.{some_contents, some_events}
use Rattle.store_folder.proofs.headless.plain_events.Goals as goal

pub returns-in-Ok-clause-some : goal.returns-in-Ok-clause-some
returns-in-Ok-clause-some c =
    some_events (contents_in c.args.contents.now) c.in-Ok.events.items c.read_events.new.names
    (some_contents c.args.contents.now (sym c.is_empty.ensures ∙ c.if-is_empty.false))
    c.in-Ok.ensures.found
