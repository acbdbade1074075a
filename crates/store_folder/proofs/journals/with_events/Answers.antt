use Rattle.std.proofs.Common.{refl}
use Rattle.store_folder.proofs.Contents.{denied_after, found_after, spell_after, within}
use Rattle.store_folder.proofs.journals.with_events.Goals as goal

pub split_at-requires : goal.split_at-requires
split_at-requires c = within c.args.contents.now c.args.head c.args.count c.requires.begins

pub returns-in-Ok-clause-found : goal.returns-in-Ok-clause-found
returns-in-Ok-clause-found c =
    found_after c.args.contents.now c.split_at.result.1.now c.args.head c.args.count
    c.in-Ok.events.items c.read_events.new.names c.requires.begins c.split_at.ensures.back
    c.in-Ok.ensures.found

pub returns-in-Ok-clause-only : goal.returns-in-Ok-clause-only
returns-in-Ok-clause-only c events after h = (
  refl,
  c.in-Ok.ensures.only events after (spell_after c.args.contents.now c.split_at.result.1.now
      c.args.head c.args.count events after c.requires.begins c.split_at.ensures.back h),
)

pub returns-in-Err-clause-only : goal.returns-in-Err-clause-only
returns-in-Err-clause-only c events after h =
    c.in-Err.ensures.only events after (spell_after c.args.contents.now c.split_at.result.1.now
    c.args.head c.args.count events after c.requires.begins c.split_at.ensures.back h)

pub returns-in-Err-clause-refused : goal.returns-in-Err-clause-refused
returns-in-Err-clause-refused c =
    denied_after c.args.contents.now c.split_at.result.1.now c.args.head c.args.count
    c.in-Err.refused c.requires.begins c.split_at.ensures.back c.in-Err.ensures.refused
