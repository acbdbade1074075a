use Rattle.std.proofs.Common.{inl}
use Rattle.commands.proofs.keeping.roll_data.Goals as goal

pub roll-requires : goal.roll-requires
roll-requires g c =
    let events = c.args.kept.journal.events.items in
    (events, events, inl c.requires.holds, c.requires.world)
