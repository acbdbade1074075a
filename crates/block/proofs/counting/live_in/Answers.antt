use Rattle.std.proofs.Common.{length, sym, ap, ◌∙◌}
use Rattle.block.proofs.Counts.{all_live}
use Rattle.block.proofs.counting.live_in.Goals as goal

pub returns-then-not-has_deletion_of : goal.returns-then-not-has_deletion_of
returns-then-not-has_deletion_of c =
    let none = sym c.has_deletion_of.ensures ∙ c.if-not-has_deletion_of.true in
    c.len.ensures
    ∙ sym (ap length (all_live c.args.tombstones.now c.args.reference c.args.samples.now none))
