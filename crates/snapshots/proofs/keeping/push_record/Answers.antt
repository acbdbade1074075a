use Rattle.std.proofs.Common.{◌∙◌, sym, refl}
use Rattle.snapshots.proofs.Keeps.{spell_idle, spell_result}
use Rattle.snapshots.proofs.keeping.push_record.Goals as goal

pub returns-then-is_idle-clause-ok : goal.returns-then-is_idle-clause-ok
returns-then-is_idle-clause-ok g c events event so_far one =
    spell_idle g.K.Keeper.idle _ _ (sym c.is_idle.ensures ∙ c.if-is_idle.true) refl events event so_far

pub returns-clause-ok : goal.returns-clause-ok
returns-clause-ok g c =
    spell_result c.extend_from_slice.result g.K.Keeper.idle c.args.records.now.items c.args.bytes.now c.extend_from_slice.new.self.items
    (sym c.is_idle.ensures ∙ c.if-is_idle.false) c.extend_from_slice.ensures.items
