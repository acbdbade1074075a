use Rattle.std.proofs.Common.{[], inl, refl, sym, subst}
use Rattle.std.proofs.lemmas.List.{append-nil}
use Rattle.snapshots.proofs.Held.{held_opening}
use Rattle.snapshots.proofs.store.Store.start.Goals as goal

pub of-tip-requires-clause-held : goal.of-tip-requires-clause-held
of-tip-requires-clause-held g c = held_opening g.K.Keeper.holds g.K.Keeper.stays g.J.Naming.before c.args.keeper c.requires.kept

-- the opening's list is kept, since the keeper holds what was kept before

pub press_over-requires-clause-kept : goal.press_over-requires-clause-kept
press_over-requires-clause-kept g c =
    c.requires.rule c.args.keeper []
    (subst (g.K.Keeper.holds c.args.keeper) (sym (append-nil g.J.Naming.before)) c.requires.kept) (inl refl)
