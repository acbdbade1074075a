use Rattle.std.proofs.Common.{ℕ, List, [], ◌∷◌, ◌++◌, subst, sym}
use Rattle.keeper.specs.Together.{SpellTogether}
use Rattle.world_tests.proofs.OneMore.{one_more}
use Rattle.world_tests.proofs.restarts.running.Running.commit.Goals as goal

pub invariant_of-self : goal.invariant_of-self
invariant_of-self g c =
    let e = c.args.event.now in (
      c.self.invariant.0 ++ e ∷ [],
      c.in-Ok-keep.ensures.ok c.self.invariant.0 (e ∷ []) c.self.invariant.1
          (subst (λ (xs : List ℕ). SpellTogether xs (e ∷ [])) (sym c.deref.ensures.value)
          c.in-Ok-record_of.ensures),
      one_more g.K.Keeper.first _ _ c.self.invariant.0 e c.self.invariant.2 c.in-Ok.ensures.ok,
      c.self.invariant.3,
    )

pub keep-requires : goal.keep-requires
keep-requires g c =
    let e = c.args.event.now in
    record {
      held = (
        c.self.invariant.0,
        e ∷ [],
        c.self.invariant.1,
        subst (λ (xs : List ℕ). SpellTogether xs (e ∷ [])) (sym c.deref.ensures.value)
            c.in-Ok-record_of.ensures,
        c.self.invariant.3 (c.self.invariant.0 ++ e ∷ []),
      );
    }
