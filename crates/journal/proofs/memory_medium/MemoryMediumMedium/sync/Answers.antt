use Rattle.std.proofs.Common.{ℕ, List, sym, subst, ◌∙◌, arith}
use Rattle.std.proofs.lemmas.List.{append-nil}
use Rattle.journal.specs.Media.{MayLeave}
use Rattle.journal.proofs.Fronts.{from_not_err, from_less}
use Rattle.journal.proofs.PastCalls.{elapses_push, elapses_weaker}
use Rattle.journal.proofs.memory_medium.MemoryMediumMedium.sync.Goals as goal

pub returns-clause-time : goal.returns-clause-time
returns-clause-time c old n shown le =
    let s = c.args.self.now in
    let i = from_not_err c.remember.result _ (sym c.is_err.ensures.value
    ∙ c.if-is_err.false) c.remember.ensures.ok in
    let call = elapses_push s.past.items c.remember.new.past.items i.0 s.synced s.bytes.items c.len-self.result s.bytes.items s.synced s.bytes.items
    i.3 (i.1 ∙ (append-nil c.deref.result.now ∙ c.deref.ensures.value)) i.2 (λ x m. m)
    (λ x m. from_less s.synced c.len-self.result s.bytes.items x (omega (arith, s.within, c.len-self.ensures)) m) in
    elapses_weaker _ _ _ _ _ _ (λ x m. subst (λ (y : List ℕ). MayLeave n y x) (sym shown) (from_less n s.synced s.bytes.items x le m)) call
