use Rattle.std.proofs.Common.{◌≡◌, ℕ, List, min, sym, subst, ◌∙◌, arith}
use Rattle.std.proofs.lemmas.List.{append-nil}
use Rattle.journal.specs.Media.{MayLeave}
use Rattle.journal.proofs.Fronts.{from_not_err, from_less, front_of_cut}
use Rattle.journal.proofs.PastCalls.{elapses_push, elapses_weaker}
use Rattle.journal.proofs.memory_medium.MemoryMediumMedium.cut.Goals as goal

pub returns-clause-time : goal.returns-clause-time
returns-clause-time c old n shown le =
    let s = c.args.self.now in
    let i = from_not_err c.remember.result _ (sym c.is_err.ensures.value
    ∙ c.if-is_err.false) c.remember.ensures.ok in
    let least : c.min.result ≡ min c.args.len s.synced = omega (arith, c.min.ensures) in
    let low = min c.args.len s.synced in
    let call = elapses_push s.past.items c.remember.new.past.items i.0 s.synced s.bytes.items c.args.len c.truncate.new.self.items low s.bytes.items
    i.3 (i.1 ∙ (append-nil c.deref.result.now ∙ c.deref.ensures.value)) (i.2 ∙ least)
    (λ x m. from_less low s.synced s.bytes.items x (omega arith) m)
    (λ x m. front_of_cut low c.args.len s.bytes.items x (omega arith)
    (subst (λ (y : List ℕ). MayLeave c.args.len y x) c.truncate.ensures.items m)) in
    elapses_weaker _ _ _ _ _ _ (λ x m. subst (λ (y : List ℕ). MayLeave (min c.args.len n) y x) (sym shown)
    (from_less (min c.args.len n) low s.bytes.items x (omega arith) m)) call
