use Rattle.std.proofs.Common.{◌++◌, ℕ, List, ap, sym, subst, ◌∙◌}
use Rattle.journal.specs.Media.{MayLeave}
use Rattle.journal.proofs.Fronts.{from_not_err, from_less, front_of_more, front_of_part}
use Rattle.journal.proofs.PastCalls.{elapses_push, elapses_weaker}
use Rattle.journal.proofs.memory_medium.MemoryMediumMedium.append.Goals as goal

pub returns-then-not-goes_well-clause-time : goal.returns-then-not-goes_well-clause-time
returns-then-not-goes_well-clause-time c old n shown le =
    let s = c.args.self.now in
    let i = from_not_err c.remember.result _ (sym c.is_err.ensures.value
    ∙ c.if-is_err.false) c.remember.ensures.ok in
    let part = c.add_part.ensures.part in
    let call = elapses_push s.past.items c.remember.new.past.items i.0 s.synced s.bytes.items s.synced c.add_part.new.bytes.items s.synced (s.bytes.items ++ c.args.bytes.now)
    i.3 (i.1 ∙ ap (λ (x : List ℕ). x ++ c.args.bytes.now) c.deref.ensures.value) i.2
    (λ x m. front_of_more s.synced s.bytes.items c.args.bytes.now x s.within m)
    (λ x m. front_of_part s.synced part.0 s.bytes.items c.args.bytes.now x s.within
    (subst (λ (y : List ℕ). MayLeave s.synced y x) part.1 m)) in
    elapses_weaker _ _ _ _ _ _ (λ x m. subst (λ (y : List ℕ). MayLeave n (y ++ c.args.bytes.now) x) (sym shown)
    (from_less n s.synced (s.bytes.items ++ c.args.bytes.now) x le m)) call

pub returns-then-not-add_part-clause-time : goal.returns-then-not-add_part-clause-time
returns-then-not-add_part-clause-time c old n shown le =
    let s = c.args.self.now in
    let i = from_not_err c.remember.result _ (sym c.is_err.ensures.value
    ∙ c.if-is_err.false) c.remember.ensures.ok in
    let part = c.add_part-2.ensures.part in
    let call = elapses_push s.past.items c.remember.new.past.items i.0 s.synced s.bytes.items s.synced c.add_part-2.new.bytes.items s.synced (s.bytes.items ++ c.args.bytes.now)
    i.3 (i.1 ∙ ap (λ (x : List ℕ). x ++ c.args.bytes.now) c.deref.ensures.value) i.2
    (λ x m. front_of_more s.synced s.bytes.items c.args.bytes.now x s.within m)
    (λ x m. front_of_part s.synced part.0 s.bytes.items c.args.bytes.now x s.within
    (subst (λ (y : List ℕ). MayLeave s.synced y x) part.1 m)) in
    elapses_weaker _ _ _ _ _ _ (λ x m. subst (λ (y : List ℕ). MayLeave n (y ++ c.args.bytes.now) x) (sym shown)
    (from_less n s.synced (s.bytes.items ++ c.args.bytes.now) x le m)) call

pub returns-clause-time : goal.returns-clause-time
returns-clause-time c old n shown le =
    let s = c.args.self.now in
    let i = from_not_err c.remember.result _ (sym c.is_err.ensures.value
    ∙ c.if-is_err.false) c.remember.ensures.ok in
    let part = c.add_part-2.ensures.part in
    let call = elapses_push s.past.items c.remember.new.past.items i.0 s.synced s.bytes.items s.synced c.add_part-2.new.bytes.items s.synced (s.bytes.items ++ c.args.bytes.now)
    i.3 (i.1 ∙ ap (λ (x : List ℕ). x ++ c.args.bytes.now) c.deref.ensures.value) i.2
    (λ x m. front_of_more s.synced s.bytes.items c.args.bytes.now x s.within m)
    (λ x m. front_of_part s.synced part.0 s.bytes.items c.args.bytes.now x s.within
    (subst (λ (y : List ℕ). MayLeave s.synced y x) part.1 m)) in
    elapses_weaker _ _ _ _ _ _ (λ x m. subst (λ (y : List ℕ). MayLeave n (y ++ c.args.bytes.now) x) (sym shown)
    (from_less n s.synced (s.bytes.items ++ c.args.bytes.now) x le m)) call
