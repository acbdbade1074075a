use Rattle.std.proofs.Common.{◌≡◌, ℕ, List, [], inl, inr, sym, subst, ◌∙◌, rules}
use Rattle.head.specs.Worlds.{Event}
use Rattle.event_text.specs.Spelling.{Spells}
use Rattle.keeper.specs.Together.{SpellTogether}
use Rattle.snapshots.specs.Keeping.{IsOfKeeping}
use Rattle.snapshots.proofs.Keeps.{of_keeping, nothing_spelled}
use Rattle.snapshots.proofs.keeping.record_of.Goals as goal

pub returns-then-is_idle-clause-ok : goal.returns-then-is_idle-clause-ok
returns-then-is_idle-clause-ok g c =
    let empty : c.new-bytes.result.items ≡ [] = search rules in
    inr (sym c.is_idle.ensures ∙ c.if-is_idle.true, empty)

pub returns-in-Ok-clause-ok : goal.returns-in-Ok-clause-ok
returns-in-Ok-clause-ok g c =
    let event : Event = g.C.AsEvent.event c.args.change.now in
    let empty : c.new-bytes.result.items ≡ [] = search rules in
    let same : c.deref.result.now ≡ c.in_ok-text.text.items = search rules in
    inl (c.in-Ok.ensures.ok [] event (subst (λ (xs : List ℕ). SpellTogether xs []) (sym empty) nothing_spelled)
    (subst (λ (xs : List ℕ). Spells xs event) (sym same) c.in_ok-text.ensures))

pub returns-in-Err-clause-refused : goal.returns-in-Err-clause-refused
returns-in-Err-clause-refused g c = subst IsOfKeeping (sym c.refusal_of.ensures) (of_keeping c.in-Err.error)
