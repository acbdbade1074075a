use Rattle.std.proofs.Common.{ℕ, List, [], subst, sym}
use Rattle.event_text.specs.Spelling.{Spells}
use Rattle.keeper.specs.Together.{SpellTogether}
use Rattle.world_tests.proofs.OneMore.{nothing_spelled}
use Rattle.world_tests.proofs.restarts.running.record_of.Goals as goal

pub returns-in-Ok-push_text : goal.returns-in-Ok-push_text
returns-in-Ok-push_text c =
    c.in-Ok-push_text.ensures.ok [] c.args.event.now
    (subst (λ (xs : List ℕ). SpellTogether xs []) (sym c.new-bytes.ensures.items) nothing_spelled)
    (subst (λ (xs : List ℕ). Spells xs c.args.event.now) (sym c.deref.ensures.value)
    c.in-Ok.ensures)
