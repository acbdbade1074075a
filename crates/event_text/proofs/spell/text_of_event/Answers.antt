use Rattle.std.proofs.Common.{◌≡◌, ◌++◌, ℕ, List, [], ap, ◌∙◌, rules}
use Rattle.head.specs.Worlds.{Event}
use Rattle.event_text.specs.Spelling.{event_text}
use Rattle.event_text.proofs.spell.text_of_event.Goals as goal

pub returns : goal.returns
returns c =
    let event : Event = c.args.event.now in
    let empty : c.new-text.result.items ≡ [] = search rules in
    record {
      text = c.in_ok-put_event.ensures.text ∙ ap (λ (xs : List ℕ). xs ++ event_text event) empty;
      spelled = c.in_ok-put_event.ensures.spelled;
      bounded = c.put_event.ensures.bounded;
    }
