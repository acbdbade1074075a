use Rattle.std.proofs.Common.{◌≡◌, ◌++◌, ℕ, List, [], ap, subst, ◌∙◌, rules}
use Rattle.labels.specs.Rows.{Row}
use Rattle.head.specs.BatchRows.{batch_of_rows}
use Rattle.head.specs.Worlds.{batch}
use Rattle.event_text.specs.Spelling.{event_text, HasSpelling}
use Rattle.event_text.proofs.spell.text_of_rows.Goals as goal

pub returns : goal.returns
returns c =
    let empty : c.new-text.result.items ≡ [] = search rules in
    record {
      text = c.in_ok-put_rows.ensures.text ∙ ap (λ (xs : List ℕ). xs ++ event_text (batch (batch_of_rows c.rows.result.now))) empty
          ∙ ap (λ (rs : List Row). event_text (batch (batch_of_rows rs))) c.rows.ensures.rows;
      spelled = subst (λ (rs : List Row). HasSpelling (batch (batch_of_rows rs))) c.rows.ensures.rows c.in_ok-put_rows.ensures.spelled;
      bounded = c.rows.ensures.kept;
    }
