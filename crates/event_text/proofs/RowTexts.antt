-- The texts of rows that are runs.
use Rattle.std.proofs.Common.{◌≡◌, ◌<◌, ℕ, ℤ, List, [], ◌∷◌, ◌++◌, length, sym, ap, subst, ◌∙◌}
use Rattle.std.proofs.Common.{append_assoc, true}
use Rattle.labels.specs.Labels.{Labels}
use Rattle.labels.specs.LabelSets.{IsLabelSet}
use Rattle.head.specs.BatchRows.{batch_of_rows}
use Rattle.head.specs.Worlds.{batch}
use Rattle.event_text.specs.Runs.{Run, are_runs}
use Rattle.event_text.specs.Spelling.{event_text, labels_text, many_text, run_text, sample_text}
use Rattle.event_text.specs.Spelling.{AreMany, HasSpelling, IsPair, IsRun, IsSample}
use Rattle.event_text.proofs.RunLaws.{rows_runs}

-- a row is written by its parts
pub row_text : (row : Run) (labels : Labels) (samples : List (ℤ × ℤ)) (old mid new : List ℕ)
    → labels ≡ row.0 → samples ≡ row.1 → mid ≡ old ++ labels_text labels
    → new ≡ mid ++ many_text sample_text samples → new ≡ old ++ run_text row
unfolding run_text
row_text row labels samples old mid new is_labels is_samples one two =
    let text : labels_text labels ++ many_text sample_text samples
    ≡ labels_text row.0 ++ many_text sample_text row.1 =
    ap (λ (l : Labels). labels_text l ++ many_text sample_text samples) is_labels
    ∙ ap (λ (ss : List (ℤ × ℤ)). labels_text row.0 ++ many_text sample_text ss) is_samples in
    two
    ∙ (ap (λ (x : List ℕ). x ++ many_text sample_text samples) one
    ∙ (append_assoc old (labels_text labels) (many_text sample_text samples)
    ∙ ap (λ (x : List ℕ). old ++ x) text))

pub row_is : (row : Run) (labels : Labels) (samples : List (ℤ × ℤ)) → labels ≡ row.0
    → samples ≡ row.1 → 0 < length row.1 → AreMany IsPair labels × IsLabelSet labels
    → AreMany IsSample samples → IsRun row
row_is row labels samples is_labels is_samples filled set are = record {
  pairs = subst (AreMany IsPair) is_labels set.0;
  label_set = subst IsLabelSet is_labels set.1;
  samples = subst (AreMany IsSample) is_samples are;
  filled = filled;
}

-- the text of a batch whose runs stand in rows
pub rows_text : (rows : List Run) (old mid new : List ℕ) → are_runs rows ≡ true
    → mid ≡ old ++ 1 ∷ [] → new ≡ mid ++ many_text run_text rows
    → new ≡ old ++ event_text (batch (batch_of_rows rows))
unfolding event_text
rows_text rows old mid new h one two =
    two
    ∙ (ap (λ (x : List ℕ). x ++ many_text run_text rows) one
    ∙ (append_assoc old (1 ∷ []) (many_text run_text rows)
    ∙ ap (λ (rs : List Run). old ++ (1 ∷ many_text run_text rs)) (sym (rows_runs rows h))))

pub rows_spelled : (rows : List Run) → are_runs rows ≡ true → AreMany IsRun rows
    → HasSpelling (batch (batch_of_rows rows))
rows_spelled rows h are = subst (AreMany IsRun) (sym (rows_runs rows h)) are
