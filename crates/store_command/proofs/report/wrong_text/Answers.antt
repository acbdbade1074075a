use Rattle.std.proofs.Common.{◌≡◌, ◌++◌, ◌∷◌, [], ◌∙◌, ℕ, List, ap, codes, decimal, append_assoc, string_bytes}
use Rattle.std.proofs.lemmas.Result.{IfOk-weaker}
use Rattle.store_audit.specs.declared.judging.StateReport.{StateReport}
use Rattle.store_command.specs.Marks.{first_of, mark_at, mark_text}
use Rattle.store_command.specs.Printing.{note_of, wrong_text}
use Rattle.store_command.specs.declared.mark.Since.{Since}
use Rattle.store_command.proofs.report.wrong_text.Goals as goal

regrouped : (a b c d e f g h i : List ℕ)
    → a ++ (b ++ (c ++ (d ++ (e ++ (f ++ (g ++ (h ++ (10 ∷ i))))))))
    ≡ a ++ b ++ c ++ d ++ e ++ f ++ g ++ h ++ 10 ∷ [] ++ i
regrouped a b c d e f g h i = simp append_assoc

written : (since : Since) (head : ℕ) (said : StateReport) (from : ℕ) (mark note : List ℕ)
    → from ≡ first_of since → mark ≡ mark_text (mark_at head said.told) → note ≡ note_of since
    → codes "at no event from " ++ (decimal from ++ (codes " to " ++ (decimal said.events
    ++ (codes ", told of event " ++ (decimal said.told ++ (codes ", mark " ++ (mark ++ (10 ∷ note))))))))
    ≡ wrong_text since head said
written since head said from mark note f m n =
    ap (λ (l : ℕ). codes "at no event from " ++ (decimal l ++ (codes " to " ++ (decimal said.events
    ++ (codes ", told of event " ++ (decimal said.told ++ (codes ", mark " ++ (mark ++ (10 ∷ note))))))))) f
    ∙ (ap (λ (l : List ℕ). codes "at no event from " ++ (decimal (first_of since) ++ (codes " to " ++ (decimal said.events
    ++ (codes ", told of event " ++ (decimal said.told ++ (codes ", mark " ++ (l ++ (10 ∷ note))))))))) m
    ∙ (ap (λ (l : List ℕ). codes "at no event from " ++ (decimal (first_of since) ++ (codes " to " ++ (decimal said.events
    ++ (codes ", told of event " ++ (decimal said.told ++ (codes ", mark "
    ++ (mark_text (mark_at head said.told) ++ (10 ∷ l))))))))) n
    ∙ regrouped (codes "at no event from ") (decimal (first_of since)) (codes " to ") (decimal said.events)
    (codes ", told of event ") (decimal said.told) (codes ", mark ") (mark_text (mark_at head said.told)) (note_of since)))

pub returns : goal.returns
returns c =
    IfOk-weaker c.format.result _ _ (λ text h. h
    ∙ written c.args.since c.args.head c.args.said.now c.first-from.result (string_bytes c.in_ok-mark.mark)
    c.note_of-note.result.now c.first-from.ensures c.in_ok-mark.ensures
    c.note_of-note.ensures) c.format.ensures.ok
