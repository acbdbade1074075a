use Rattle.std.proofs.Common.{◌+◌, ◌∷◌, ℕ, List, [], drop, ap, ◌∙◌, arith}
use Rattle.std.proofs.lemmas.List.{at_drop_more}
use Rattle.std.proofs.lemmas.Option.{get_or_from_slice_get}
use Rattle.json.proofs.Printed.Room.{moved}
use Rattle.answers.specs.AfterCommas.{labels_after_commas}
use Rattle.answers.proofs.rows.append_labels_after_commas.Goals as goal

pub loop-at-preserved : goal.loop-at-preserved
loop-at-preserved c =
    let labels = c.args.labels.now in
    let at = c.loop-at.at in
    let none : List ℕ × List ℕ = ([], []) in
    let pair : List ℕ × List ℕ = (c.pair.result.0.now, c.pair.result.1.now) in
    moved _ _ _ _ _ _ c.in_ok-append_label_after_comma.ensures
    (at_drop_more labels_after_commas labels at none (omega arith)
    ∙ ap (λ p. labels_after_commas (p ∷ drop (at + 1) labels))
    (get_or_from_slice_get labels at pair none c.pair.ensures))
    c.loop-at.invariant
