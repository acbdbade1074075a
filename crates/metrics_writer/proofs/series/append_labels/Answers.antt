use Rattle.std.proofs.Common.{◌+◌, ℕ, List, ◌++◌, drop, sym, ap, ◌∙◌, arith}
use Rattle.std.proofs.lemmas.Option.{get_or_from_slice_get}
use Rattle.metrics_writer.specs.Series.{label_text, labels_text}
use Rattle.metrics_writer.proofs.Loops.{labels_next, moved}
use Rattle.metrics_writer.proofs.series.append_labels.Goals as goal

pub loop-i-preserved : goal.loop-i-preserved
loop-i-preserved c =
    let l = c.loop-i in
    let labels = c.args.labels.now in
    let p : List ℕ × List ℕ = (c.pair.result.0.now, c.pair.result.1.now) in
    let rest = drop (l.i + 1) labels in
    moved l.out.items c.append_label.new.out.items (label_text l.mark p)
    (labels_text c.in_ok-mark.mark rest) (labels_text l.mark (drop l.i labels)) _
    c.in_ok-mark.ensures.text
    (labels_next l.mark labels l.i p (omega arith)
    (sym (get_or_from_slice_get labels l.i p p c.pair.ensures))
    ∙ ap (λ m. label_text l.mark p ++ labels_text m rest) (sym c.in_ok-mark.ensures.mark))
    l.invariant
