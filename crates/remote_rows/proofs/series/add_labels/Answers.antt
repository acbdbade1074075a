use Rattle.std.proofs.Common.{◌≡◌, ◌++◌, ◌+◌, ◌<◌, ◌∷◌, ℕ, List, [], length, map, drop, get_or, ap, sym, ◌∙◌, append_assoc, arith}
use Rattle.std.proofs.lemmas.List.{at_drop_more, map-append}
use Rattle.std.proofs.lemmas.Option.{get_or_from_slice_get}
use Rattle.labels.specs.Labels.{Labels}
use Rattle.remote_write.specs.declared.label.Label.{Label}
use Rattle.remote_write.specs.Format.{LabelValue}
use Rattle.remote_write.specs.Reading.{label_seen}
use Rattle.remote_rows.specs.Sent.{label_of}
use Rattle.remote_rows.proofs.series.add_labels.Goals as goal

one_label : (items new : List Label) (x : Label) (labels : Labels) (at : ℕ) (none : List ℕ × List ℕ)
    → at < length labels → new ≡ items ++ x ∷ [] → get_or labels at none ≡ (x.name.now, x.value.now)
    → map label_seen new ++ map label_of (drop (at + 1) labels) ≡ map label_seen items ++ map label_of (drop at labels)
one_label items new x labels at none h e is =
    let later = map label_of (drop (at + 1) labels) in
    ap (λ (l : List Label). map label_seen l ++ later) e
    ∙ ap (λ (l : List LabelValue). l ++ later) (map-append label_seen items (x ∷ []))
    ∙ append_assoc (map label_seen items) (label_seen x ∷ []) later
    ∙ ap (λ (l : List LabelValue). map label_seen items ++ l)
    (sym (at_drop_more (map label_of) labels at none h
    ∙ ap (λ (p : List ℕ × List ℕ). map label_of (p ∷ drop (at + 1) labels)) is))

pub loop-at-preserved : goal.loop-at-preserved
loop-at-preserved c =
    let labels = c.args.labels.now in
    let at = c.loop-at.at in
    let none : List ℕ × List ℕ = ([], []) in
    let pair : List ℕ × List ℕ = (c.pair.result.0.now, c.pair.result.1.now) in
    let sent : Label = record { name = c.as_bytes.result; value = c.as_bytes-in-loop-at.result } in
    let name = c.as_bytes.ensures.value in
    let value = c.as_bytes-in-loop-at.ensures.value in
    let is : get_or labels at none ≡ (sent.name.now, sent.value.now) =
    get_or_from_slice_get labels at pair none c.pair.ensures ∙ cc in
    one_label c.loop-at.out.items _ sent labels at none (omega (arith, c.len-at-end.ensures.count)) c.in_ok-push.ensures.items is
    ∙ c.loop-at.invariant
