use Rattle.std.proofs.Common.{◌≡◌, sym, ap, ◌∙◌}
use Rattle.labels.specs.Pairs.{texts_of}
use Rattle.kept_walk.specs.Fields.{is_label_set}
use Rattle.kept_walk.proofs.LabelSets.{made}
use Rattle.kept_walk.proofs.fields.labels_of.Goals as goal

pub of_sorted_texts-requires : goal.of_sorted_texts-requires
of_sorted_texts-requires c =
    let same : c.as_slice.result.now ≡ c.as_slice-2.result.now =
    c.as_slice.ensures.value ∙ sym c.as_slice-2.ensures.value in
    made _ (ap (λ ps. is_label_set (texts_of ps)) (sym same)
    ∙ sym c.are_labels.ensures
    ∙ c.if-not-are_labels.false)
