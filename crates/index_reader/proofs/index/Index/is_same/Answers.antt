use Rattle.std.proofs.Common.{◌≡◌, ◌∙◌, ap, sym}
use Rattle.index_reader.specs.KeptIndex.{indexed_in}
use Rattle.index_reader.specs.Seen.{strings_of}
use Rattle.index_reader.proofs.index.Index.is_same.Goals as goal

pub returns : goal.returns
returns c = λ alike.
    let texts : strings_of c.deref.result.now ≡ strings_of c.deref-2.result.now = c.are_same_texts.ensures c.if-not-are_same_texts.false in
    let keys : c.deref-3.result.now ≡ c.deref-4.result.now = c.are_same_labels.ensures c.if-not-are_same_labels.false in
    let labels : c.deref-5.result.now ≡ c.deref-6.result.now = c.are_same_labels-2.ensures c.if-not-are_same_labels-2.false in
    let chunks : c.deref-7.result.now ≡ c.deref-8.result.now = c.are_same_chunks.ensures c.if-not-are_same_chunks.false in
    let series : c.deref-9.result.now ≡ c.deref-10.result.now = c.are_same_series.ensures alike in
    sym c.self.view_is ∙ (λ i. indexed_in
    ((ap strings_of (sym c.deref.ensures.value) ∙ texts ∙ ap strings_of c.deref-2.ensures.value) i)
    ((sym c.deref-3.ensures.value ∙ keys ∙ c.deref-4.ensures.value) i)
    ((sym c.deref-5.ensures.value ∙ labels ∙ c.deref-6.ensures.value) i)
    ((sym c.deref-7.ensures.value ∙ chunks ∙ c.deref-8.ensures.value) i)
    ((sym c.deref-9.ensures.value ∙ series ∙ c.deref-10.ensures.value) i)) ∙ c.other.view_is
