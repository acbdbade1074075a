use Rattle.std.proofs.Common.{◌≡◌, ap, sym, ◌∙◌, arith, rules}
use Rattle.std.specs.Prelude.{slice_index_or, true}
use Rattle.labels.specs.Labels.{same_labels}
use Rattle.head.specs.Heads.{HeadSeries}
use Rattle.head.specs.Slots.{series_in_each}
use Rattle.head.proofs.HeadLaws.{same_path}
use Rattle.head.proofs.SlotLaws.{length-each}
use Rattle.head.proofs.draft.Draft.has_at.Goals as goal

pub returns : goal.returns
returns c = λ yes. record {
  inside = omega (arith, c.if-place-len.false, c.len.ensures.count, length-each c.args.self.now);
  same = λ d.
      let is : c.labels.result.now ≡ (slice_index_or (series_in_each c.args.self.now) c.args.place d).labels =
      c.labels.ensures ∙ ap (λ (h : HeadSeries). h.labels) (c.series.ensures d) in
      let like : same_labels c.labels.result.now c.args.labels.now ≡ true = search rules in
      sym is ∙ same_path c.labels.result.now c.args.labels.now like;
}
