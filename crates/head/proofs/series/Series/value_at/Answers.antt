use Rattle.std.specs.Prelude.{◌≡◌}
use Rattle.std.proofs.Common.{◌∙◌, ap, rules, to_z, of_z, w64}
use Rattle.labels.specs.Parts.{within}
use Rattle.head.specs.Looking.{first_value}
use Rattle.head.proofs.LookUps.{first_within}
use Rattle.head.proofs.series.Series.value_at.Goals as goal

pub returns : goal.returns
returns c =
    let same : to_z w64 (of_z w64 c.args.t) ≡ c.args.t = search rules in
    c.first_value.ensures
    ∙ ap first_value (c.as_slice.ensures.value ∙ c.in_ok-samples.ensures)
    ∙ (λ i. first_value (within (same i) (same i) c.args.self.now.samples))
    ∙ first_within c.args.t c.args.self.now.samples
