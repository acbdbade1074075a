use Rattle.std.proofs.Common.{◌∙◌, ap, rules, string_bytes}
use Rattle.std.proofs.lemmas.Fn.{filter_same}
use Rattle.labels.specs.LabelSets.{has_value}
use Rattle.labels.specs.Pairs.{pairs_of}
use Rattle.labels.proofs.NamedPairs.{with_values_of_strings}
use Rattle.labels.proofs.making.drop_empty.Goals as goal

pub returns : goal.returns
returns c = ap pairs_of (filter_same _ (λ p. has_value (string_bytes p.0, string_bytes p.1)) _ (λ x b f' k. search rules) _ _ c.retain.ensures.filtered) ∙ with_values_of_strings c.args.pairs.now.items
