use Rattle.std.proofs.Common.{◌∙◌, sym, rules, string_bytes}
use Rattle.std.proofs.lemmas.Iterator.{YieldsList-from_slice}
use Rattle.std.proofs.lemmas.Iterator.Search.{all_from_yields_List}
use Rattle.std.proofs.lemmas.List.Folds.{list_all-map}
use Rattle.labels.specs.Names.{is_name}
use Rattle.labels.proofs.making.are_named.Goals as goal

pub returns : goal.returns
returns c =
    all_from_yields_List (λ p. is_name (string_bytes p.0)) _ _ c.all.result c.all.ensures.ran (YieldsList-from_slice c.args.pairs.now cc) (λ x b q k. search rules)
    ∙ sym (list_all-map (λ p. is_name p.0) (λ p. (string_bytes p.0, string_bytes p.1)) c.args.pairs.now)
