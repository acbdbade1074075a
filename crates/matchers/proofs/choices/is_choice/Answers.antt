use Rattle.std.proofs.Common.{rules, lit<}
use Rattle.std.proofs.lemmas.Iterator.Search.{all_from_yields_List}
use Rattle.std.proofs.lemmas.Iterator.Splits.{YieldsList-from_str_split}
use Rattle.matchers.specs.Choices.{is_plain_text}
use Rattle.matchers.proofs.choices.is_choice.Goals as goal

pub returns : goal.returns
returns c =
    all_from_yields_List is_plain_text _ _ c.all.result c.all.ensures.ran
    (YieldsList-from_str_split 124 c.args.pattern.now (lit< tt) c.split.ensures.text c.split.ensures.has_more c.split.ensures.pattern) (λ x b q k. search rules)
