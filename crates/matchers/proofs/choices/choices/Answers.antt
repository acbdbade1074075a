use Rattle.std.proofs.Common.{◌≡◌, true, sym, ◌∙◌, map, lit<, Ok}
use Rattle.std.proofs.lemmas.Iterator.Consumers.{map_from_collect}
use Rattle.std.proofs.lemmas.Iterator.Splits.{YieldsList-from_str_split}
use Rattle.std.specs.declared.alloc.AllocError.{AllocError}
use Rattle.matchers.specs.Choices.{is_choice, between_bars}
use Rattle.matchers.proofs.ChoiceMatches.{choice_matches, no_empty_choice}
use Rattle.matchers.proofs.choices.choices.Goals as goal

pub returns-clause-told : goal.returns-clause-told
returns-clause-told c =
    let choice : is_choice c.args.pattern.now ≡ true = sym c.is_choice.ensures ∙ c.if-not-is_choice.false in
    let pieces = YieldsList-from_str_split 124 c.args.pattern.now (lit< tt) c.split.ensures.text c.split.ensures.has_more c.split.ensures.pattern in
    let texts : map (λ text. text.now) c.in_ok-texts.texts.items ≡ between_bars c.args.pattern.now
    = map_from_collect {E = AllocError} (Ok c.in_ok-texts.texts) c.in_ok-texts.ensures.ran pieces in
    record { each = λ value. rw texts (choice_matches c.args.pattern.now choice value) }

pub returns-clause-filled : goal.returns-clause-filled
returns-clause-filled c =
    let choice : is_choice c.args.pattern.now ≡ true = sym c.is_choice.ensures ∙ c.if-not-is_choice.false in
    let pieces = YieldsList-from_str_split 124 c.args.pattern.now (lit< tt) c.split.ensures.text c.split.ensures.has_more c.split.ensures.pattern in
    let texts : map (λ text. text.now) c.in_ok-texts.texts.items ≡ between_bars c.args.pattern.now
    = map_from_collect {E = AllocError} (Ok c.in_ok-texts.texts) c.in_ok-texts.ensures.ran pieces in
    rw texts (no_empty_choice c.args.pattern.now choice)
