use Rattle.std.proofs.Common.{[], ◌∷◌, ◌++◌, List, ℕ, ap, ◌∙◌}
use Rattle.std.proofs.lemmas.List.{map_push}
use Rattle.labels.specs.Pairs.{texts_of}
use Rattle.reply_reader.proofs.Replying.{member_more, pair_now}
use Rattle.reply_reader.proofs.reading.texts_of.Goals as goal

pub loop-name-preserved : goal.loop-name-preserved
loop-name-preserved c =
    let text = c.in-Some-as_str.text in
    let done = c.loop-name.texts.items in
    let name = c.as_str-in-loop-name in
    member_more _ c.loop-name.name-iterator c.next.new.self
    (c.in-Some.name.now, c.in-Some.value.now) _ _ text.now c.in-Some.ensures.steps
    c.in-Some-as_str.ensures
    (ap texts_of c.in_ok-push.ensures.items
    ∙ map_push pair_now done (name.result, text)
    ∙ ap (λ (n : List ℕ). texts_of done ++ (n, text.now) ∷ []) name.ensures.value)
    c.loop-name.invariant
