use Rattle.std.proofs.Common.{ℕ, List, [], sym, arith}
use Rattle.std.proofs.lemmas.Option.{get_or_from_slice_get}
use Rattle.remote_listings.proofs.TextSets.{name_of, one_added, texts_turn}
use Rattle.remote_listings.proofs.texts.add_names.Goals as goal

pub loop-at-preserved : goal.loop-at-preserved
loop-at-preserved c =
    let labels = c.args.labels.now in
    let none : List ℕ × List ℕ = ([], []) in
    let pair : List ℕ × List ℕ = (c.pair.result.0.now, c.pair.result.1.now) in
    texts_turn name_of labels c.loop-at.at pair none c.loop-at.names c.insert.new.self _
    (omega arith) (sym (get_or_from_slice_get labels c.loop-at.at pair none c.pair.ensures))
    (one_added c.loop-at.names c.insert.new.self c.pair.result.0 c.in_ok-insert.ensures.keys)
    c.loop-at.invariant
