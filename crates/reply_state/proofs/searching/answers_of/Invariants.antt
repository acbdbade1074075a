use Rattle.std.proofs.Common.{◌≡◌, ◌++◌}
use Rattle.std.specs.List.{flat_map}
use Rattle.std.specs.Vec.Iter.{into_iter_items}
use Rattle.auditor.specs.Judgements.{answers_of}
use Rattle.reply_state.proofs.searching.answers_of.Given as goal

abbrev pub invariant-loop-part : goal.invariant-loop-part
invariant-loop-part l =
    flat_map answers_of l.fn.parts.items
    ≡ l.answers.items ++ flat_map answers_of (into_iter_items l.part-iterator)
