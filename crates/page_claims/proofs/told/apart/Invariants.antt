use Rattle.std.proofs.Common.{◌≡◌, ◌++◌, map}
use Rattle.std.specs.List.{flat_map}
use Rattle.std.specs.Vec.Iter.{into_iter_items}
use Rattle.auditor.specs.Judgements.{answers_of}
use Rattle.page_claims.specs.Judging.{place_of}
use Rattle.page_claims.proofs.told.apart.Given as goal

abbrev pub invariant-loop-part : goal.invariant-loop-part
invariant-loop-part l =
    (flat_map answers_of l.fn.reply.parts.items
    ≡ l.answers.items ++ flat_map answers_of (into_iter_items l.part-iterator))
    × (map place_of l.fn.reply.parts.items
    ≡ l.places.items ++ map place_of (into_iter_items l.part-iterator))
