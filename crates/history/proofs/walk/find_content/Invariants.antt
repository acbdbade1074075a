use Rattle.std.proofs.Common.{◌≡◌, map, take}
use Rattle.labels.specs.Parts.{content_of}
use Rattle.matchers.specs.Queries.{selected_by}
use Rattle.history.proofs.walk.find_content.Given as goal

abbrev pub invariant-loop-block : goal.invariant-loop-block
invariant-loop-block l =
    l.content.entries
    ≡ selected_by l.query (content_of (map (λ b. b.part) (take l.block-index l.block-items)))
