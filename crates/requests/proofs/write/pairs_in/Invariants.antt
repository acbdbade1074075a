use Rattle.std.proofs.Common.{◌≡◌, ◌++◌, option_map}
use Rattle.labels.specs.Pairs.{pairs_of}
use Rattle.serde_json.specs.View.{members_view}
use Rattle.requests.specs.Rows.{pairs_in}
use Rattle.requests.proofs.write.pairs_in.Given as goal

abbrev pub invariant-loop-name : goal.invariant-loop-name
invariant-loop-name l =
    pairs_in (members_view l.members.entries) ≡ option_map (λ ps. pairs_of l.pairs.items ++ ps)
    (pairs_in (members_view l.name-iterator))
