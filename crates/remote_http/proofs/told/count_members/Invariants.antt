use Rattle.std.proofs.Common.{◌≡◌, drop, map}
use Rattle.std.specs.Prelude.{fold}
use Rattle.serde_json.specs.View.{members_view}
use Rattle.remote_http.specs.Counting.{count_seen}
use Rattle.remote_http.specs.Told.{count_members, with_count}
use Rattle.remote_http.proofs.told.count_members.Given as goal

abbrev pub invariant-loop-code : goal.invariant-loop-code
invariant-loop-code l =
    fold with_count (members_view l.members.entries) (map count_seen (drop l.code-index l.counts))
    ≡ count_members (map count_seen l.counts)
