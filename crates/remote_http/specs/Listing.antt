-- What a listing comes to: the names, values or label sets of one snapshot, and the reply that
-- tells them.
use Rattle.std.specs.Prelude.{◌≡◌, ◌⊎◌, ℕ, List, Option}
use mathlib.Core.List.{IsPrefix}
use Rattle.matchers.specs.Views.{QueryView}
use Rattle.head.specs.Heads.{SnapshotParts}
use Rattle.snapshots.specs.Replays.{IsAfter}
use Rattle.snapshots.specs.Views.{Known}
use Rattle.remote_listings.specs.Spelled.{names_body, series_body, values_body}
use Rattle.remote_requests.specs.declared.asked.Listing.{Listing}
use Rattle.remote_requests.specs.declared.refusal.Refusal.TheVariants.{Unavailable}
use Rattle.remote_requests.specs.declared.status.Status.{Status}
use Rattle.remote_requests.specs.declared.status.Status.TheVariants.{Done}
use Rattle.remote_requests.specs.Parameters.{Wanted, names, series, values, wanted_seen}
use Rattle.remote_http.specs.Text.{json_text}
use Rattle.remote_http.specs.Writing.{IsReplyOfRefusal}

abbrev pub body_by : SnapshotParts → List QueryView → Option ℕ → Wanted → List ℕ
body_by snapshot queries limit names = names_body snapshot queries limit
body_by snapshot queries limit (values name) = values_body snapshot queries name limit
body_by snapshot queries limit series = series_body snapshot queries limit

-- the body of a listing of a snapshot
abbrev pub body_of : SnapshotParts → Listing → List ℕ
body_of snapshot listing =
    body_by snapshot listing.queries.items listing.limit (wanted_seen listing.wanted)

-- The reply lists one snapshot. It is what all that the pass has seen then makes of the opening,
-- which begins with what it had seen and with what receipts had told it.
pub record IsListedReply (opening : SnapshotParts) (listing : Listing) (before after : Known)
    (status : Status) (text : List ℕ) : Type 0 where
  pub seen : IsPrefix before.seen after.seen
  pub told : IsPrefix before.told after.seen
  pub snapshot : SnapshotParts
  pub replay : IsAfter opening after.seen snapshot
  pub number : status ≡ Done
  pub spelled : text ≡ json_text Done (body_of snapshot listing)

-- the reply to a request for a listing: it, or that the store lends no snapshot
abbrev pub IsListReply : SnapshotParts → Listing → Known → Known → Status → List ℕ → Type 0
IsListReply opening listing before after status text =
    IsListedReply opening listing before after status text
    ⊎ IsReplyOfRefusal Unavailable status text
