-- The text of what a server tells of itself.
use Rattle.std.specs.Prelude.{ℕ, ℤ, List, ◌++◌, codes, decimal}
use Rattle.server_metrics.specs.declared.counts.Counts.{Counts}
use Rattle.server_metrics.specs.declared.counts.PathCounts.{PathCounts}
use Rattle.server_metrics.specs.declared.counts.State.{State}
use Rattle.server_metrics.specs.declared.counts.Times.{Times}
use Rattle.server_metrics.specs.declared.names.Family.{Family}
use Rattle.server_metrics.specs.declared.names.Family.TheVariants as families
use Rattle.server_metrics.specs.declared.names.Row.TheVariants as row_of
use Rattle.server_metrics.specs.declared.rows.Kind.{Kind}
use Rattle.server_metrics.specs.declared.rows.Kind.TheVariants.{Counter, Gauge, Histogram}
use Rattle.server_metrics.specs.Bounds.{bounds, statuses, port_statuses, refusals}
use Rattle.server_metrics.specs.Names.{name_of, help_of, row_name, refusal_front, port_front}
use Rattle.server_metrics.specs.Names.{event_front, version_front, kit_front}
use Rattle.server_metrics.specs.Numbers.{seconds_text, signed_text}
use Rattle.server_metrics.specs.Rows.{head_text, plain_text, row_text, rows_text, path_text}
use Rattle.server_metrics.specs.Rows.{front_text, buckets_text, total, end_text}

-- what stands before the rows of a family
unfoldable pub family_head : Family → Kind → List ℕ
family_head family kind = head_text (name_of family) kind (help_of family)

-- a counter without labels
unfoldable pub counter_text : Family → ℕ → List ℕ
counter_text family n = family_head family Counter ++ plain_text (name_of family) (decimal n)

-- a gauge without labels
unfoldable pub gauge_text : Family → ℕ → List ℕ
gauge_text family n = family_head family Gauge ++ plain_text (name_of family) (decimal n)

-- the replies of a path, by status
unfoldable pub replies_text : List ℕ → PathCounts → List ℕ
replies_text path counts =
    rows_text (front_text (name_of families.Requests) path (codes "status"))
    statuses counts.replies

unfoldable pub changes_replies_text : Counts → List ℕ
changes_replies_text counts =
    replies_text (codes "write") counts.write
    ++ replies_text (codes "delete") counts.delete
    ++ replies_text (codes "cut") counts.cut

unfoldable pub requests_text : Counts → List ℕ
requests_text counts =
    family_head families.Requests Counter
    ++ replies_text (codes "select") counts.select
    ++ changes_replies_text counts
    ++ replies_text (codes "other") counts.other

unfoldable pub refusals_text : Counts → List ℕ
refusals_text counts =
    family_head families.Refusals Counter
    ++ rows_text refusal_front refusals counts.refusals

unfoldable pub events_text : Counts → List ℕ
events_text counts =
    family_head families.Events Counter
    ++ row_text event_front (codes "batch") counts.batches
    ++ row_text event_front (codes "deletion") counts.deletions
    ++ row_text event_front (codes "cut") counts.cuts

unfoldable pub sums_text : Counts → List ℕ
sums_text counts =
    counter_text families.Samples counts.samples
    ++ counter_text families.Bytes counts.bytes

-- the buckets of a path: at each bound and below, and then all
unfoldable pub buckets_of : List ℕ → Times → List ℕ
buckets_of path times =
    buckets_text (front_text (row_name row_of.Bucket) path (codes "le"))
    0 bounds times.counts
    ++ row_text
    (front_text (row_name row_of.Bucket) path (codes "le"))
    (codes "+Inf") (total times.counts)

-- the histogram of a path
unfoldable pub times_text : List ℕ → Times → List ℕ
times_text path times =
    buckets_of path times
    ++ path_text (row_name row_of.Sum) path
    (seconds_text times.microseconds)
    ++ path_text (row_name row_of.Count) path
    (decimal (total times.counts))

unfoldable pub changes_times_text : Counts → List ℕ
changes_times_text counts =
    times_text (codes "write") counts.write.times
    ++ times_text (codes "delete") counts.delete.times
    ++ times_text (codes "cut") counts.cut.times

unfoldable pub durations_text : Counts → List ℕ
durations_text counts =
    family_head families.Durations Histogram
    ++ times_text (codes "select") counts.select.times
    ++ changes_times_text counts
    ++ times_text (codes "other") counts.other.times

-- the replies of the port of Prometheus, by status
unfoldable pub port_text : Counts → List ℕ
port_text counts =
    family_head families.PortReplies Counter
    ++ rows_text port_front port_statuses counts.port_replies

-- what was counted
unfoldable pub counts_text : Counts → List ℕ
counts_text counts =
    requests_text counts ++ refusals_text counts ++ events_text counts ++ sums_text counts
    ++ durations_text counts ++ port_text counts

unfoldable pub floor_text : ℤ → List ℕ
floor_text floor =
    family_head families.Floor Gauge
    ++ plain_text (name_of families.Floor) (signed_text floor)

unfoldable pub head_state_text : State → List ℕ
head_state_text state =
    gauge_text families.HeadSeries state.series
    ++ gauge_text families.HeadSamples state.samples
    ++ floor_text state.floor

unfoldable pub workers_text : State → List ℕ
workers_text state =
    gauge_text families.Workers state.workers
    ++ gauge_text families.Busy state.busy
    ++ gauge_text families.PortConnections state.port_connections

unfoldable pub process_text : State → List ℕ
process_text state =
    gauge_text families.Blocks state.blocks
    ++ workers_text state
    ++ gauge_text families.Resident state.resident

-- the versions, up to the last quote
unfoldable pub versions_text : State → List ℕ
versions_text state =
    version_front ++ state.version.now ++ kit_front ++ state.kit.now

unfoldable pub build_text : State → List ℕ
build_text state =
    family_head families.Build Gauge
    ++ versions_text state ++ end_text (decimal 1)

-- how a server stands
unfoldable pub state_text : State → List ℕ
state_text state = head_state_text state ++ process_text state ++ build_text state

-- the joins of blocks
unfoldable pub joins_text : Counts → List ℕ
joins_text counts =
    counter_text families.Joins counts.joins
    ++ counter_text families.Removed counts.removed

-- all of it
unfoldable pub server_metrics : Counts → State → List ℕ
server_metrics counts state = counts_text counts ++ state_text state ++ joins_text counts
