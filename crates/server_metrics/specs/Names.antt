-- The names of families, and what they are.
use Rattle.std.specs.Prelude.{ℕ, List, codes}
use Rattle.server_metrics.specs.declared.names.Family.{Family}
use Rattle.server_metrics.specs.declared.names.Family.TheVariants as families
use Rattle.server_metrics.specs.declared.names.Row.{Row}
use Rattle.server_metrics.specs.declared.names.Row.TheVariants as row_of

unfoldable pub name_of : Family → List ℕ
name_of families.Requests = codes "fuzzledge_requests_total"
name_of families.Refusals = codes "fuzzledge_refusals_total"
name_of families.Events = codes "fuzzledge_events_total"
name_of families.Samples = codes "fuzzledge_samples_accepted_total"
name_of families.Bytes = codes "fuzzledge_replied_bytes_total"
name_of families.Durations = codes "fuzzledge_request_duration_seconds"
name_of families.PortReplies = codes "fuzzledge_prometheus_port_replies_total"
name_of families.HeadSeries = codes "fuzzledge_head_series"
name_of families.HeadSamples = codes "fuzzledge_head_samples"
name_of families.Floor = codes "fuzzledge_head_floor"
name_of families.Blocks = codes "fuzzledge_blocks"
name_of families.Workers = codes "fuzzledge_workers"
name_of families.Busy = codes "fuzzledge_workers_busy"
name_of families.PortConnections = codes "fuzzledge_prometheus_port_connections"
name_of families.Resident = codes "process_resident_memory_bytes"
name_of families.Build = codes "fuzzledge_build_info"
name_of families.Joins = codes "fuzzledge_joins_total"
name_of families.Removed = codes "fuzzledge_removed_blocks_total"

unfoldable pub help_of : Family → List ℕ
help_of families.Requests = codes "Requests for which a reply was made, by path and status."
help_of families.Refusals = codes "Refusals of requests, by code."
help_of families.Events = codes "Events that the store accepted, by kind."
help_of families.Samples = codes "Samples of the batches that the store accepted."
help_of families.Bytes = codes "Bytes of replies, with their heads."
help_of families.Durations = codes "Time from accepting a connection to its whole reply, by path."
help_of families.PortReplies = codes "Replies on the port of Prometheus, by status."
help_of families.HeadSeries = codes "Series in the head."
help_of families.HeadSamples = codes "Samples in the head."
help_of families.Floor =
    codes "Least time at which the head takes samples, in the unit of their times."
help_of families.Blocks = codes "Blocks that are searched."
help_of families.Workers = codes "Workers."
help_of families.Busy = codes "Workers that serve a connection."
help_of families.PortConnections = codes "Connections on the port of Prometheus."
help_of families.Resident = codes "Memory that the process occupies."
help_of families.Build =
    codes "1, with the version of the program and of the kit that it was made with."
help_of families.Joins = codes "Joins of blocks that the store accepted."
help_of families.Removed = codes "Blocks that left since no sample was left in them."

-- the names of the rows of a histogram
unfoldable pub row_name : Row → List ℕ
row_name row_of.Bucket = codes "fuzzledge_request_duration_seconds_bucket"
row_name row_of.Sum = codes "fuzzledge_request_duration_seconds_sum"
row_name row_of.Count = codes "fuzzledge_request_duration_seconds_count"

-- what stands before a code
unfoldable pub refusal_front : List ℕ
refusal_front = codes "fuzzledge_refusals_total{code=\"H"

-- what stands before the status of a reply of the port of Prometheus
unfoldable pub port_front : List ℕ
port_front = codes "fuzzledge_prometheus_port_replies_total{status=\""

-- what stands before a kind
unfoldable pub event_front : List ℕ
event_front = codes "fuzzledge_events_total{kind=\""

-- what stands before the version of the program
unfoldable pub version_front : List ℕ
version_front = codes "fuzzledge_build_info{version=\""

-- what stands before the version of the kit
unfoldable pub kit_front : List ℕ
kit_front = codes "\",kit=\""
