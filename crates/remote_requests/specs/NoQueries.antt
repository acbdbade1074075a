-- What is said of a query that was not made.
use Rattle.std.specs.Prelude.{⊤}
use Rattle.remote_requests.specs.declared.reads.NoQuery.{NoQuery}
use Rattle.remote_requests.specs.declared.reads.NoQuery.TheVariants.{Memory, Fault}
use Rattle.remote_requests.specs.declared.refusal.QueryFault.{QueryFault}

-- why no query was made; memory may fail at any time
abbrev pub OrMemory : (QueryFault → Type 0) → NoQuery → Type 0
OrMemory cause Memory = ⊤
OrMemory cause (Fault why) = cause why
