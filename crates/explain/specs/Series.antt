-- Why no series is read of what somebody asks about.
use Rattle.std.specs.Prelude.{ℕ, List}
use Rattle.asked_series.specs.Series.{IsNoSeries}
use Rattle.audit_command.specs.declared.fault.Fault.TheVariants as faults
use Rattle.explain.specs.declared.fault.Fault.{Fault}
use Rattle.explain.specs.declared.fault.Fault.TheVariants.{Audit, NoSeries}

-- why no series is read: the text is none, or memory failed
abbrev pub IsSeriesFault : List ℕ → Fault → Type 0
IsSeriesFault text NoSeries = IsNoSeries text
IsSeriesFault text (Audit faults.Memory) = Unit {0}
IsSeriesFault text fault = ⊥
