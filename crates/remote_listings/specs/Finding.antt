-- The label sets that a certificate's matches stand for.
use Rattle.std.specs.Prelude.{Option, None, if◌then◌else◌}
use Rattle.labels.specs.Labels.{Labels}
use Rattle.labels.specs.Parts.{Part, labels_in, row_at}
use Rattle.cover.specs.Certificates.{is_match}
use Rattle.cover.specs.declared.certificate.Interval.{Interval}

-- the label set that an interval stands for: under Match that of its one reference, and else none
abbrev pub labels_of_interval : Part → Interval → Option Labels
labels_of_interval part interval =
    if is_match interval.verdict then labels_in (row_at interval.from part) else None
