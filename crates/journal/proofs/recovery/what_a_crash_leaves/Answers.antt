use Rattle.std.proofs.Common.{◌-◌, ◌≤◌, length, arith}
use Rattle.journal.specs.Records.{records_of, whole_in}
use Rattle.journal.proofs.Files.{cut_recovers, kept_whole, length-file}
use Rattle.journal.proofs.Scans.{one_reading}
use Rattle.journal.proofs.recovery.what_a_crash_leaves.Goals as goal

pub returns-clause-leaves : goal.returns-clause-leaves
returns-clause-leaves c contents n each le = cut_recovers n contents each le

pub returns-clause-synced : goal.returns-clause-synced
returns-clause-synced c synced later n le =
    let few : length (records_of synced) ≤ n - 5 = omega (arith, length-file synced) in
    (whole_in (n - 5 - length (records_of synced)) later, kept_whole (n - 5) synced later few)

pub returns-clause-one : goal.returns-clause-one
returns-clause-one c file a b fits h i = one_reading file a b fits h i
