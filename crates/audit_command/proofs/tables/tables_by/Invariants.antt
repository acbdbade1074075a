use Rattle.std.proofs.Common.{take}
use Rattle.audit_command.specs.Reading.{paths_of}
use Rattle.audit_command.specs.Walking.{AreTablesAt}
use Rattle.audit_command.proofs.tables.tables_by.Given as goal

abbrev pub invariant-loop-directory : goal.invariant-loop-directory
invariant-loop-directory g l =
    AreTablesAt (g.F.ReadFiles.may_read l.fn.files) (take l.directory-index (paths_of l.directories)) l.tables.items
