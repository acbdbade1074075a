use Rattle.audit_command.proofs.WholeFiles.{whole_of, whole_found, whole_known}
use Rattle.audit_command.proofs.tables.table_at.Goals as goal

pub returns-clause-ok : goal.returns-clause-ok
returns-clause-ok g c = record {
  files = whole_of _ _ c.in_ok-block.block c.in_ok-block.ensures.ok;
  found = whole_found _ _ c.in_ok-block.block c.in_ok-block.ensures.ok;
  known = whole_known _ _ c.in_ok-block.block c.in_ok-block.ensures.ok _ c.in_ok-walk.ensures;
}
