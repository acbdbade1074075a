use Rattle.blocktool.proofs.Given.{converted_by}
use Rattle.blocktool.proofs.conversion.convert_one.Goals as goal

pub returns-clause-converted : goal.returns-clause-converted
returns-clause-converted g c = (
  c.in_ok-rows.rows,
  converted_by g.I.Input.may_give g.D.Disk.did _ _ _ _ _ _ _ _ _ _ c.as_slice.ensures.value
      c.in_ok-rows.ensures c.in_ok-write_rows.ensures,
)
