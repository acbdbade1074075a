use Rattle.blocktool.proofs.text_input.rows_said.Goals as goal

pub returns : goal.returns
returns c = (_, c.in_ok-rows.ensures, c.tell.ensures)
