use Rattle.std.proofs.Common.{◌∙◌}
use Rattle.index_reader.proofs.Within.{all_map}
use Rattle.index_reader.proofs.offset_table.are_within.Goals as goal

pub returns-clause-exact : goal.returns-clause-exact
returns-clause-exact c = c.all_within.ensures ∙ all_map c.args.from c.args.to c.args.table.now
