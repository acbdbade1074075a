use Rattle.labels.specs.Labels.{pair_cmp}
use Rattle.block_writer.proofs.Found.{once_of_those}
use Rattle.block_writer.proofs.symbols.pairs_of.Goals as goal

pub returns-clause-held : goal.returns-clause-held
returns-clause-held c =
    once_of_those pair_cmp _ _ _ c.in_ok-pairs.ensures.held c.keep_once.ensures

pub returns-clause-typed : goal.returns-clause-typed
returns-clause-typed c = c.in_ok-pairs.ensures.typed
