use Rattle.std.proofs.Common.{sym, ap}
use Rattle.labels.specs.Parts.{labels_in}
use Rattle.block.proofs.Showing.{labels_are, rising, row_is_none}
use Rattle.block.proofs.blocks.Block.labels_of.Goals as goal

pub returns-in_ok-labels-in-Some : goal.returns-in_ok-labels-in-Some
returns-in_ok-labels-in-Some c =
    sym (labels_are c.deref.result.now c.self.inside c.args.self.now c.deref.ensures c.self.view_is
    c.in-Some.at c.args.reference c.in_ok-labels-in-Some.labels
    (rising c.deref.result.now c.self.inside c.deref.ensures
    c.self.invariant) c.in-Some.ensures.found c.in_ok-labels-in-Some.ensures)

pub returns-in-None : goal.returns-in-None
returns-in-None c =
    sym (ap labels_in (row_is_none c.deref.result.now c.self.inside c.args.self.now c.deref.ensures
    c.self.view_is c.args.reference c.in-None.ensures.none))
