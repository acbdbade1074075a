-- The part that a view shows.
use Rattle.labels.specs.Parts.{Part}
use Rattle.block.specs.declared.view.BlockView.{BlockView}

abbrev pub part_of : BlockView → Part
part_of view = view.block.now.part
