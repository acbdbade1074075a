-- What the checks of the layout leave for those after them.
use Rattle.std.specs.Prelude.{◌≡◌, ℕ, ◌≤◌, ◌<◌, ◌^◌, true, List, length}
use Rattle.std.specs.List.{All}
use Rattle.block_walk.specs.declared.layout.Layout.{Layout}
use Rattle.block_walk.specs.IndexFile.Layout.{IsPlaced, ascending}
use Rattle.block_walk.specs.IndexFile.Seen.{texts}

-- the parts stand in their order, symbols are few and ascend, and entries stand in the file
pub record IsSoundLayout (file : List ℕ) (o : Layout) : Type 0 where
  pub placed : IsPlaced o.contents (length file)
  pub few : length o.symbols.items < 2 ^ 32
  pub order : ascending (texts o.symbols.items) ≡ true
  pub offsets : All (λ e. e.offset ≤ length file) o.entries.items
  pub small : All (λ e. e.offset < 2 ^ 32) o.entries.items
