-- What a query asks for.
use Rattle.std.specs.Prelude.{map}
use Rattle.labels.specs.Parts.{Part, within}
use Rattle.matchers.specs.Views.{QueryView}

-- a part, with the samples in the range alone
abbrev pub part_within : QueryView → Part → Part
part_within query part = map (λ row. (row.0, (row.1.0, within query.from query.to row.1.1))) part
