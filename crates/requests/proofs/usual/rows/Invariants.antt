use Rattle.std.proofs.Common.{List, length}
use Rattle.requests.specs.Rows.{WrittenRow, AreRowsOf, rows_in}
use Rattle.requests.proofs.UsualTexts.{ItemsSoFar}
use Rattle.requests.proofs.usual.rows.Given as goal

abbrev pub invariant-rows : goal.invariant-rows
invariant-rows l = (written : List WrittenRow) × AreRowsOf written l.rows.items
    × ItemsSoFar rows_in 3 l.initial.reader written l.reader

abbrev pub decreases-rows : goal.decreases-rows
decreases-rows l = length l.reader
