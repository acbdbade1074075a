use Rattle.std.proofs.Common.{◌≡◌, ◌++◌, List, drop, option_map}
use Rattle.serde_json.specs.View.{items_view}
use Rattle.requests.specs.Rows.{WrittenRow, rows_in, AreRowsOf}
use Rattle.requests.proofs.write.rows_in.Given as goal

abbrev pub invariant-loop-item : goal.invariant-loop-item
invariant-loop-item l =
    (written : List WrittenRow) × AreRowsOf written l.rows.items
    × (rows_in (items_view l.items) ≡ option_map (λ rs. written ++ rs) (rows_in
    (items_view (drop l.item-index l.items))))
