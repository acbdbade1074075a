use Rattle.std.proofs.Common.{◌≡◌, ◌∙◌, rules}
use Rattle.std.proofs.lemmas.Fn.{always_returns_same}
use Rattle.index_reader.specs.declared.offset_table.TableEntry.{TableEntry}
use Rattle.index_reader.specs.Layout.{is_before}
use Rattle.index_reader.specs.Seen.{table_entry_seen}
use Rattle.index_reader.proofs.Rising.{by_neighbours, of_mapped}
use Rattle.index_reader.proofs.offset_table.is_rising.Goals as goal

pub returns : goal.returns
returns c =
    let xs = c.args.table.now in
    let before = λ (a b : TableEntry). is_before (table_entry_seen a) (table_entry_seen b) in
    by_neighbours before xs c.is_sorted_by.result
    (c.is_sorted_by.ensures.cases before (always_returns_same _
    (λ a r. r ≡ before a.0.now a.1.0.now) _ (λ a r q k. search rules)))
    ∙ of_mapped table_entry_seen is_before xs
