use Rattle.std.proofs.Common.{◌≡◌, ◌-◌, ◌++◌, ◌∷◌, [], arith}
use Rattle.std.proofs.lemmas.Result.{err_from_is_err_and}
use Rattle.std.proofs.lemmas.List.{map_push}
use Rattle.index_reader.specs.Reading.Table.{table_entry_at}
use Rattle.index_reader.specs.Seen.{table_entry_seen, table_seen}
use Rattle.index_reader.proofs.Stepping.{goes_on, ends, is_done, with_nil}
use Rattle.index_reader.proofs.offset_table.read_entries.Goals as goal

pub loop-init : goal.loop-init
loop-init c =
    let z : c.args.count - 0 ≡ c.args.count = omega arith in
    rw (c.new-table.ensures.items, z) (with_nil _)

pub returns-in_err-read_entry : goal.returns-in_err-read_entry
returns-in_err-read_entry c =
    let p = err_from_is_err_and c.from_residual.result c.from_residual.ensures.1 in
    rw (p.1, p.2)
    (ends table_entry_at c.in_err-read_entry.field-0.0 (table_seen c.loop.table.items) c.args.count
    c.loop.counter c.loop.cut _ c.loop-test.true c.in_err-read_entry.ensures
    c.loop.invariant)

pub loop-preserved : goal.loop-preserved
loop-preserved c =
    let s = c.in_ok-read_entry.field-0 in
    let e : table_seen c.push.new.self.items
    ≡ table_seen c.loop.table.items ++ table_entry_seen s ∷ [] =
    rw c.in_ok-push.ensures.items (map_push table_entry_seen c.loop.table.items s) in
    rw e (goes_on table_entry_at (table_seen c.loop.table.items) c.args.count c.loop.counter
    c.loop.cut (table_entry_seen s) c.read_entry.new.cut _ c.loop-test.true
    c.in_ok-read_entry.ensures c.loop.invariant)

pub returns : goal.returns
returns c =
    is_done table_entry_at (table_seen c.loop.table.items) c.args.count c.loop.counter
    c.loop.cut _ c.loop-test.false c.loop.invariant
