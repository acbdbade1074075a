use Rattle.std.proofs.Common.{◌≡◌, ℕ, ◌<◌, ◌≤◌, Some, List, length, ◌++◌, ◌∷◌, [], arith}
use Rattle.std.specs.Borrow.{Bor}
use Rattle.std.specs.List.{All}
use Rattle.std.specs.Prelude.{slice_get}
use Rattle.std.proofs.lemmas.Option.{get_or_from_slice_get}
use Rattle.index_reader.specs.declared.offset_table.TableEntry.{TableEntry}
use Rattle.std.proofs.lemmas.Result.{err_from_is_err_and}
use Rattle.std.proofs.lemmas.List.{map_push, length-map}
use Rattle.index_reader.specs.Reading.Postings.{section_at}
use Rattle.index_reader.specs.Seen.{table_entry_seen, table_seen, bytes_of}
use Rattle.index_reader.proofs.Eaches.{items_nil, each_on, each_fails, each_done}
use Rattle.index_reader.proofs.postings.sections_of.Goals as goal

pub loop-at-init : goal.loop-at-init
loop-at-init c = rw c.in_ok-contents.ensures.items (items_nil _)

pub returns-in_err-content : goal.returns-in_err-content
returns-in_err-content c =
    let p =
    err_from_is_err_and c.from_residual-in_err-content.result
    c.from_residual-in_err-content.ensures.1 in
    rw (p.1, p.2) (each_fails (section_at c.args.file.now c.args.to) c.in_err-content.field-0.0
    (table_seen c.args.table.now) c.loop-at.at _ (bytes_of c.loop-at.contents.items) _
    c.table_entry_at-listed.ensures.seen c.in_err-content.ensures c.loop-at.invariant)

pub loop-at-preserved : goal.loop-at-preserved
loop-at-preserved c =
    let e : bytes_of c.push.new.self.items
    ≡ bytes_of c.loop-at.contents.items ++ c.in_ok-content.content.now ∷ [] =
    rw c.in_ok-push.ensures.items
    (map_push (λ (x : Bor (List ℕ)). x.now) c.loop-at.contents.items c.in_ok-content.content) in
    rw e (each_on (section_at c.args.file.now c.args.to) (table_seen c.args.table.now) c.loop-at.at
    _ c.in_ok-content.content.now (bytes_of c.loop-at.contents.items) _
    c.table_entry_at-listed.ensures.seen c.in_ok-content.ensures c.loop-at.invariant)

pub returns : goal.returns
returns c =
    each_done (section_at c.args.file.now c.args.to) (table_seen c.args.table.now) c.loop-at.at
    (bytes_of c.loop-at.contents.items) _
    (omega (arith, length-map c.args.table.now table_entry_seen)) c.loop-at.invariant

offset_fits : (table : List TableEntry) (to i : ℕ) (l : TableEntry)
    → All (λ (x : TableEntry). x.offset ≤ to) table → i < length table
    → slice_get table i ≡ Some l → l.offset ≤ to
offset_fits table to i l h lt g = rw (get_or_from_slice_get table i l l g) at (h i l lt)

pub section_of-requires-clause-within : goal.section_of-requires-clause-within
section_of-requires-clause-within c =
    offset_fits c.args.table.now c.args.to c.loop-at.at _ c.requires.within c.loop-at-test.true
    c.table_entry_at-listed.ensures.value
