use Rattle.std.proofs.Common.{◌≡◌, ◌++◌, ◌∷◌, [], ◌/◌, ℕ, List, length, ap, ◌∙◌, arith}
use Rattle.index_reader.specs.Grammar.{entry}
use Rattle.index_reader.specs.Seen.{bytes_of}
use Rattle.block_writer.specs.EntryBodies.{body_of}
use Rattle.block_writer.proofs.Neighbours.{from_read}
use Rattle.block_writer.proofs.Building.{too_far, entry_on, reference_on, room_on, entries_done}
use Rattle.block_writer.proofs.Building.{references_done}
use Rattle.block_writer.proofs.entries.put_entries.Goals as goal

pub returns-then-len-gt-MAX_LEN-clause-reason : goal.returns-then-len-gt-MAX_LEN-clause-reason
returns-then-len-gt-MAX_LEN-clause-reason c =
    let here =
    from_read c.args.rows.now c.loop-row.row-index c.row-item.result (omega arith) c.row-item.is in
    too_far (bytes_of c.args.symbols.now) c.args.rows.now c.loop-row.row-index c.loop-row.place
    c.row-item.result c.loop-row.out.items c.pad.new.out.items _ here c.in_ok-pad.ensures
    (omega arith) c.loop-row.invariant.0

pub loop-row-preserved : goal.loop-row-preserved
loop-row-preserved c =
    let here =
    from_read c.args.rows.now c.loop-row.row-index c.row-item.result (omega arith) c.row-item.is in
    let body : c.put_body.new.out.items
    ≡ body_of (bytes_of c.args.symbols.now) c.loop-row.place c.row-item.result =
    c.in_ok-place.ensures.text
    ∙ ap (λ (xs : List ℕ). xs ++ body_of (bytes_of c.args.symbols.now) c.loop-row.place
    c.row-item.result) c.clear.ensures.items in
    let grown : c.put_entry.new.out.items ≡ c.pad.new.out.items ++ entry c.put_body.new.out.items =
    grind arith in
    let pushed : c.push.new.self.items
    ≡ c.loop-row.references.items ++ length c.pad.new.out.items / 16 ∷ [] = grind arith in (
      entry_on (bytes_of c.args.symbols.now) c.args.rows.now c.loop-row.row-index c.loop-row.place
          c.in_ok-place.place c.row-item.result c.loop-row.out.items c.pad.new.out.items
          c.put_entry.new.out.items c.put_body.new.out.items _
          here body c.in_ok-pad.ensures grown c.in_ok-place.ensures.behind c.loop-row.invariant.0,
      reference_on (bytes_of c.args.symbols.now) c.args.rows.now c.loop-row.row-index
          c.loop-row.place c.in_ok-place.place c.row-item.result c.loop-row.out.items
          c.pad.new.out.items c.put_entry.new.out.items c.put_body.new.out.items
          c.loop-row.references.items c.push.new.self.items _
          here body c.in_ok-pad.ensures grown c.in_ok-place.ensures.behind pushed
          c.loop-row.invariant.1,
      room_on c.args.rows.now c.loop-row.row-index c.loop-row.place c.in_ok-place.place
          c.row-item.result here c.in_ok-place.ensures.behind c.loop-row.invariant.2,
    )

pub returns-clause-text : goal.returns-clause-text
returns-clause-text c =
    entries_done (bytes_of c.args.symbols.now) c.args.rows.now c.loop-row.row-index c.loop-row.place
    c.loop-row.out.items _ (omega arith) c.loop-row.invariant.0

pub returns-clause-references : goal.returns-clause-references
returns-clause-references c =
    references_done (bytes_of c.args.symbols.now) c.args.rows.now c.loop-row.row-index
    c.loop-row.place (length c.loop-row.out.items) c.loop-row.references.items _ (omega arith)
    c.loop-row.invariant.1
